-- Two records have one key and one first field just where row 4 refuses the later: the key's parts, one by one, and row 4 by record number.
-- Assumes nothing.
use mathlib.Core.Path.{◌≡◌, refl, sym, ap, ◌∙◌}
use mathlib.Core.Bool.{Bool, true, false, cond, ◌&&◌, ◌||◌}
use mathlib.Core.List.{List, ◌∷◌}
use Prim.Native.Nat.{ℕ, zero, suc, ◌+◌, ◌*◌, ◌%◌, ◌<◌}
use native.Mathlib.Omega.{arith}
use lib.ListN.{length}
use lib.Dec.{eqb}
use borrow.Author.Tests.{eqb-true, eqb-false, eq-eqb, ne_eqb}
use Rattle.names.specs.Lists.{In, same, padded}
use Rattle.names.specs.Names.{text, is_name}
use Rattle.names.proofs.Names.{name-padding}
use Rattle.names.proofs.Tests.{by_cases, both_ways, both, and_left, and_right}
use Rattle.names.proofs.Lists.{same_true, eq-same}
use Rattle.name_index.specs.Hash.{hash_of}
use Rattle.recipe.specs.Records.{Recipe, is_known, kind, places, is_model, is_element, is_port, is_submodel, is_replaced_by}
use Rattle.recipe.specs.Definitions.{holder, is_declared}
use Rattle.recipe.specs.Reading.{share_names}
use Rattle.recipe.proofs.Reading.{known, readable}
use Rattle.recipe.proofs.Bodies.{by_kind}
use Rattle.record_index.specs.Entries.{tag_of, tag_at, key_of}

-- two name fields of one width are the same where their names are
pub same-fields : (f g : List ℕ) → is_name f ≡ true → is_name g ≡ true → length f ≡ length g → same (text f) (text g) ≡ same f g
same-fields f g a b l =
    both_ways
    (λ e.
    let t : text f ≡ text g = same_true (text f) (text g) e in
    eq-same (name-padding (length g) f a l ∙ (ap (padded (length g)) t ∙ sym (name-padding (length g) g b refl))))
    (λ e. eq-same (ap text (same_true f g e)))

pub nothing : (b : Bool) → b && false ≡ false
nothing true = refl
nothing false = refl

-- ---- the key
pub same_keys : (t u : ℕ) (f g : List ℕ) → same (key_of t f ∷ f) (key_of u g ∷ g) ≡ eqb t u && same f g
same_keys t u f g =
    by_cases (same f g)
    (λ e.
    let p : f ≡ g = same_true f g e in
    let q : eqb (t * 32768 + hash_of f % 32768) (u * 32768 + hash_of g % 32768) ≡ eqb t u =
    rw p
    (both_ways
    (λ h. let z = eqb-true (t * 32768 + hash_of g % 32768) (u * 32768 + hash_of g % 32768) h in eq-eqb t u (omega arith))
    (λ h. let z = eqb-true t u h in eq-eqb (t * 32768 + hash_of g % 32768) (u * 32768 + hash_of g % 32768) (omega arith))) in
    ap (λ (b : Bool). b && same f g) q)
    (λ e. rw e (nothing (eqb (t * 32768 + hash_of f % 32768) (u * 32768 + hash_of g % 32768)) ∙ sym (nothing (eqb t u))))

-- ---- the space: by a number a below 5, which says what the kind is to row 4
home : ℕ → ℕ → ℕ → ℕ
home a p d = cond (eqb a 0) 0 (cond (eqb a 4) p d)

record Shape (k p d a : ℕ) : Type 0 where
  low : a < 5
  tag : tag_of k p d ≡ 8 * home a p d + a
  model : eqb k 1 ≡ eqb a 0
  declared : eqb k 2 || eqb k 4 ≡ eqb a 1
  port : eqb k 3 ≡ eqb a 2
  replaced : eqb k 7 ≡ eqb a 3

shape : (p d k : ℕ) → is_known k ≡ true → (a : ℕ) × Shape k p d a
unfolding tag_of home
shape p d =
    by_kind (λ k. (a : ℕ) × Shape k p d a)
    (0, record { low = omega arith; tag = refl; model = refl; declared = refl; port = refl; replaced = refl })
    (1, record { low = omega arith; tag = refl; model = refl; declared = refl; port = refl; replaced = refl })
    (2, record { low = omega arith; tag = refl; model = refl; declared = refl; port = refl; replaced = refl })
    (1, record { low = omega arith; tag = refl; model = refl; declared = refl; port = refl; replaced = refl })
    (4, record { low = omega arith; tag = refl; model = refl; declared = refl; port = refl; replaced = refl })
    (4, record { low = omega arith; tag = refl; model = refl; declared = refl; port = refl; replaced = refl })
    (3, record { low = omega arith; tag = refl; model = refl; declared = refl; port = refl; replaced = refl })
    (4, record { low = omega arith; tag = refl; model = refl; declared = refl; port = refl; replaced = refl })

two-parts : (x y a b : ℕ) → a < 5 → b < 5 → eqb (8 * x + a) (8 * y + b) ≡ eqb x y && eqb a b
two-parts x y a b h l =
    both_ways
    (λ e. let z = eqb-true (8 * x + a) (8 * y + b) e in both (eq-eqb x y (omega arith)) (eq-eqb a b (omega arith)))
    (λ e.
    let u = eqb-true x y (and_left (eqb x y) (eqb a b) e) in
    let v = eqb-true a b (and_right (eqb x y) (eqb a b) e) in
    eq-eqb (8 * x + a) (8 * y + b) (omega arith))

-- one space: two models, or two of one definition that share their names
spaces : ℕ → ℕ → Bool → Bool
spaces a b y = (eqb a 0 && eqb b 0) || (y && ((eqb a 1 && eqb b 1) || (eqb a 2 && eqb b 2) || (eqb a 3 && eqb b 3)))

-- of two numbers that differ, not both are c
differ : (a b c : ℕ) → eqb a b ≡ false → eqb a c && eqb b c ≡ false
differ a b c e =
    by_cases (eqb a c)
    (λ h. rw (h, ne_eqb b c (λ q. eqb-false a b e (eqb-true a c h ∙ sym q))))
    (λ h. rw h)

same-spaces : (a q p d e : ℕ) → a < 5 → (q ≡ p → ⊥) → eqb (home a q d) (home a p e) && true ≡ spaces a a (eqb d e)
unfolding home spaces
same-spaces zero q p d e l n = refl
same-spaces (suc zero) q p d e l n = refl
same-spaces (suc (suc zero)) q p d e l n = refl
same-spaces (suc (suc (suc zero))) q p d e l n = refl
same-spaces (suc (suc (suc (suc zero)))) q p d e l n = rw (ne_eqb q p n) (sym (nothing (eqb d e)))
same-spaces (suc (suc (suc (suc (suc a))))) q p d e l n = absurd (omega arith)

agree : (a b q p d e : ℕ) → a < 5 → (q ≡ p → ⊥) → eqb (home a q d) (home b p e) && eqb a b ≡ spaces a b (eqb d e)
unfolding spaces
agree a b q p d e l n =
    by_cases (eqb a b)
    (λ h. rw (← eqb-true a b h, eq-eqb a a refl) (same-spaces a q p d e l n))
    (λ h. rw (h, differ a b 0 h, differ a b 1 h, differ a b 2 h, differ a b 3 h) (nothing (eqb (home a q d) (home b p e)) ∙ sym (nothing (eqb d e))))

module _ (s : Recipe) where
  -- row 4, without the order of the two and the names
  abbrev pub sharing : ℕ → ℕ → Bool
  sharing q p = (is_model s q && is_model s p) || (eqb (holder s q) (holder s p) && share_names s q p)

  -- two records have one space just where row 4 looks at their names
  pub same-tags : (q p : ℕ) → In q (places s) → In p (places s) → (q ≡ p → ⊥) → eqb (tag_at s q) (tag_at s p) ≡ sharing q p
  unfolding tag_at is_model share_names is_declared is_element is_submodel is_port is_replaced_by spaces
  same-tags q p i j n =
      let a = shape q (holder s q) (kind s q) (known s q (readable s q i)) in
      let b = shape p (holder s p) (kind s p) (known s p (readable s p j)) in
      rw (a.1.tag, b.1.tag, a.1.model, b.1.model, a.1.declared, b.1.declared, a.1.port, b.1.port, a.1.replaced, b.1.replaced)
      (two-parts _ _ a.0 b.0 a.1.low b.1.low
      ∙ agree a.0 b.0 q p (holder s q) (holder s p) a.1.low n)
