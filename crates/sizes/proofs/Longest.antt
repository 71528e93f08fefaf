-- The longest flat name: none of a survivor's is longer, with a survivor one is so long, and it fits a field.
-- Assumes nothing.
use mathlib.Core.Path.{◌≡◌, refl, ap, ◌∙◌}
use mathlib.Core.Logic.{inl, inr}
use Prim.Native.Nat.{ℕ, ◌≤◌, max}
use native.Mathlib.Omega.{arith}
use native.Mathlib.Decide.{dec_le}
use mathlib.Core.List.{List, [], ◌∷◌, map}
use lib.ListN.{length}
use Rattle.names.specs.Lists.{In}
use Rattle.names.specs.Names.{text}
use Rattle.names.proofs.ListOrder.{pointwise-left, pointwise-right}
use Rattle.names.proofs.Lists.{in_map, map-in}
use Rattle.names.proofs.Names.{text-padded}
use Rattle.names.proofs.Judging.{row-none}
use Rattle.flat_table.specs.Table.{flat_width}
use Rattle.recipe.specs.Records.{Recipe}
use Rattle.tree.specs.Tree.{Node}
use Rattle.marks.specs.Marks.{survivors}
use Rattle.marks.proofs.Survivors.{survivor}
use Rattle.flat_names.specs.Prefixes.{flat_name}
use Rattle.flat_names.proofs.Lengths.{flat-name-bytes}
use Rattle.compose.specs.Rows.{refusal_rows, Unrefused}
use Rattle.composer.specs.Flat.{flat_field}
use Rattle.composer.specs.FlatRecords.{RecordOf, name_at, record_places}
use Rattle.composer.proofs.Characters.{flat-name-characters}
use Rattle.composer.proofs.Promises.{promises}
use Rattle.sizes.specs.Size.{greatest, longest_name}

-- ---- the greatest of some numbers: none is greater,
pub greatest-above : (ns : List ℕ) (n : ℕ) → In n ns → n ≤ greatest ns
unfolding greatest
greatest-above [] n i = absurd i
greatest-above (m ∷ ns) n (inl e) = omega (arith, e)
greatest-above (m ∷ ns) n (inr i) = omega (arith, greatest-above ns n i)

-- an equal number is in the list, too
same_in : {m n : ℕ} (ns : List ℕ) → m ≡ n → In n ns → In m ns
same_in ns e i = rw e i

-- it is one of them, if there are any,
pub greatest-in : (n : ℕ) (ns : List ℕ) → In (greatest (n ∷ ns)) (n ∷ ns)
unfolding greatest
greatest-in n [] = inl (omega arith)
greatest-in n (m ∷ ns) =
    elim (dec_le (greatest (m ∷ ns)) n) [
      | yes q ↦ inl (omega (arith, q))
      | no q ↦ inr (same_in (m ∷ ns) (big q) (greatest-in m ns))
    ]
  where
    big : ¬ (greatest (m ∷ ns) ≤ n) → max n (greatest (m ∷ ns)) ≡ greatest (m ∷ ns)
    big q = omega arith

-- and it is no greater than what none is greater than
pub greatest-below : (f : Node → ℕ) (w : ℕ) (xs : List Node) → ((x : Node) → In x xs → f x ≤ w) → greatest (map f xs) ≤ w
unfolding greatest
greatest-below f w [] h = omega arith
greatest-below f w (x ∷ xs) h = omega (arith, h x (inl refl), greatest-below f w xs (λ y i. h y (inr i)))

-- ---- the longest flat name
module _ (s : Recipe) where
  -- no survivor's is longer
  pub none-longer : (x : Node) → In x (survivors s) → length (flat_name s x) ≤ longest_name s
  unfolding longest_name
  none-longer x i = greatest-above _ _ (map-in (λ x. length (flat_name s x)) (survivors s) x i)

  -- one is so long
  pub one-longest : (length (survivors s) ≡ 0 → ⊥) → (x : Node) × In x (survivors s) × (longest_name s ≡ length (flat_name s x))
  unfolding longest_name
  one-longest n = in_map (λ x. length (flat_name s x)) (survivors s) _ (some (survivors s) n)
    where
      some : (xs : List Node) → (length xs ≡ 0 → ⊥) → In (greatest (map (λ x. length (flat_name s x)) xs)) (map (λ x. length (flat_name s x)) xs)
      some [] h = absurd (h refl)
      some (x ∷ xs) h = greatest-in (length (flat_name s x)) (map (λ x. length (flat_name s x)) xs)

  -- ---- of a recipe that no row before 13 refuses
  module _ (two : 2 ≤ s.width) (h : Unrefused s) where
    -- the characters of a survivor's name field are its flat name
    field-length : (p : ℕ) (x : Node) → In x (survivors s) → RecordOf s p x → length (text (name_at s p)) ≡ length (flat_name s x)
    unfolding flat_field
    field-length p x i r =
        ap (λ f. length (text f)) r.name
        ∙ ap length (text-padded (flat_width s.width) (flat_name s x) (flat-name-characters s (row-none 3 (refusal_rows s) h) x (survivor s x i).0))

    -- no record's name field has more characters
    pub no-field-longer : (p : ℕ) → In p (record_places s) → length (text (name_at s p)) ≤ longest_name s
    no-field-longer p i =
        let r = pointwise-left (RecordOf s) (record_places s) (survivors s) p (promises s two h).ordered i in
        omega (arith, field-length p r.0 r.1 r.2, none-longer r.0 r.1)

    -- one has so many
    pub one-field-longest : (length (survivors s) ≡ 0 → ⊥) → (p : ℕ) × In p (record_places s) × (length (text (name_at s p)) ≡ longest_name s)
    one-field-longest n =
        let x = one-longest n in
        let r = pointwise-right (RecordOf s) (record_places s) (survivors s) x.0 (promises s two h).ordered x.1 in
        (r.0, r.1, omega (arith, field-length r.0 x.0 x.1 r.2, x.2))

    -- "0 to 68": it fits a field
    pub longest-fits : longest_name s ≤ flat_width s.width
    unfolding longest_name
    longest-fits = greatest-below (λ x. length (flat_name s x)) (flat_width s.width) (survivors s) (λ x i. flat-name-bytes s two (row-none 3 (refusal_rows s) h) (row-none 7 (refusal_rows s) h) x (survivor s x i).0)
