-- The pass that numbers the records: each record's definition, each element's number in it, and how many elements a definition has.
-- Assumes nothing.
use Prim.Native.Nat.{ℕ, suc, ◌+◌, ◌≤◌, ◌<◌}
use native.Mathlib.Omega.{arith}
use mathlib.Core.Path.{◌≡◌, refl, ap, sym, ◌∙◌}
use mathlib.Core.Bool.{true, false}
use mathlib.Core.List.{List, [], ◌∷◌}
use lib.ListN.{length, get_or, set, length-set}
use lib.Dec.{eqb}
use borrow.Author.Tests.{eq-eqb, ne_eqb, eqb-true, eqb-false}
use Rattle.names.specs.Lists.{In}
use Rattle.names.proofs.Tests.{by_cases, three, not-both}
use Rattle.recipe.specs.Records.{Recipe, kind, is_model, is_element, record_length, next, places}
use Rattle.recipe.specs.Definitions.{main, definitions, elements, holder}
use Rattle.recipe.proofs.Reading.{before-this, next_more, places-between}
use Rattle.recipe.proofs.Definitions.{holder_in, holder-is, in-elements, main-in}
use Rattle.recipe.proofs.Spans.{definition-place, in-definitions}
use Rattle.shadow.specs.Shadow.{Shadowed, Kept}
use Rattle.shadow.specs.Columns.{Numbered, order}
use Rattle.shadow.proofs.Cells.{Walking, walk_start, walk-place, walk-low, walk-room, walk-one, walk_end, step-next, shadowed-over, kept-all, kept_set, cell_set, cell-kept}
use Rattle.shadow.proofs.Counting.{counted, counted_none, counted-few, counted-all, counted_same, counted-more, counted-order}

-- ---- d is the last definition before p
pub record Latest (s : Recipe) (d p : ℕ) : Type 0 where
  pub known : In main (definitions s) → In d (definitions s)
  pub below : d ≤ p
  pub last : (e : ℕ) → In e (definitions s) → e < p → e ≤ d

latest-start : (s : Recipe) → Latest s 0 0
unfolding main
latest-start s = record { known = λ i. i; below = omega arith; last = λ e i l. absurd (omega arith) }

module _ {s : Recipe} {d p : ℕ} (g : Latest s d p) (at : In p (places s)) where
  behind : (e : ℕ) → In e (definitions s) → e < next s p → e ≤ p
  behind e j l = before-this s p e at (definition-place s e j).0 l

  latest-model : is_model s p ≡ true → (p ≡ holder s p) × Latest s p (next s p)
  latest-model m =
      let i = in-definitions s p at m in
      (sym (holder-is s p p i (omega arith) (λ e j l u. omega arith)), record { known = λ j. i; below = omega (arith, next_more s p); last = behind })

  latest-other : is_model s p ≡ false → (d ≡ holder s p) × Latest s d (next s p)
  latest-other m =
      let b = g.below in
      let earlier : (e : ℕ) → In e (definitions s) → e ≤ p → e ≤ d = λ e j l.
      three e p (λ u. g.last e j u) (λ u. not-both (rw u at (definition-place s e j).1) m) (λ u. absurd (omega arith)) in (
        sym (holder-is s p d (g.known (main-in s p at)) b (λ e j l u. omega (arith, earlier e j u))),
        record { known = g.known; below = omega (arith, next_more s p); last = λ e j l. earlier e j (behind e j l) },
      )

-- ---- the loop: what the records before p have
pub record NumberLoop (s : Recipe) (t₀ t : List ℕ) (d p : ℕ) : Type 0 where
  pub walk : Walking s (0 ∷ 1 ∷ 2 ∷ []) t₀ t p
  pub latest : Latest s d p
  pub held : (x : ℕ) → In x (places s) → x < p → get_or t (x + 0) 0 ≡ holder s x
  pub orders : (x : ℕ) → In x (places s) → is_element s x ≡ true → x < p → get_or t (x + 1) 0 ≡ order s (holder s x) x
  pub counts : (x : ℕ) → In x (definitions s) → x < p → get_or t (x + 2) 0 ≡ counted s x p

pub number-start : (s : Recipe) (t : List ℕ) → NumberLoop s t t 0 0
number-start s t = record {
  walk = walk_start s _ t;
  latest = latest-start s;
  held = λ x i l. absurd (omega arith);
  orders = λ x i k l. absurd (omega arith);
  counts = λ x i l. absurd (omega arith);
}

pub number-end : {s : Recipe} {t₀ t : List ℕ} {d p : ℕ} → Shadowed s t₀ → NumberLoop s t₀ t d p → length s.bytes ≤ p → Numbered s t × (length t ≡ length t₀)
number-end {s} {t₀} {t} {d} {p} c g l =
    let end : (x : ℕ) → In x (places s) → x < p = walk_end c g.walk l in
    let at : (x : ℕ) → In x (definitions s) → x < p = λ x i. end x (definition-place s x i).0 in (
      record {
        shadowed = shadowed-over g.walk.kept c;
        held = λ x i. g.held x i (end x i);
        orders = λ x i k. g.orders x i k (end x i);
        counts = λ x i. g.counts x i (at x i) ∙ counted-all s x p end;
      },
      g.walk.kept.long,
    )

module _ {s : Recipe} {t₀ t : List ℕ} {d p : ℕ} (c : Shadowed s t₀) (g : NumberLoop s t₀ t d p) (l : p < length s.bytes) where
  here : In p (places s)
  here = walk-place c g.walk l

  pub number-low : d ≤ p
  number-low = g.latest.below

  pub number-room : (p + 13 ≤ 16384) × (p + 13 ≤ length t)
  number-room = (walk-low c g.walk l, walk-room c g.walk l)

  -- a record more, where its own cells are right, those of others are kept, and so are the counts
  number-one : {t' : List ℕ} {e n : ℕ} → n ≡ record_length s.width (get_or s.bytes p 0) → Kept s (0 ∷ 1 ∷ 2 ∷ []) t t' → Latest s e (next s p)
      → get_or t' (p + 0) 0 ≡ holder s p
      → (is_element s p ≡ true → get_or t' (p + 1) 0 ≡ order s (holder s p) p)
      → ((x k : ℕ) → In x (places s) → k < 2 → (x ≡ p → ⊥) → get_or t' (x + k) 0 ≡ get_or t (x + k) 0)
      → ((x : ℕ) → In x (definitions s) → x < next s p → get_or t' (x + 2) 0 ≡ counted s x (next s p))
      → NumberLoop s t₀ t' e (p + n)
  number-one {t'} {e} {n} r o f a b h k =
      let q = step-next s p r in record {
        walk = walk-one c g.walk l r o;
        latest = rw q f;
        held = λ x i u.
            by_cases (eqb x p)
            (λ z. rw (eqb-true x p z) a)
            (λ z. let y = eqb-false x p z in h x 0 i (omega arith) y ∙ g.held x i (places-between s p x here i (rw q at u) y));
        orders = λ x i m u.
            by_cases (eqb x p)
            (λ z. let y = eqb-true x p z in rw y (b (rw y at m)))
            (λ z. let y = eqb-false x p z in h x 1 i (omega arith) y ∙ g.orders x i m (places-between s p x here i (rw q at u) y));
        counts = λ x i u. rw q (k x i (rw q at u));
      }

  -- another definition's count
  other-count : (x : ℕ) → In x (definitions s) → x < next s p → (x ≡ p → ⊥) → (In p (elements s x) → ⊥) → get_or t (x + 2) 0 ≡ counted s x (next s p)
  other-count x i u y z = g.counts x i (places-between s p x here (definition-place s x i).0 u y) ∙ sym (counted_same s p here x z)

  module _ {n : ℕ} (r : n ≡ record_length s.width (get_or s.bytes p 0)) where
    pub number-model : get_or s.bytes p 0 ≡ 1 → NumberLoop s t₀ (set (set t (p + 0) p) (p + 2) 0) p (p + n)
    unfolding is_model is_element kind
    number-model k =
        let long = g.walk.kept.long in
        let w = set t (p + 0) p in
        let m = latest-model g.latest here (eq-eqb (get_or s.bytes p 0) 1 k) in
        let none_here : (x : ℕ) → In p (elements s x) → ⊥ = λ x i. omega (arith, eqb-true (get_or s.bytes p 0) 2 (in-elements s x p i).passes) in
        let off : (x j : ℕ) → In x (places s) → j < 13 → (x ≡ p → ⊥) → get_or (set w (p + 2) 0) (x + j) 0 ≡ get_or t (x + j) 0 = λ x j i u y.
        cell-kept c w p 2 0 x j here i (omega arith) u (λ z. absurd (y (sym z))) ∙ cell-kept c t p 0 p x j here i (omega arith) u (λ z. absurd (y (sym z))) in
        number-one r
        (kept_set p 2 0 c (kept_set p 0 p c (kept-all s _ t) here (omega arith) refl) here (omega arith) refl)
        m.1
        (cell-kept c w p 2 0 p 0 here here (omega arith) (omega arith) (λ y z. omega arith) ∙ (cell_set c t p 0 p here (omega arith) long ∙ m.0))
        (λ e. omega (arith, eqb-true (get_or s.bytes p 0) 2 e))
        (λ x j i u y. off x j i (omega arith) y)
        (λ x i u.
        by_cases (eqb x p)
        (λ z. rw (eqb-true x p z) (cell_set c w p 2 0 here (omega arith) (length-set t (p + 0) p ∙ long) ∙ sym (counted_same s p here p (none_here p) ∙ counted_none s p)))
        (λ z. let y = eqb-false x p z in off x 2 (definition-place s x i).0 (omega arith) y ∙ other-count x i u y (none_here x)))

    pub number-other : (get_or s.bytes p 0 ≡ 1 → ⊥) → (get_or s.bytes p 0 ≡ 2 → ⊥) → NumberLoop s t₀ (set t (p + 0) d) d (p + n)
    unfolding is_model is_element kind
    number-other k j =
        let no = ne_eqb (get_or s.bytes p 0) 1 k in
        let m = latest-other g.latest here no in
        let off : (x j : ℕ) → In x (places s) → j < 13 → (x ≡ p → ⊥) → get_or (set t (p + 0) d) (x + j) 0 ≡ get_or t (x + j) 0 = λ x j i u y.
        cell-kept c t p 0 d x j here i (omega arith) u (λ z. absurd (y (sym z))) in
        number-one r
        (kept_set p 0 d c (kept-all s _ t) here (omega arith) refl)
        m.1
        (cell_set c t p 0 d here (omega arith) g.walk.kept.long ∙ m.0)
        (λ e. absurd (j (eqb-true (get_or s.bytes p 0) 2 e)))
        (λ x j i u y. off x j i (omega arith) y)
        (λ x i u.
        let y : x ≡ p → ⊥ = λ z. not-both (rw z at (definition-place s x i).1) no in
        off x 2 (definition-place s x i).0 (omega arith) y ∙ other-count x i u y (λ z. j (eqb-true (get_or s.bytes p 0) 2 (in-elements s x p z).passes)))

    module _ (k : get_or s.bytes p 0 ≡ 2) where
      no-model : is_model s p ≡ false
      unfolding is_model kind
      no-model = ne_eqb (get_or s.bytes p 0) 1 (λ z. omega arith)

      own : d ≡ holder s p
      own = (latest-other g.latest here no-model).0

      own_in : In d (definitions s)
      own_in = rw own (holder_in s p here)

      -- how many of the definition are counted
      pub own-count : get_or t (d + 2) 0 ≡ counted s d p
      own-count = g.counts d own_in (places-between s p d here (definition-place s d own_in).0 (omega (arith, g.latest.below, next_more s p)) (λ z. not-both (rw z at (definition-place s d own_in).1) no-model))

      pub own-few : get_or t (d + 2) 0 ≤ p
      own-few = omega (arith, own-count, counted-few s d p)

      pub number-element : {a : ℕ} → a ≡ get_or t (d + 2) 0 → NumberLoop s t₀ (set (set (set t (p + 0) d) (p + 1) a) (d + 2) (a + 1)) d (p + n)
      unfolding is_element kind
      number-element {a} e =
          let long = g.walk.kept.long in
          let v = set t (p + 0) d in
          let w = set v (p + 1) a in
          let at-d = (definition-place s d own_in).0 in
          let el : is_element s p ≡ true = eq-eqb (get_or s.bytes p 0) 2 k in
          let apart : (x : ℕ) → In x (definitions s) → x ≡ p → ⊥ = λ x i z. not-both (rw z at (definition-place s x i).1) no-model in
          let low : (x j : ℕ) → In x (places s) → j < 2 → get_or (set w (d + 2) (a + 1)) (x + j) 0 ≡ get_or w (x + j) 0 = λ x j i u.
          cell-kept c w d 2 (a + 1) x j at-d i (omega arith) (omega arith) (λ y z. omega arith) in
          let off : (x j : ℕ) → In x (places s) → j < 13 → (x ≡ p → ⊥) → get_or w (x + j) 0 ≡ get_or t (x + j) 0 = λ x j i u y.
          cell-kept c v p 1 a x j here i (omega arith) u (λ z. absurd (y (sym z))) ∙ cell-kept c t p 0 d x j here i (omega arith) u (λ z. absurd (y (sym z))) in
          number-one r
          (kept_set d 2 (a + 1) c (kept_set p 1 a c (kept_set p 0 d c (kept-all s _ t) here (omega arith) refl) here (omega arith) refl) at-d (omega arith) refl)
          (latest-other g.latest here no-model).1
          (low p 0 here (omega arith) ∙ (cell-kept c v p 1 a p 0 here here (omega arith) (omega arith) (λ y z. omega arith) ∙ (cell_set c t p 0 d here (omega arith) long ∙ own)))
          (λ z. low p 1 here (omega arith) ∙ (cell_set c v p 1 a here (omega arith) (length-set t (p + 0) d ∙ long) ∙ (e ∙ (own-count ∙ (ap (λ (x : ℕ). counted s x p) own ∙ counted-order s p here el)))))
          (λ x j i u y. low x j i u ∙ off x j i (omega arith) y)
          (λ x i u.
          let at_x = (definition-place s x i).0 in
          by_cases (eqb x d)
          (λ z.
          let more : counted s d (next s p) ≡ suc (counted s d p) = rw own (counted-more s p here el) in
          rw (eqb-true x d z) (cell_set c w d 2 (a + 1) at-d (omega arith) (length-set v (p + 1) a ∙ (length-set t (p + 0) d ∙ long)) ∙ omega (arith, own-count)))
          (λ z.
          let y = eqb-false x d z in
          cell-kept c w d 2 (a + 1) x 2 at-d at_x (omega arith) (omega arith) (λ h. absurd (y (sym h)))
          ∙ (off x 2 at_x (omega arith) (apart x i) ∙ other-count x i u (apart x i) (λ j. y (sym (in-elements s x p j).held ∙ sym own)))))
