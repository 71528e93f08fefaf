-- A definition's records are those after it up to the next definition: a loop over those of them that pass a test, by each record's holder.
-- Assumes nothing.
use Prim.Native.Nat.{◌<◌, ◌≤◌, ℕ}
use borrow.Author.Tests.{eq-eqb, eqb-true, le-leb, leb-true}
use lib.Dec.{eqb, leb}
use lib.ListN.{length}
use mathlib.Core.Bool.{Bool, ◌&&◌, false, not, true, and-false}
use mathlib.Core.List.{List, [], ◌∷◌}
use mathlib.Core.Logic.{inl, inr, ⊎_elim}
use mathlib.Core.Path.{◌∙◌, ◌≡◌, ap, refl}
use native.Mathlib.Omega.{arith}
use Rattle.names.specs.Lists.{In, keep}
use Rattle.names.proofs.Lists.{in-keep, keep-in, last-in}
use Rattle.names.proofs.Tests.{by_cases}
use Rattle.names.proofs.ListOrder.{keep-rising, last-above}
use Rattle.recipe.specs.Definitions.{definitions, holder, main, records_of}
use Rattle.recipe.specs.Records.{Recipe, is_model, next, places, places_from, stop}
use Rattle.recipe.proofs.Definitions.{definitions-rise}
use Rattle.recipe.proofs.Going.{Left, Reached, left-behind, none-past, reach-place, reached}
use Rattle.recipe.proofs.Reading.{readable, next_more, places-least, readable-fits}

module _ (s : Recipe) where
  -- a definition at or before a record is at or before its holder
  pub holder-above : (d p : ℕ) → In d (definitions s) → d ≤ p → d ≤ holder s p
  unfolding holder
  holder-above d p i l =
      last-above 0 main (keep (λ c. leb c p) (definitions s)) d (keep-rising (λ c. leb c p) 0 (definitions s) (definitions-rise s))
      (keep-in (λ c. leb c p) (definitions s) d i (le-leb d p l))

  -- the holder is at or before its record
  pub holder-below : (p : ℕ) → holder s p ≤ p
  unfolding holder main
  holder-below p =
      ⊎_elim (λ (e : holder s p ≡ 0). omega arith)
      (λ (i : In (holder s p) (keep (λ c. leb c p) (definitions s))). leb-true (holder s p) p (in-keep (λ c. leb c p) (definitions s) (holder s p) i).1)
      (last-in main (keep (λ c. leb c p) (definitions s)))

  -- later records have later holders
  pub holder-rise : (p q : ℕ) → p ≤ q → holder s p ≤ holder s q
  unfolding holder main
  holder-rise p q l =
      ⊎_elim (λ (e : holder s p ≡ 0). omega arith)
      (λ (i : In (holder s p) (keep (λ c. leb c p) (definitions s))).
      let k = in-keep (λ c. leb c p) (definitions s) (holder s p) i in
      let m = leb-true (holder s p) p k.1 in
      holder-above (holder s p) q k.0 (omega arith))
      (last-in main (keep (λ c. leb c p) (definitions s)))

  pub in-definitions : (d : ℕ) → In d (places s) → is_model s d ≡ true → In d (definitions s)
  unfolding definitions
  in-definitions d i m = keep-in (is_model s) (places s) d i m

  pub definition-place : (d : ℕ) → In d (definitions s) → In d (places s) × (is_model s d ≡ true)
  unfolding definitions
  definition-place d i = in-keep (is_model s) (places s) d i

  pub definition-fits : (d : ℕ) → In d (definitions s) → next s d ≤ length s.bytes
  definition-fits d i = readable-fits s d (readable s d (definition-place d i).0)

-- ---- what is left of a definition's records that pass a test
abbrev pub is_of : Recipe → ℕ → ℕ → Bool
is_of s d q = not (is_model s q) && eqb (holder s q) d

-- the records of d among the places that pass the test
abbrev pub passing_of : Recipe → (ℕ → Bool) → ℕ → List ℕ → List ℕ
passing_of s t d ps = keep t (keep (is_of s d) ps)

-- rs are those left behind d
abbrev pub Left-of : Recipe → (ℕ → Bool) → ℕ → List ℕ → List ℕ → Type 0
Left-of s t d rs ps = (rs ≡ passing_of s t d ps)

-- at p, behind d: rs are those left
pub record Rest (s : Recipe) (t : ℕ → Bool) (d p : ℕ) (rs : List ℕ) : Type 0 where
  pub left : Left s (Left-of s t d rs) p
  pub after : d < p

keep-none : {A : Type 0} (t : A → Bool) (xs : List A) → ((x : A) → In x xs → t x ≡ false) → keep t xs ≡ []
keep-none t [] h = refl
keep-none t (x ∷ xs) h = rw (h x (inl refl), keep) (keep-none t xs (λ y i. h y (inr i)))

module _ (s : Recipe) (t : ℕ → Bool) (d : ℕ) (whole : stop s ≡ length s.bytes) where
  -- no record before d, nor d, is one of d
  before : (rs : List ℕ) (x : ℕ) (ps : List ℕ) → x < d → Left-of s t d rs (x ∷ ps) → Left-of s t d rs ps
  before rs x ps l e =
      by_cases (eqb (holder s x) d)
      (λ z. let y = eqb-true (holder s x) d z in absurd (omega (arith, holder-below s x)))
      (λ z. e ∙ rw (z, and-false (not (is_model s x)), keep))

  pub rest-start : In d (definitions s) → Rest s t d (next s d) (keep t (records_of s d))
  unfolding records_of
  rest-start i =
      let h = definition-place s d i in
      let r = reach-place s (Left-of s t d (keep t (records_of s d))) d (before (keep t (records_of s d))) refl h.0 in
      record { left = left-behind r (r.rest ∙ rw (h.1, keep)); after = next_more s d }

  -- what there is at a record
  pub record Met (p : ℕ) (rs : List ℕ) : Type 0 where
    pub reached : Reached s (Left-of s t d rs) p
    pub after : d < p

  pub met : {p : ℕ} {rs : List ℕ} → Rest s t d p rs → p < length s.bytes → Met p rs
  met {p} {rs} r l = record { reached = reached whole r.left l; after = r.after }

  pub met-fits : {p : ℕ} {rs : List ℕ} → Met p rs → next s p ≤ length s.bytes
  met-fits {p} {rs} m = readable-fits s p m.reached.readable

  pub rest_end : {p : ℕ} {rs : List ℕ} → Rest s t d p rs → length s.bytes ≤ p → rs ≡ []
  rest_end {p} {rs} r l = r.left.rest ∙ ap (passing_of s t d) (none-past s r.left.tries p l)

  -- at a record of another definition, none is left
  pub rest-stop : In d (definitions s) → {p : ℕ} {rs : List ℕ} → Met p rs → (holder s p ≡ d → ⊥) → rs ≡ []
  rest-stop i {p} {rs} m other =
      m.reached.rest ∙ ap (keep t)
      (keep-none (is_of s d) (p ∷ places_from m.reached.tries s (next s p))
      (λ x j.
      let l : p ≤ x = ⊎_elim (λ (q : x ≡ p). omega arith) (λ (k : In x (places_from m.reached.tries s (next s p))). omega (arith, places-least s m.reached.tries (next s p) x k, next_more s p)) j in
      let a = m.after in
      let u = holder-above s d p i (omega arith) in
      let v = holder-rise s p x l in
      by_cases (eqb (holder s x) d)
      (λ z. let y = eqb-true (holder s x) d z in absurd (other (omega arith)))
      (λ z. rw z (and-false (not (is_model s x))))))

  -- a record whose holder is d is no model
  met-not-model : {p : ℕ} {rs : List ℕ} → Met p rs → holder s p ≡ d → is_model s p ≡ false
  met-not-model {p} {rs} m h =
      by_cases (is_model s p)
      (λ e. let a = m.after in let u = holder-above s p p (in-definitions s p m.reached.place e) (omega arith) in absurd (omega arith))
      (λ e. e)

  pub rest_more : {p : ℕ} {rs : List ℕ} → Met p rs → holder s p ≡ d → t p ≡ true → (rest : List ℕ) × ((rs ≡ p ∷ rest) × Rest s t d (next s p) rest)
  rest_more {p} {rs} m h k =
      let a = m.after in
      let plain = met-not-model m h in (
        passing_of s t d (places_from m.reached.tries s (next s p)),
        (
          m.reached.rest ∙ rw (plain, eq-eqb (holder s p) d h, keep, k, keep),
          record { left = left-behind m.reached refl; after = omega (arith, next_more s p) },
        ),
      )

  pub rest-skip : {p : ℕ} {rs : List ℕ} → Met p rs → holder s p ≡ d → t p ≡ false → Rest s t d (next s p) rs
  rest-skip {p} {rs} m h k =
      let a = m.after in
      let plain = met-not-model m h in
      record { left = left-behind m.reached (m.reached.rest ∙ rw (plain, eq-eqb (holder s p) d h, keep, k, keep)); after = omega (arith, next_more s p) }
