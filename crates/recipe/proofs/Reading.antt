-- Reading a recipe's records: as many tries as there are bytes left suffice, places rise, and what a loop over the records keeps.
-- Assumes nothing.
use Rattle.std.specs.Prelude.{None, Some}
use mathlib.Core.Path.{◌≡◌, refl, sym, ap, ◌∙◌}
use mathlib.Core.Logic.{⊎_elim}
use Prim.Native.Nat.{ℕ, zero, suc, ◌+◌, ◌≤◌, ◌<◌}
use native.Mathlib.Omega.{arith}
use mathlib.Core.Bool.{Bool, true, false, ◌&&◌, ◌||◌, false≢true, and-false}
use mathlib.Core.List.{List, ◌∷◌}
use lib.ListN.{length, get_or-eq_default}
use lib.Dec.{leb, ltb}
use borrow.Author.Tests.{ltb-false, leb-true, lt-leb, le-leb, eq-eqb, ne_eqb}
use Rattle.names.specs.Lists.{In, first}
use Rattle.names.proofs.Tests.{by_cases, not_none, and_left, and_right, or_cases}
use Rattle.names.proofs.ListOrder.{Rising, rising-from, rising-in, first-lowest}
use Rattle.recipe.specs.Records.{Recipe, is_known, kind, is_model, record_length, next, is_readable, places_from, stop_from, places, stop}
use Rattle.recipe.specs.Reading.{fault₂}

module _ (s : Recipe) where
  -- a record that is read is in the recipe
  pub readable-fits : (p : ℕ) → is_readable s p ≡ true → next s p ≤ length s.bytes
  unfolding is_readable
  readable-fits p e =
      leb-true (next s p) (length s.bytes)
      (and_right (is_known (kind s p)) _ (and_left (is_known (kind s p) && leb (next s p) (length s.bytes)) _ e))

  pub known : (p : ℕ) → is_readable s p ≡ true → is_known (kind s p) ≡ true
  unfolding is_readable
  known p e = and_left (is_known (kind s p)) _ (and_left (is_known (kind s p) && leb (next s p) (length s.bytes)) _ e)

  pub next_more : (p : ℕ) → p < next s p
  unfolding next record_length
  next_more p = omega arith

  -- nothing is read at the end
  pub unread : (p : ℕ) → length s.bytes ≤ p → is_readable s p ≡ false
  unread p h =
      by_cases (is_readable s p)
      (λ e. absurd (omega (arith, readable-fits p e, next_more p)))
      (λ e. e)

  -- ---- more tries change nothing: as many as there are bytes left suffice
  pub places-suffice : (n m p : ℕ) → length s.bytes ≤ p + n → length s.bytes ≤ p + m → places_from n s p ≡ places_from m s p
  unfolding places_from
  places-suffice zero zero p h k = refl
  places-suffice zero (suc m) p h k = rw (unread p (omega arith), places_from)
  places-suffice (suc n) zero p h k = rw (unread p (omega arith), places_from)
  places-suffice (suc n) (suc m) p h k =
      by_cases (is_readable s p)
      (λ e. rw (e, places_from) (ap (λ (l : List ℕ). p ∷ l) (places-suffice n m (next s p) (omega (arith, next_more p)) (omega (arith, next_more p)))))
      (λ e. rw (e, places_from))

  pub stop-suffices : (n m p : ℕ) → length s.bytes ≤ p + n → length s.bytes ≤ p + m → stop_from n s p ≡ stop_from m s p
  unfolding stop_from
  stop-suffices zero zero p h k = refl
  stop-suffices zero (suc m) p h k = rw (unread p (omega arith), stop_from)
  stop-suffices (suc n) zero p h k = rw (unread p (omega arith), stop_from)
  stop-suffices (suc n) (suc m) p h k =
      by_cases (is_readable s p)
      (λ e. rw (e, stop_from) (stop-suffices n m (next s p) (omega (arith, next_more p)) (omega (arith, next_more p))))
      (λ e. rw (e, stop_from))

  -- so the places are those of any greater number of tries
  pub places-more : (k : ℕ) → places s ≡ places_from (length s.bytes + k) s 0
  unfolding places
  places-more k = places-suffice (length s.bytes) (length s.bytes + k) 0 (omega arith) (omega arith)

  pub stop-more : (k : ℕ) → stop s ≡ stop_from (length s.bytes + k) s 0
  unfolding stop
  stop-more k = stop-suffices (length s.bytes) (length s.bytes + k) 0 (omega arith) (omega arith)

  -- ---- each place is that of a whole record, and places rise
  places-rise-from : (n p : ℕ) → Rising p (places_from n s p)
  unfolding places_from
  places-rise-from zero p = tt
  places-rise-from (suc n) p =
      by_cases (is_readable s p)
      (λ e. rw (e, places_from) (omega arith, rising-from (suc p) (next s p) (places_from n s (next s p)) (next_more p) (places-rise-from n (next s p))))
      (λ e. rw (e, places_from) tt)

  pub places-least : (n p x : ℕ) → In x (places_from n s p) → p ≤ x
  places-least n p x i = rising-in p (places_from n s p) x (places-rise-from n p) i

  pub places-rise : Rising 0 (places s)
  unfolding places
  places-rise = places-rise-from (length s.bytes) 0

  -- "then its lowest place": what a row's first fault is
  pub lowest-place : (t : ℕ → Bool) (p q : ℕ) → first t (places s) ≡ Some p → In q (places s) → q < p → t q ≡ false
  lowest-place t p q e i l = first-lowest t 0 (places s) p q places-rise e i l

  readable-from : (n p q : ℕ) → In q (places_from n s p) → is_readable s q ≡ true
  unfolding places_from
  readable-from zero p q i = absurd i
  readable-from (suc n) p q i =
      by_cases (is_readable s p)
      (λ e. ⊎_elim (λ (h : q ≡ p). ap (is_readable s) h ∙ e) (λ (j : In q (places_from n s (next s p))). readable-from n (next s p) q j) (rw (e, places_from) at i))
      (λ e. absurd (rw (e, places_from) at i))

  pub readable : (q : ℕ) → In q (places s) → is_readable s q ≡ true
  unfolding places
  readable q i = readable-from (length s.bytes) 0 q i

  -- a record's place is in the recipe
  pub place-low : (p : ℕ) → In p (places s) → p < length s.bytes
  place-low p i = omega (arith, readable-fits p (readable p i), next_more p)

  -- between a record and the next there is none
  places-gap : (n p₀ p x : ℕ) → In p (places_from n s p₀) → In x (places_from n s p₀) → x < next s p → x ≤ p
  unfolding places_from
  places-gap zero p₀ p x i j h = absurd i
  places-gap (suc n) p₀ p x i j h =
      by_cases (is_readable s p₀)
      (λ e.
      ⊎_elim
      (λ (a : p ≡ p₀). ⊎_elim (λ (b : x ≡ p₀). omega arith)
      (λ (b : In x (places_from n s (next s p₀))). let l : next s p₀ ≤ x = places-least n (next s p₀) x b in let q : next s p ≡ next s p₀ = ap (next s) a in absurd (omega arith))
      (rw (e, places_from) at j))
      (λ (a : In p (places_from n s (next s p₀))). ⊎_elim (λ (b : x ≡ p₀). omega (arith, places-least n (next s p₀) p a, next_more p₀))
      (λ (b : In x (places_from n s (next s p₀))). places-gap n (next s p₀) p x a b h)
      (rw (e, places_from) at j))
      (rw (e, places_from) at i))
      (λ e. absurd (rw (e, places_from) at i))

  pub before-this : (p x : ℕ) → In p (places s) → In x (places s) → x < next s p → x ≤ p
  unfolding places
  before-this p x i j l = places-gap (length s.bytes) 0 p x i j l

  pub places-between : (p x : ℕ) → In p (places s) → In x (places s) → x < next s p → (x ≡ p → ⊥) → x < p
  places-between p x i j l z = omega (arith, before-this p x i j l)

  -- ---- reading stops in the recipe, and where row 2 does not apply, at its end
  stop-fits : (n p : ℕ) → p ≤ length s.bytes → stop_from n s p ≤ length s.bytes
  unfolding stop_from
  stop-fits zero p h = h
  stop-fits (suc n) p h =
      by_cases (is_readable s p)
      (λ e. rw (e, stop_from) (stop-fits n (next s p) (readable-fits p e)))
      (λ e. rw (e, stop_from) h)

  pub stop-within : stop s ≤ length s.bytes
  unfolding stop
  stop-within = stop-fits (length s.bytes) 0 (omega arith)

  pub read_through : fault₂ s ≡ None → stop s ≡ length s.bytes
  unfolding fault₂
  read_through h =
      by_cases (ltb (stop s) (length s.bytes))
      (λ e. not_none (sym (rw e at h)))
      (λ e. omega (arith, ltb-false (stop s) (length s.bytes) e, stop-within))

  -- ---- the test, case by case
  pub unknown : (p : ℕ) → is_known (kind s p) ≡ false → false ≡ is_readable s p
  unfolding is_readable
  unknown p e = rw e

  pub not-past : (p : ℕ) → length s.bytes ≤ p → false ≡ is_readable s p
  unfolding is_known kind
  not-past p h = unknown p (rw (get_or-eq_default s.bytes 0 h))

  pub not-whole : (p : ℕ) → length s.bytes < next s p → false ≡ is_readable s p
  unfolding is_readable
  not-whole p h = rw (lt-leb (next s p) (length s.bytes) h, and-false (is_known (kind s p)))

  pub whole : (p : ℕ) → is_known (kind s p) ≡ true → next s p ≤ length s.bytes → is_model s p || ltb 0 p ≡ is_readable s p
  unfolding is_readable
  whole p k c = rw (k, le-leb (next s p) (length s.bytes) c)

  pub whole-model : (p : ℕ) → kind s p ≡ 1 → is_known (kind s p) ≡ true → next s p ≤ length s.bytes → true ≡ is_readable s p
  unfolding is_model
  whole-model p k i c = rw (eq-eqb (kind s p) 1 k) at (whole p i c)

  pub whole-other : (p : ℕ) → (kind s p ≡ 1 → ⊥) → is_known (kind s p) ≡ true → next s p ≤ length s.bytes → ltb 0 p ≡ is_readable s p
  unfolding is_model
  whole-other p k i c = rw (ne_eqb (kind s p) 1 k) at (whole p i c)

  -- the first record is a model
  pub first-model : is_readable s 0 ≡ true → is_model s 0 ≡ true
  unfolding is_readable
  first-model e =
      ⊎_elim (λ (h : is_model s 0 ≡ true). h) (λ (h : ◌≡◌ {A = Bool} false true). absurd (false≢true h))
      (or_cases (is_model s 0) false (and_right (is_known (kind s 0) && leb (next s 0) (length s.bytes)) (is_model s 0 || false) e))
