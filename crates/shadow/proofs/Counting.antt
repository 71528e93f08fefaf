-- Counting in a rising list: those below a number, which are those before it where it is one of them; and a definition's elements below a record.
-- Assumes nothing.
use Prim.Native.Nat.{ℕ, suc, ◌+◌, ◌≤◌, ◌<◌}
use native.Mathlib.Omega.{arith}
use mathlib.Core.Path.{◌≡◌, refl, ap, sym, ◌∙◌}
use mathlib.Core.Logic.{inl, inr}
use mathlib.Core.Bool.{true, not, ◌&&◌}
use mathlib.Core.List.{List, [], ◌∷◌}
use lib.ListN.{length}
use lib.Dec.{ltb, eqb}
use borrow.Author.Tests.{eq-eqb, ne_eqb, eqb-true, ltb-true, ltb-false, lt-ltb, le-ltb}
use Rattle.names.specs.Lists.{In, keep}
use Rattle.names.proofs.Tests.{by_cases, both_ways, both}
use Rattle.names.proofs.Lists.{keep-in}
use Rattle.names.proofs.ListOrder.{Rising, rising-from, rising-in, keep-rising}
use Rattle.recipe.specs.Records.{Recipe, kind, is_model, is_element, is_submodel, next, places}
use Rattle.recipe.specs.Definitions.{holder, records_of, elements, submodels}
use Rattle.recipe.proofs.Reading.{before-this, next_more, places-between, places-rise}
use Rattle.recipe.proofs.Definitions.{in-elements}
use Rattle.recipe.proofs.Spans.{holder-below}
use Rattle.shadow.specs.Columns.{up_to, order}

-- ---- a definition's records rise
records-rise : (s : Recipe) (d : ℕ) → Rising 0 (records_of s d)
unfolding records_of
records-rise s d = keep-rising (λ p. not (is_model s p) && eqb (holder s p) d) 0 (places s) (places-rise s)

pub elements-rise : (s : Recipe) (d : ℕ) → Rising 0 (elements s d)
unfolding elements
elements-rise s d = keep-rising (is_element s) 0 (records_of s d) (records-rise s d)

pub submodels-rise : (s : Recipe) (d : ℕ) → Rising 0 (submodels s d)
unfolding submodels
submodels-rise s d = keep-rising (is_submodel s) 0 (records_of s d) (records-rise s d)

-- ---- those before one of them
pub up_to-head : (f : ℕ → ℕ) (x : ℕ) (xs : List ℕ) → up_to f x (x ∷ xs) ≡ 0
up_to-head f x xs = rw (eq-eqb x x refl, up_to)

pub up_to-tail : (f : ℕ → ℕ) (m x : ℕ) (xs : List ℕ) → x < m → up_to f m (x ∷ xs) ≡ f x + up_to f m xs
up_to-tail f m x xs h = rw (ne_eqb x m (λ e. omega arith), up_to)

-- ---- how many of a list are below p
abbrev pub below : ℕ → List ℕ → ℕ
below p xs = length (keep (λ x. ltb x p) xs)

below-same : (p q : ℕ) (xs : List ℕ) → ((x : ℕ) → In x xs → ltb x p ≡ ltb x q) → below p xs ≡ below q xs
below-same p q [] h = refl
below-same p q (x ∷ xs) h =
    let r = below-same p q xs (λ y i. h y (inr i)) in
    by_cases (ltb x q)
    (λ e. rw (h x (inl refl) ∙ e, keep, e, keep) (ap suc r))
    (λ e. rw (h x (inl refl) ∙ e, keep, e, keep) r)

below_all : (p : ℕ) (xs : List ℕ) → ((x : ℕ) → In x xs → x < p) → below p xs ≡ length xs
below_all p [] h = refl
below_all p (x ∷ xs) h = rw (lt-ltb x p (h x (inl refl)), keep) (ap suc (below_all p xs (λ y i. h y (inr i))))

below_none : (p : ℕ) (xs : List ℕ) → ((x : ℕ) → In x xs → p ≤ x) → below p xs ≡ 0
below_none p [] h = refl
below_none p (x ∷ xs) h = rw (le-ltb x p (h x (inl refl)), keep) (below_none p xs (λ y i. h y (inr i)))

-- rising numbers below p are no more than p
below-few : (q p : ℕ) (xs : List ℕ) → Rising q xs → q ≤ p → below p xs + q ≤ p
below-few q p [] r l = omega arith
below-few q p (x ∷ xs) r l =
    by_cases (ltb x p)
    (λ e. rw (e, keep) (omega (arith, r.0, below-few (suc x) p xs r.1 (omega (arith, ltb-true x p e)))))
    (λ e. rw (e, keep) (below-few q p xs (rising-from q (suc x) xs (omega (arith, r.0)) r.1) l))

-- those below one of them are those before it
below-order : (q p : ℕ) (xs : List ℕ) → Rising q xs → In p xs → below p xs ≡ up_to (λ k. 1) p xs
below-order q p [] r i = absurd i
below-order q p (x ∷ xs) r (inl e) =
    rw (le-ltb x p (omega (arith, e)), keep, eq-eqb x p (sym e), up_to) (below_none p xs (λ y j. omega (arith, e, rising-in (suc x) xs y r.1 j)))
below-order q p (x ∷ xs) r (inr i) =
    let l : x < p = rising-in (suc x) xs p r.1 i in
    rw (up_to-tail (λ k. 1) p x xs l, lt-ltb x p l, keep) (omega (arith, below-order (suc x) p xs r.1 i))

-- one more are below the number after one of them
below_more : (q p n : ℕ) (xs : List ℕ) → Rising q xs → In p xs → p < n → ((x : ℕ) → In x xs → x < n → x ≤ p) → below n xs ≡ suc (below p xs)
below_more q p n [] r i l h = absurd i
below_more q p n (x ∷ xs) r (inl e) l h =
    let more : (y : ℕ) → In y xs → suc x ≤ y = λ y j. rising-in (suc x) xs y r.1 j in
    let far : (y : ℕ) → In y xs → n ≤ y =
    λ y j. by_cases (ltb y n) (λ u. absurd (omega (arith, e, more y j, h y (inr j) (ltb-true y n u)))) (λ u. ltb-false y n u) in
    rw (lt-ltb x n (omega (arith, e)), keep, le-ltb x p (omega (arith, e)), keep)
    (ap suc (below_none n xs far ∙ sym (below_none p xs (λ y j. omega (arith, e, more y j)))))
below_more q p n (x ∷ xs) r (inr i) l h =
    let k : x < p = rising-in (suc x) xs p r.1 i in
    rw (lt-ltb x n (omega arith), keep, lt-ltb x p k, keep) (ap suc (below_more (suc x) p n xs r.1 i l (λ y j. h y (inr j))))

-- ---- the elements of definition d below p
unfoldable pub counted : Recipe → ℕ → ℕ → ℕ
counted s d p = below p (elements s d)

module _ (s : Recipe) where
  pub element-of : (p : ℕ) → In p (places s) → is_element s p ≡ true → In p (elements s (holder s p))
  unfolding elements records_of is_element is_model
  element-of p i e =
      keep-in (is_element s) (records_of s (holder s p)) p
      (keep-in (λ q. not (is_model s q) && eqb (holder s q) (holder s p)) (places s) p i
      (both {a = not (is_model s p)} (rw (ne_eqb (kind s p) 1 (λ u. omega (arith, eqb-true (kind s p) 2 e)))) (eq-eqb (holder s p) (holder s p) refl)))
      e

  -- none before the definition, no more than there are bytes, and all behind all records
  pub counted_none : (d : ℕ) → counted s d d ≡ 0
  unfolding counted
  counted_none d = below_none d (elements s d) (λ x i. omega (arith, (in-elements s d x i).held, holder-below s x))

  pub counted-few : (d p : ℕ) → counted s d p ≤ p
  unfolding counted
  counted-few d p = omega (arith, below-few 0 p (elements s d) (elements-rise s d) (omega arith))

  pub counted-all : (d p : ℕ) → ((x : ℕ) → In x (places s) → x < p) → counted s d p ≡ length (elements s d)
  unfolding counted
  counted-all d p h = below_all p (elements s d) (λ x i. h x (in-elements s d x i).placed)

  module _ (p : ℕ) (here : In p (places s)) where
    -- a record that is no element of d changes nothing for d
    pub counted_same : (d : ℕ) → (In p (elements s d) → ⊥) → counted s d (next s p) ≡ counted s d p
    unfolding counted
    counted_same d other =
        below-same (next s p) p (elements s d)
        (λ x j. both_ways
        (λ e. lt-ltb x p (places-between s p x here (in-elements s d x j).placed (ltb-true x (next s p) e) (λ q. other (rw q at j))))
        (λ e. lt-ltb x (next s p) (omega (arith, ltb-true x p e, next_more s p))))

    -- an element is one more, and its number is how many were before it
    pub counted-more : is_element s p ≡ true → counted s (holder s p) (next s p) ≡ suc (counted s (holder s p) p)
    unfolding counted
    counted-more e =
        below_more 0 p (next s p) (elements s (holder s p)) (elements-rise s (holder s p)) (element-of p here e) (next_more s p)
        (λ x j u. before-this s p x here (in-elements s (holder s p) x j).placed u)

    pub counted-order : is_element s p ≡ true → counted s (holder s p) p ≡ order s (holder s p) p
    unfolding counted order
    counted-order e = below-order 0 p (elements s (holder s p)) (elements-rise s (holder s p)) (element-of p here e)
