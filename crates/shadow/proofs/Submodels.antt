-- The submodels of a definition, one behind another: which is the next behind a record.
-- Assumes nothing.
use Rattle.std.specs.Prelude.{None, Some, unwrap_or}
use Prim.Native.Nat.{◌+◌, ◌<◌, ◌≤◌, suc, ℕ}
use borrow.Author.Tests.{eq-eqb, eqb-true, le-ltb, lt-ltb, ltb-false, ltb-true, ne_eqb, not-true}
use lib.Dec.{eqb, ltb}
use lib.ListN.{get_or, length}
use mathlib.Core.Bool.{Bool, ◌&&◌, false, not, true}
use mathlib.Core.List.{List, [], ◌∷◌}
use mathlib.Core.Logic.{inl, inr}
use mathlib.Core.Path.{◌≡◌, ap, refl, sym}
use native.Mathlib.Omega.{arith}
use Rattle.names.specs.Lists.{In, first, keep}
use Rattle.names.proofs.Lists.{first-none, in-keep, keep-in, none_first, some_first}
use Rattle.names.proofs.ListOrder.{Rising, first-lowest, rising-in}
use Rattle.names.proofs.Tests.{and_left, apart, both, by-option, by_cases, not-both, not_none, some-none, the-some, three}
use Rattle.recipe.specs.Definitions.{definitions, holder, records_of, submodels}
use Rattle.recipe.specs.Records.{Recipe, is_model, is_submodel, kind, next, places, record_length}
use Rattle.recipe.proofs.Definitions.{holder_in, holder-is, in-submodels}
use Rattle.recipe.proofs.Going.{FirstIn, going_more, reach-place, Going, Here, going_on, here}
use Rattle.recipe.proofs.Reading.{next_more, place-low, readable, readable-fits}
use Rattle.recipe.proofs.Spans.{definition-place, holder-above, holder-below, in-definitions}
use Rattle.shadow.proofs.Cells.{next-apart, step-next}
use Rattle.shadow.specs.Submodels.{Walkable}
use Rattle.shadow.proofs.Counting.{submodels-rise}

-- the first of a rising list that is behind p, where a is the least of those
first-behind : (p l a : ℕ) (xs : List ℕ) → Rising l xs → In a xs → p < a → ((x : ℕ) → In x xs → p < x → a ≤ x) → first (ltb p) xs ≡ Some a
first-behind p l a [] r i h k = absurd i
first-behind p l a (x ∷ xs) r (inl q) h k = rw (q, lt-ltb p x (rw q at h), first)
first-behind p l a (x ∷ xs) r (inr i) h k =
    let m = rising-in (suc x) xs a r.1 i in
    rw (le-ltb p x (three p x (λ u. absurd (omega (arith, k x (inl refl) u))) (λ u. omega arith) (λ u. omega arith)), first)
    (first-behind p (suc x) a xs r.1 i h (λ y j. k y (inr j)))

-- those behind p: all where each is, none where there is no first, and else the first and those behind it
keep-all : (t : ℕ → Bool) (xs : List ℕ) → ((x : ℕ) → In x xs → t x ≡ true) → keep t xs ≡ xs
keep-all t [] h = refl
keep-all t (x ∷ xs) h = rw (h x (inl refl), keep) (ap (λ (ys : List ℕ). x ∷ ys) (keep-all t xs (λ y i. h y (inr i))))

keep-none : (t : ℕ → Bool) (xs : List ℕ) → first t xs ≡ None → keep t xs ≡ []
keep-none t [] e = refl
keep-none t (x ∷ xs) e =
    by_cases (t x)
    (λ b. some-none (rw (b, first) at e))
    (λ b. rw (b, keep) (keep-none t xs (rw (b, first) at e)))

keep-behind : (l p q : ℕ) (xs : List ℕ) → Rising l xs → first (ltb p) xs ≡ Some q → keep (ltb p) xs ≡ q ∷ keep (ltb q) xs
keep-behind l p q [] r e = not_none e
keep-behind l p q (x ∷ xs) r e =
    by_cases (ltb p x)
    (λ b.
    let h : x ≡ q = the-some (rw (b, first) at e) in
    let g : (a : ℕ) → a ≤ x → keep (ltb a) xs ≡ xs = λ a m. keep-all (ltb a) xs (λ y i. lt-ltb a y (omega (arith, rising-in (suc x) xs y r.1 i))) in
    rw (b, keep, le-ltb q x (omega arith), keep, g p (omega (arith, ltb-true p x b)), g q (omega arith), h))
    (λ b.
    let n : first (ltb p) xs ≡ Some q = rw (b, first) at e in
    let f = some_first (ltb p) xs q n in
    rw (b, keep, le-ltb q x (omega (arith, ltb-false p x b, ltb-true p q f.1)), keep) (keep-behind (suc x) p q xs r.1 n))

module _ (s : Recipe) where
  submodel-in : (d q : ℕ) → In q (places s) → holder s q ≡ d → is_model s q ≡ false → is_submodel s q ≡ true → In q (submodels s d)
  unfolding submodels records_of
  submodel-in d q i h m k =
      keep-in (is_submodel s) (records_of s d) q
      (keep-in (λ p. not (is_model s p) && eqb (holder s p) d) (places s) q i (both (ap not m) (eq-eqb (holder s q) d h))) k

  -- the first submodel of d behind p, or the recipe's length where there is none: it is one, or the end, and there is none between
  abbrev pub submodel_after : ℕ → ℕ → ℕ
  submodel_after d p = unwrap_or (first (ltb p) (submodels s d)) (length s.bytes)

  pub after-within : (d p : ℕ) → submodel_after d p ≤ length s.bytes
  after-within d p =
      by-option (first (ltb p) (submodels s d))
      (λ e. rw e (omega arith))
      (λ a e. rw e (omega (arith, place-low s a (in-submodels s d a (some_first (ltb p) (submodels s d) a e).0).placed)))

  pub after_one : (d p : ℕ) → submodel_after d p < length s.bytes → In (submodel_after d p) (submodels s d)
  after_one d p l =
      by-option (first (ltb p) (submodels s d))
      (λ e. let k : length s.bytes < length s.bytes = rw e at l in absurd (omega arith))
      (λ a e. rw e (some_first (ltb p) (submodels s d) a e).0)

  pub after_first : (d p m : ℕ) → In m (submodels s d) → p < m → m < submodel_after d p → ⊥
  after_first d p m i h l =
      by-option (first (ltb p) (submodels s d))
      (λ e. omega (arith, ltb-false p m (none_first (ltb p) (submodels s d) m e i)))
      (λ a e. let k : m < a = rw e at l in omega (arith, ltb-false p m (first-lowest (ltb p) 0 (submodels s d) a m (submodels-rise s d) e i k)))

  -- a submodel of d stands behind d
  pub submodel-behind : (d m : ℕ) → In d (definitions s) → In m (submodels s d) → d < m
  unfolding records_of
  submodel-behind d m j i =
      let h = in-submodels s d m i in
      let plain = not-true (is_model s m) (and_left (not (is_model s m)) _ (in-keep (λ p. not (is_model s p) && eqb (holder s p) d) (places s) m h.inside).1) in
      apart (omega (arith, holder-below s m, h.held)) (λ q. not-both (definition-place s d j).1 (rw q plain))

  holder-own : (d : ℕ) → In d (definitions s) → holder s d ≡ d
  holder-own d i = omega (arith, holder-below s d, holder-above s d d i (omega arith))

  -- ---- those left behind a record: of a definition all, and else the first and those left behind it
  pub left-own : (d : ℕ) → In d (definitions s) → keep (ltb d) (submodels s (holder s d)) ≡ submodels s d
  left-own d i = rw (holder-own d i) (keep-all (ltb d) (submodels s d) (λ m j. lt-ltb d m (submodel-behind d m i j)))

  pub left-none : (p : ℕ) → None ≡ first (ltb p) (submodels s (holder s p)) → keep (ltb p) (submodels s (holder s p)) ≡ []
  left-none p e = keep-none (ltb p) (submodels s (holder s p)) (sym e)

  pub left-some : (p q : ℕ) → Some q ≡ first (ltb p) (submodels s (holder s p))
      → (keep (ltb p) (submodels s (holder s p)) ≡ q ∷ keep (ltb q) (submodels s (holder s q))) × In q (places s)
  left-some p q e =
      let h = in-submodels s (holder s p) q (some_first (ltb p) (submodels s (holder s p)) q (sym e)).0 in
      (rw h.held (keep-behind 0 p q (submodels s (holder s p)) (submodels-rise s (holder s p)) (sym e)), h.placed)

  -- ---- the search
  -- where a loop goes on behind a record
  going-behind : (p : ℕ) → In p (places s) → Going s (λ x. false) (next s p)
  going-behind p i = going_more (reach-place s (FirstIn s (λ x. false)) p (λ x ps l e. record { same = e.same }) (record { same = refl }) i) refl

  -- the search at q for the first submodel behind p, of the same definition: none stands between, nor does another definition begin
  pub record SearchLoop (p q : ℕ) : Type 0 where
    pub going : Going s (λ x. false) q
    pub further : p < q
    pub alone : (d : ℕ) → In d (definitions s) → p < d → q ≤ d
    pub between : (x : ℕ) → In x (submodels s (holder s p)) → p < x → q ≤ x

  module _ (w : Walkable s) (p : ℕ) (i : In p (places s)) where
    pub own-fits : p + record_length s.width (get_or s.bytes p 0) ≤ 16384
    own-fits = omega (arith, step-next s p refl, readable-fits s p (readable s p i), w.short)

    pub search-start : SearchLoop p (p + record_length s.width (get_or s.bytes p 0))
    search-start =
        let n = step-next s p refl in
        record {
          going = rw n (going-behind p i);
          further = omega (arith, n, next_more s p);
          alone = rw n (λ d j l. next-apart s p d i (definition-place s d j).0 l);
          between = rw n (λ x j l. next-apart s p x i (in-submodels s (holder s p) x j).placed l);
        }

    module _ {q : ℕ} (g : SearchLoop p q) where
      none_from : ((x : ℕ) → In x (submodels s (holder s p)) → q ≤ x → ⊥) → None ≡ first (ltb p) (submodels s (holder s p))
      none_from h =
          sym (first-none (ltb p) (submodels s (holder s p))
          (λ x j. le-ltb p x (three p x (λ u. absurd (h x j (g.between x j u))) (λ u. omega arith) (λ u. omega arith))))

      -- at the end there is none
      pub search-end : length s.bytes ≤ q → None ≡ first (ltb p) (submodels s (holder s p))
      search-end l = none_from (λ x j m. omega (arith, place-low s x (in-submodels s (holder s p) x j).placed))

      module _ (l : q < length s.bytes) where
        at : Here s (λ x. false) q
        at = here s (λ x. false) q w.whole g.going l

        -- nor at another definition
        pub search-stop : get_or s.bytes q 0 ≡ 1 → None ≡ first (ltb p) (submodels s (holder s p))
        unfolding is_model kind
        search-stop k =
            let f = g.further in
            let d = in-definitions s q at.place (eq-eqb (get_or s.bytes q 0) 1 k) in
            none_from (λ x j m. omega (arith, holder-above s q x d m, holder-below s p, (in-submodels s (holder s p) x j).held))

        -- another record is of the same definition
        same-holder : is_model s q ≡ false → holder s q ≡ holder s p
        same-holder m =
            let f = g.further in
            holder-is s q (holder s p) (holder_in s p i) (omega (arith, holder-below s p))
            (λ d j a b. three p d
            (λ u. let y = g.alone d j u in not-both (rw (three d q (λ u. absurd (omega arith)) (λ u. u) (λ u. absurd (omega arith))) at (definition-place s d j).1) m)
            (λ u. omega (arith, holder-above s d p j (omega arith)))
            (λ u. omega (arith, holder-above s d p j (omega arith))))

        -- a submodel is the one
        pub search-found : get_or s.bytes q 0 ≡ 4 → Some q ≡ first (ltb p) (submodels s (holder s p))
        unfolding is_submodel is_model kind
        search-found k =
            let m = ne_eqb (get_or s.bytes q 0) 1 (λ z. omega arith) in
            sym (first-behind p 0 q (submodels s (holder s p)) (submodels-rise s (holder s p))
            (submodel-in (holder s p) q at.place (same-holder m) m (eq-eqb (get_or s.bytes q 0) 4 k)) g.further g.between)

        -- another record is passed
        pub search-more : (get_or s.bytes q 0 ≡ 1 → ⊥) → (get_or s.bytes q 0 ≡ 4 → ⊥) → SearchLoop p (q + record_length s.width (get_or s.bytes q 0))
        unfolding is_submodel is_model kind
        search-more a b =
            let f = g.further in
            let n = step-next s q refl in
            let on : (x : ℕ) → In x (places s) → (x ≡ q → ⊥) → q ≤ x → next s q ≤ x = λ x j u v. next-apart s q x at.place j (three q x (λ y. y) (λ y. absurd (u (sym y))) (λ y. omega arith)) in
            record {
              going = going_on at refl refl;
              further = omega (arith, n, next_more s q);
              alone = rw n (λ d j m. let h = definition-place s d j in on d h.0 (λ u. a (eqb-true (get_or s.bytes q 0) 1 (rw u at h.1))) (g.alone d j m));
              between = rw n (λ x j m. let h = in-submodels s (holder s p) x j in on x h.placed (λ u. b (eqb-true (get_or s.bytes q 0) 4 (rw u at h.passes))) (g.between x j m));
            }
