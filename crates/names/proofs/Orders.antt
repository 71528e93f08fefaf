-- The order of names is total, and how two names compare from an offset on. Assumes nothing.
use mathlib.Core.Path.{◌≡◌, ap, refl, sym, ◌∙◌}
use mathlib.Core.Logic.{◌⊎◌, inl, inr, ⊎_elim}
use mathlib.Core.Bool.{true, false, false≢true, true≢false}
use mathlib.Core.List.{List, [], ◌∷◌}
use Prim.Native.Nat.{ℕ, ◌<◌}
use native.Mathlib.Omega.{arith}
use lib.Dec.{eqb, ltb}
use borrow.Author.Tests.{eq-eqb, ne_eqb, le-ltb, eqb-true, eqb-false, ltb-true, ltb-false}
use Rattle.std.specs.Ordering.{nat_cmp, is_lt, is_gt, is_eq, ordering_reverse}
use Rattle.std.specs.Cmp.Lexicographic.{slice_cmp}
use Rattle.std.proofs.Common.{Ordering}
use Rattle.std.proofs.lemmas.Bool.Decides.{nat_tests}
use Rattle.std.proofs.lemmas.Cmp.{nat_list_cmp_total}
use Rattle.names.specs.Lists.{same}
use Rattle.names.specs.Order.{before}
use Rattle.names.proofs.Tests.{by_cases, not-both, apart}

-- ---- the order is total: a ≤ b is `before b a ≡ false`
-- the first bytes of two names, of which the second does not come before the first
heads : (x : ℕ) (xs : List ℕ) (y : ℕ) (ys : List ℕ) → before (y ∷ ys) (x ∷ xs) ≡ false → ((x ≡ y) × (before ys xs ≡ false)) ⊎ (x < y)
unfolding before
heads x xs y ys e =
    by_cases (eqb y x)
    (λ h. inl (sym (eqb-true y x h), rw h at e))
    (λ h. inr (apart (ltb-false y x (rw h at e)) (λ q. eqb-false y x h (sym q))))

less-heads : (x : ℕ) (xs : List ℕ) (y : ℕ) (ys : List ℕ) → x < y → before (y ∷ ys) (x ∷ xs) ≡ false
unfolding before
less-heads x xs y ys h = rw (ne_eqb y x (λ q. omega arith), le-ltb y x (omega arith))

same-heads : (x : ℕ) (xs : List ℕ) (y : ℕ) (ys : List ℕ) → x ≡ y → before ys xs ≡ false → before (y ∷ ys) (x ∷ xs) ≡ false
unfolding before
same-heads x xs y ys h e = rw (eq-eqb y x (sym h)) e

pub le_trans : (a b c : List ℕ) → before b a ≡ false → before c b ≡ false → before c a ≡ false
unfolding before
le_trans [] b [] p q = refl
le_trans [] b (z ∷ zs) p q = refl
le_trans (x ∷ xs) [] c p q = absurd (true≢false p)
le_trans (x ∷ xs) (y ∷ ys) [] p q = absurd (true≢false q)
le_trans (x ∷ xs) (y ∷ ys) (z ∷ zs) p q =
    ⊎_elim
    (λ (u : (x ≡ y) × (before ys xs ≡ false)).
    ⊎_elim
    (λ (v : (y ≡ z) × (before zs ys ≡ false)). same-heads x xs z zs (u.0 ∙ v.0) (le_trans xs ys zs u.1 v.1))
    (λ (v : y < z). less-heads x xs z zs (omega (arith, u.0)))
    (heads y ys z zs q))
    (λ (u : x < y).
    ⊎_elim
    (λ (v : (y ≡ z) × (before zs ys ≡ false)). less-heads x xs z zs (omega (arith, v.0)))
    (λ (v : y < z). less-heads x xs z zs (omega arith))
    (heads y ys z zs q))
    (heads x xs y ys p)

pub antisym : (a b : List ℕ) → before b a ≡ false → before a b ≡ false → a ≡ b
unfolding before
antisym [] [] p q = refl
antisym [] (y ∷ ys) p q = absurd (true≢false q)
antisym (x ∷ xs) [] p q = absurd (true≢false p)
antisym (x ∷ xs) (y ∷ ys) p q =
    ⊎_elim
    (λ (u : (x ≡ y) × (before ys xs ≡ false)).
    ⊎_elim
    (λ (v : (y ≡ x) × (before xs ys ≡ false)). let e : xs ≡ ys = antisym xs ys u.1 v.1 in let h : x ≡ y = u.0 in cc)
    (λ (v : y < x). absurd (omega (arith, u.0)))
    (heads y ys x xs q))
    (λ (u : x < y).
    ⊎_elim
    (λ (v : (y ≡ x) × (before xs ys ≡ false)). absurd (omega (arith, v.0)))
    (λ (v : y < x). absurd (omega arith))
    (heads y ys x xs q))
    (heads x xs y ys p)

pub asym : (a b : List ℕ) → before a b ≡ true → before b a ≡ false
unfolding before
asym [] [] p = absurd (false≢true p)
asym [] (y ∷ ys) p = refl
asym (x ∷ xs) [] p = absurd (false≢true p)
asym (x ∷ xs) (y ∷ ys) p =
    by_cases (eqb x y)
    (λ h. same-heads x xs y ys (eqb-true x y h) (asym xs ys (rw h at p)))
    (λ h. less-heads x xs y ys (ltb-true x y (rw h at p)))

pub irreflexive : (a : List ℕ) → before a a ≡ false
irreflexive a = by_cases (before a a) (λ e. asym a a e) (λ e. e)

pub lt-le : (a b c : List ℕ) → before a b ≡ true → before c b ≡ false → before a c ≡ true
lt-le a b c p q = by_cases (before a c) (λ e. e) (λ e. not-both p (le_trans b c a q e))

pub le-lt : (a b c : List ℕ) → before b a ≡ false → before b c ≡ true → before a c ≡ true
le-lt a b c p q = by_cases (before a c) (λ e. e) (λ e. not-both q (le_trans c a b e p))

-- ---- the library's order of lists is this one, and calls two lists equal where they are the same
cmp-equal : (x y : ℕ) → eqb x y ≡ true → nat_cmp x y ≡ Ordering.Equal
cmp-equal x y e = grind (arith, nat_tests)

pub cmp-before : (a b : List ℕ) → is_lt (slice_cmp nat_cmp a b) ≡ before a b
unfolding before
cmp-before [] [] = refl
cmp-before [] (y ∷ ys) = refl
cmp-before (x ∷ xs) [] = refl
cmp-before (x ∷ xs) (y ∷ ys) =
    by_cases (eqb x y)
    (λ e. rw (cmp-equal x y e, e) (cmp-before xs ys))
    (λ e. by_cases (ltb x y) (λ t. rw (e, t)) (λ t. rw (e, t)))

reversed : (o : Ordering) → is_gt (ordering_reverse o) ≡ is_lt o
reversed Ordering.Less = refl
reversed Ordering.Equal = refl
reversed Ordering.Greater = refl

pub cmp-after : (a b : List ℕ) → is_gt (slice_cmp nat_cmp a b) ≡ before b a
cmp-after a b = ap is_gt (nat_list_cmp_total.antisymm a b) ∙ (reversed (slice_cmp nat_cmp b a) ∙ cmp-before b a)

pub cmp-same : (a b : List ℕ) → is_eq (slice_cmp nat_cmp a b) ≡ same a b
cmp-same [] [] = refl
cmp-same [] (y ∷ ys) = refl
cmp-same (x ∷ xs) [] = refl
cmp-same (x ∷ xs) (y ∷ ys) =
    by_cases (eqb x y)
    (λ e. rw (cmp-equal x y e, e) (cmp-same xs ys))
    (λ e. by_cases (ltb x y) (λ t. rw (e, t)) (λ t. rw (e, t)))
