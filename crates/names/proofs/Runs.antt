-- Bytes of a field, eight at a time and one by one: how many pass a test from the start, whether all do, and what a run of equal bytes says of two names.
-- Assumes nothing.
use mathlib.Core.Path.{◌≡◌, refl, sym, ap, ◌∙◌}
use mathlib.Core.Bool.{Bool, true, false, ◌&&◌}
use mathlib.Core.List.{List, [], ◌∷◌}
use Prim.Native.Nat.{ℕ, zero, suc, ◌+◌, ◌-◌, ◌*◌, ◌/◌, ◌<◌, ◌≤◌}
use native.Mathlib.Omega.{arith}
use lib.ListN.{length, get_or, take, drop, length-drop}
use lib.Seq.{drop-drop, take_all, ext_get_or}
use lib.Dec.{eqb, ltb, leb}
use borrow.Author.Tests.{eq-eqb, ne_eqb, eqb-true, eqb-false, leb-true, leb-false}
use Rattle.std.specs.List.{fold, list_all, prefix_len}
use Rattle.std.specs.Simd.{first_chunks}
use Rattle.std.proofs.lemmas.List.{take-append-drop}
use Rattle.std.proofs.lemmas.List.Folds.{length-prefix_len, list_all-append}
use Rattle.std.proofs.lemmas.List.Sums.{prefix_len_is}
use Rattle.names.specs.Lists.{keep_while, every, same}
use Rattle.names.specs.Order.{before}
use Rattle.names.proofs.Tests.{by_cases, not-both}
use Rattle.names.proofs.Lists.{eq-same, same_false}

-- ---- tests joined by `&`, without a branch
module _ {A : Type 0} (t : A → Bool) where
  fold-failed : (xs : List A) → fold (λ a x. a && t x) false xs ≡ false
  fold-failed [] = refl
  fold-failed (x ∷ xs) = fold-failed xs

  pub fold-every : (xs : List A) → fold (λ a x. a && t x) true xs ≡ every t xs
  fold-every [] = refl
  fold-every (x ∷ xs) =
      by_cases (t x)
      (λ e. rw (e, every) (fold-every xs))
      (λ e. rw (e, every) (fold-failed xs))

-- ---- a run in steps of eight, and the rest of it
module _ {A : Type 0} (t : A → Bool) where
  pub kept-prefix : (xs : List A) → length (keep_while t xs) ≡ prefix_len t xs
  kept-prefix [] = refl
  kept-prefix (x ∷ xs) =
      by_cases (t x)
      (λ e. rw (e, keep_while, prefix_len) (omega (arith, kept-prefix xs)))
      (λ e. rw (e, keep_while, prefix_len))

  run-over : (n : ℕ) (xs : List A) → n ≤ length xs → every t (take n xs) ≡ true → n + length (keep_while t (drop n xs)) ≡ length (keep_while t xs)
  run-over zero xs h e = omega arith
  run-over (suc n) [] h e = absurd (omega arith)
  run-over (suc n) (x ∷ xs) h e =
      by_cases (t x)
      (λ k. rw (k, keep_while) (omega (arith, run-over n xs (omega arith) (rw (k, every) at e))))
      (λ k. not-both e (rw (k, every)))

  eights-over : (m : ℕ) (xs : List A) → 8 * m ≤ length xs → let n = 8 * prefix_len (every t) (first_chunks 8 m xs) in
      n + length (keep_while t (drop n xs)) ≡ length (keep_while t xs)
  eights-over zero xs h = omega arith
  eights-over (suc m) xs h =
      by_cases (every t (take 8 xs))
      (λ e.
      let k = prefix_len (every t) (first_chunks 8 m (drop 8 xs)) in
      let z : 8 * (1 + k) ≡ 8 + 8 * k = omega arith in
      rw (e, prefix_len, z, ← drop-drop (8 * k) 8 xs)
      (omega (arith, eights-over m (drop 8 xs) (omega (arith, length-drop 8 xs)), run-over 8 xs (omega arith) e)))
      (λ e. rw (e, prefix_len) (omega arith))

  -- as `take_while` and `count` give them, over the chunks of a slice and over what is behind
  pub eights-run : (xs : List A) {zs : List (List A)} {n k : ℕ} → zs ≡ first_chunks 8 (length xs / 8) xs → n ≡ length (take (prefix_len (every t) zs) zs)
      → let ys = take (length xs - 8 * n) (drop (8 * n) xs) in k ≡ length (take (prefix_len t ys) ys) → 8 * n + k ≡ length (keep_while t xs)
  eights-run xs {zs} {n} {k} e p q =
      let ys = drop (8 * n) xs in
      let all : take (length xs - 8 * n) ys ≡ ys = take_all _ _ (omega (arith, length-drop (8 * n) xs)) in
      let rest : k ≡ length (keep_while t ys) = q ∙ (length-prefix_len t (take (length xs - 8 * n) ys) ∙ (ap (prefix_len t) all ∙ sym (kept-prefix ys))) in
      let over : n ≡ prefix_len (every t) (first_chunks 8 (length xs / 8) xs) = p ∙ (length-prefix_len (every t) zs ∙ ap (prefix_len (every t)) e) in
      ap (λ (j : ℕ). 8 * n + j) rest ∙ rw over (eights-over (length xs / 8) xs (omega arith))

-- ---- a test of all, in steps of eight and of the rest
module _ {A : Type 0} (t : A → Bool) where
  listed-every : (xs : List A) → list_all t xs ≡ every t xs
  listed-every [] = refl
  listed-every (x ∷ xs) = by_cases (t x) (λ e. rw (e, list_all, every) (listed-every xs)) (λ e. rw (e, list_all, every))

  every-parts : (n : ℕ) (xs : List A) → every t xs ≡ every t (take n xs) && every t (drop n xs)
  every-parts n xs =
      let parts = ap (list_all t) (sym (take-append-drop n xs)) ∙ list_all-append t (take n xs) (drop n xs) in
      sym (listed-every xs) ∙ (parts ∙ rw (listed-every (take n xs), listed-every (drop n xs)))

  eights-every : (m : ℕ) (xs : List A) → list_all (every t) (first_chunks 8 m xs) && every t (drop (m * 8) xs) ≡ every t xs
  eights-every zero xs = refl
  eights-every (suc m) xs =
      let z : (suc m) * 8 ≡ 8 + m * 8 = omega arith in
      let rest = eights-every m (drop 8 xs) in
      rw (every-parts 8 xs, z, ← drop-drop (m * 8) 8 xs)
      (by_cases (every t (take 8 xs)) (λ e. rw (e, list_all) rest) (λ e. rw (e, list_all)))

  -- as `all` gives them, over the chunks of a slice and over what is behind
  pub every-eights : (xs : List A) {zs : List (List A)} {ys : List A} → zs ≡ first_chunks 8 (length xs / 8) xs → ys ≡ drop (length xs / 8 * 8) xs
      → list_all (every t) zs && list_all t ys ≡ every t xs
  every-eights xs {ys = ys} e f = rw (listed-every ys, e, f) (eights-every (length xs / 8) xs)

-- by index: all before n pass, and n does not
pub run_length : (t : ℕ → Bool) (f : List ℕ) (n : ℕ) → n ≤ length f → ((k : ℕ) → k < n → t (get_or f k 0) ≡ true) → (n < length f → t (get_or f n 0) ≡ false)
    → n ≡ length (keep_while t f)
run_length t f n h p s = sym (kept-prefix t f ∙ prefix_len_is t f n 0 h p s)

-- ---- a run by its test, number by number: the numbers below i, of those below n, pass it
pub record Passed (t : ℕ → Bool) (n i : ℕ) : Type 0 where
  pub within : i ≤ n
  pub passes : (k : ℕ) → k < i → t k ≡ true

-- and i, where it is below n, does not
pub record Run (t : ℕ → Bool) (n i : ℕ) : Type 0 where
  pub passed : Passed t n i
  pub stops : i < n → t i ≡ false

pub run_is : (t : ℕ → Bool) (f : List ℕ) {n : ℕ} → Run (λ k. t (get_or f k 0)) (length f) n → n ≡ length (keep_while t f)
run_is t f {n} r = run_length t f n r.passed.within r.passed.passes r.stops

-- byte k of both is the same
abbrev pub same_at : List ℕ → List ℕ → ℕ → Bool
same_at a b k = eqb (get_or a k 0) (get_or b k 0)

-- the first bytes that differ decide
differ : (a b : List ℕ) (i : ℕ) → i < length a → i < length b → ((k : ℕ) → k < i → get_or a k 0 ≡ get_or b k 0) → (get_or a i 0 ≡ get_or b i 0 → ⊥)
    → ltb (get_or a i 0) (get_or b i 0) ≡ before a b
unfolding before
differ [] b i h l p n = absurd (omega arith)
differ (x ∷ xs) [] i h l p n = absurd (omega arith)
differ (x ∷ xs) (y ∷ ys) zero h l p n = rw (ne_eqb x y n)
differ (x ∷ xs) (y ∷ ys) (suc i) h l p n =
    rw (eq-eqb x y (p 0 (omega arith)))
    (differ xs ys i (omega arith) (omega arith) (λ k m. p (suc k) (omega arith)) n)

-- ---- what a run of equal bytes says of two names
module _ (a b : List ℕ) where
  equal-at : {n i : ℕ} → Passed (same_at a b) n i → (k : ℕ) → k < i → get_or a k 0 ≡ get_or b k 0
  equal-at p k h = eqb-true (get_or a k 0) (get_or b k 0) (p.passes k h)

  pub other_length : (length b ≡ length a → ⊥) → false ≡ same a b
  other_length n = sym (same_false {xs = a} {ys = b} (λ e. n (ap length (sym e))))

  pub run-same : {i : ℕ} → length b ≡ length a → Run (same_at a b) (length a) i → leb (length a) i ≡ same a b
  run-same {i} e r =
      by_cases (leb (length a) i)
      (λ h. h ∙ sym (eq-same (ext_get_or 0 a b (sym e) (λ k l. equal-at r.passed k (let g = leb-true (length a) i h in omega arith)))))
      (λ h.
      h
      ∙ sym
      (same_false {xs = a} {ys = b}
      (λ q. eqb-false (get_or a i 0) (get_or b i 0) (r.stops (leb-false (length a) i h)) (ap (λ (l : List ℕ). get_or l i 0) q))))

  pub run-differ : {n i : ℕ} → n ≤ length a → n ≤ length b → Run (same_at a b) n i → i < n → ltb (get_or a i 0) (get_or b i 0) ≡ before a b
  run-differ {n} {i} ha hb r h =
      differ a b i (omega arith) (omega arith) (equal-at r.passed) (eqb-false (get_or a i 0) (get_or b i 0) (r.stops h))
