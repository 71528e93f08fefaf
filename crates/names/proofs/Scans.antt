-- What a scan gives, and a loop that scans. Assumes nothing.
use Rattle.std.specs.Prelude.{None, Some, is_some}
use mathlib.Core.Path.{◌≡◌, refl, ap, ◌∙◌}
use mathlib.Core.Bool.{Bool, true, false, cond, false≢true}
use Prim.Native.Nat.{ℕ, zero, suc, ◌+◌, ◌-◌, ◌<◌, ◌≤◌}
use native.Mathlib.Omega.{arith}
use native.Mathlib.Nat.{sub-zero}
use lib.Dec.{eqb}
use borrow.Author.Tests.{eqb-true, eqb-false}
use Rattle.names.specs.Scans.{first_from, scan}
use Rattle.names.proofs.Tests.{by_cases, apart, not_none, the-some}

-- ---- what a scan gives
first-at : (t : ℕ → Bool) (p n x : ℕ) → p ≤ x → x < p + n → t x ≡ true → ((q : ℕ) → p ≤ q → q < x → t q ≡ false) → first_from t p n ≡ Some x
unfolding first_from
first-at t p zero x h l e f = absurd (omega arith)
first-at t p (suc n) x h l e f =
    by_cases (eqb p x)
    (λ k. rw (eqb-true p x k, e))
    (λ k. let g : p < x = apart h (eqb-false p x k) in rw (f p (omega arith) g) (first-at t (suc p) n x g (omega arith) e (λ q u v. f q (omega arith) v)))

first-none : (t : ℕ → Bool) (p n : ℕ) → ((q : ℕ) → p ≤ q → q < p + n → t q ≡ false) → first_from t p n ≡ None
unfolding first_from
first-none t p zero f = refl
first-none t p (suc n) f = rw (f p (omega arith) (omega arith)) (first-none t (suc p) n (λ q u v. f q (omega arith) (omega arith)))

first_some : (t : ℕ → Bool) (p n : ℕ) → is_some (first_from t p n) ≡ true → (q : ℕ) × (p ≤ q) × (q < p + n) × (t q ≡ true)
unfolding first_from
first_some t p zero e = absurd (false≢true e)
first_some t p (suc n) e =
    by_cases (t p)
    (λ h. (p, omega arith, omega arith, h))
    (λ h. let r = first_some t (suc p) n (rw h at e) in (r.0, omega (arith, r.1), omega (arith, r.2), r.3))

some_first : (t : ℕ → Bool) (p n q : ℕ) → p ≤ q → q < p + n → t q ≡ true → is_some (first_from t p n) ≡ true
unfolding first_from
some_first t p zero q h l e = absurd (omega arith)
some_first t p (suc n) q h l e =
    by_cases (eqb p q)
    (λ k. rw (eqb-true p q k, e))
    (λ k. by_cases (t p) (λ u. rw u) (λ u. rw u (some_first t (suc p) n q (apart h (eqb-false p q k)) (omega arith) e)))

module _ (t : ℕ → Bool) (n : ℕ) where
  pub scan-at : (x : ℕ) → x < n → t x ≡ true → ((q : ℕ) → q < x → t q ≡ false) → scan t n ≡ Some x
  unfolding scan
  scan-at x h e f = first-at t 0 n x (omega arith) (omega arith) e (λ q u v. f q v)

  pub scan-none : ((q : ℕ) → q < n → t q ≡ false) → scan t n ≡ None
  unfolding scan
  scan-none f = first-none t 0 n (λ q u v. f q (omega arith))

  pub scan-some : is_some (scan t n) ≡ true → (q : ℕ) × (q < n) × (t q ≡ true)
  unfolding scan
  scan-some e = let r = first_some t 0 n e in (r.0, omega (arith, r.2), r.3)

  pub some-scan : (q : ℕ) → q < n → t q ≡ true → is_some (scan t n) ≡ true
  unfolding scan
  some-scan q h e = some_first t 0 n q (omega arith) (omega arith) e

-- ---- a loop that scans: what is asked of all is what is asked from i on
pub scan-start : (t : ℕ → Bool) (n : ℕ) → scan t n ≡ first_from t 0 (n - 0)
unfolding scan
scan-start t n = rw (sub-zero n)

from_suc : (t : ℕ → Bool) (i n : ℕ) → i < n → first_from t i (n - i) ≡ cond (t i) (Some i) (first_from t (i + 1) (n - (i + 1)))
unfolding first_from
from_suc t i n h =
    let e : n - i ≡ suc (n - (i + 1)) = omega arith in
    let k : i + 1 ≡ suc i = omega arith in
    ap (first_from t i) e ∙ rw k

pub scan-more : (t : ℕ → Bool) (i n : ℕ) → i < n → t i ≡ false → first_from t i (n - i) ≡ first_from t (i + 1) (n - (i + 1))
scan-more t i n h e = from_suc t i n h ∙ rw e

pub scan-hit : (t : ℕ → Bool) (i n : ℕ) → i < n → t i ≡ true → first_from t i (n - i) ≡ Some i
scan-hit t i n h e = from_suc t i n h ∙ rw e

pub scan-over : (t : ℕ → Bool) (i n : ℕ) → n ≤ i → first_from t i (n - i) ≡ None
unfolding first_from
scan-over t i n h = let e : n - i ≡ 0 = omega arith in rw e

-- ---- a position that a scan gives is below n, and a scan looks at nothing else
first_below_lem : (t : ℕ → Bool) (p n x : ℕ) → first_from t p n ≡ Some x → x < p + n
unfolding first_from
first_below_lem t p zero x e = not_none e
first_below_lem t p (suc n) x e =
    by_cases (t p)
    (λ h. let z : p ≡ x = the-some (rw h at e) in omega arith)
    (λ h. let k = first_below_lem t (suc p) n x (rw h at e) in omega arith)

pub scan-below : (t : ℕ → Bool) (n x : ℕ) → scan t n ≡ Some x → x < n
unfolding scan
scan-below t n x e = let k = first_below_lem t 0 n x e in omega arith

first-same : (t u : ℕ → Bool) (p n : ℕ) → ((q : ℕ) → q < p + n → t q ≡ u q) → first_from t p n ≡ first_from u p n
unfolding first_from
first-same t u p zero f = refl
first-same t u p (suc n) f = rw (f p (omega arith), first-same t u (suc p) n (λ q h. f q (omega arith)))

pub scan-same : (t u : ℕ → Bool) (n : ℕ) → ((q : ℕ) → q < n → t q ≡ u q) → scan t n ≡ scan u n
unfolding scan
scan-same t u n f = first-same t u 0 n (λ q h. f q (omega arith))
