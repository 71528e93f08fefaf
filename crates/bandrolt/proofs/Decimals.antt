-- The kit's digits are 01's decimal, and how many there are.
-- Assumes nothing.
use mathlib.Core.Path.{◌≡◌, sym, ap, ◌∙◌}
use Prim.Native.Nat.{ℕ, zero, suc, ◌+◌, ◌-◌, ◌/◌, ◌%◌, ◌^◌, ◌≤◌, ◌<◌}
use native.Mathlib.Omega.{arith}
use native.Mathlib.Nat.{pow-suc, one-le-pow, div-lt_self}
use mathlib.Core.List.{List, [], ◌∷◌, ◌++◌}
use lib.ListN.{length, take, length-append}
use lib.Dec.{ltb}
use borrow.Author.Tests.{ltb-false, ltb-true, lt-ltb, le-ltb}
use Rattle.names.proofs.Tests.{by_cases}
use Rattle.io.specs.Digits.{last_digits, hex_digit_ascii, IsDigitCount}
use Rattle.composer.specs.Printed.{decimal_in, decimal}
use Rattle.composer.proofs.Printed.{decimal-suffices}

-- one digit
pub decimal_digit : (k : ℕ) → k < 10 → decimal k ≡ (48 + k) ∷ []
unfolding decimal decimal_in
decimal_digit k h = rw (lt-ltb k 10 h, decimal_in)

-- the last digit behind those of a tenth
pub decimal-more : (k : ℕ) → 10 ≤ k → decimal k ≡ decimal (k / 10) ++ ((48 + k % 10) ∷ [])
unfolding decimal decimal_in
decimal-more k h =
    rw (le-ltb k 10 h, decimal_in) (ap (λ (d : List ℕ). d ++ ((48 + k % 10) ∷ [])) (decimal-suffices k (k / 10) (div-lt_self {n = k} {k = 10} (omega arith) (omega arith))))

last-digit : (k : ℕ) → hex_digit_ascii (k % 10) ≡ 48 + k % 10
last-digit k = let small : k % 10 < 10 = omega arith in rw (lt-ltb (k % 10) 10 small)

-- the fewest digits that hold a number are its decimal
digits_decimal : (n k : ℕ) → IsDigitCount 10 1 k n → last_digits 10 n k ≡ decimal k
digits_decimal zero k f = absurd (omega arith)
digits_decimal (suc zero) k f =
    let small : k < 10 = f.1 in
    let whole : k % 10 ≡ k = omega arith in
    rw (last-digit k, whole) (sym (decimal_digit k small))
digits_decimal (suc (suc n)) k f =
    let some = one-le-pow n 10 (omega arith) in
    let tenth = pow-suc 10 n in
    let all = pow-suc 10 (suc n) in
    let less : suc (suc n) - 1 ≡ suc n = omega arith in
    let big : 10 ^ suc n ≤ k = rw less at (f.2 (omega arith)) in
    let large : 10 ≤ k = omega arith in
    let rest = digits_decimal (suc n) (k / 10) (omega arith, omega arith, λ l. let same : suc n - 1 ≡ n = omega arith in rw same (omega arith)) in
    rw (rest, last-digit k) (sym (decimal-more k large))

-- the first n of a buffer that the kit filled are the number in decimal
pub digits_are : (n k : ℕ) (digits : List ℕ) → IsDigitCount 10 1 k n → take n digits ≡ last_digits 10 n k → take n digits ≡ decimal k
digits_are n k digits f e = e ∙ digits_decimal n k f

-- a number below 10 ^ n has at most n digits
pub decimal-length : (n k : ℕ) → k < 10 ^ suc n → length (decimal k) ≤ suc n
decimal-length zero k h = let small : k < 10 = h in rw (decimal_digit k small) (omega arith)
decimal-length (suc n) k h =
    by_cases (ltb k 10)
    (λ e. rw (decimal_digit k (ltb-true k 10 e)) (omega arith))
    (λ e.
    let all = pow-suc 10 (suc n) in
    let rest = decimal-length n (k / 10) (omega arith) in
    rw (decimal-more k (ltb-false k 10 e), length-append) (omega arith))
