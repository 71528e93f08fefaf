-- Decimals: as many digits allowed as the number counts, and one, suffice.
-- Assumes nothing.
use mathlib.Core.Path.{◌≡◌, ap}
use Prim.Native.Nat.{ℕ, zero, suc, ◌+◌, ◌/◌, ◌%◌, ◌<◌}
use native.Mathlib.Omega.{arith}
use native.Mathlib.Nat.{div-lt_self}
use mathlib.Core.List.{List, [], ◌∷◌, ◌++◌}
use lib.Dec.{ltb}
use borrow.Author.Tests.{ltb-false}
use Rattle.names.proofs.Tests.{by_cases}
use Rattle.composer.specs.Printed.{decimal_in, decimal}

suffice : (n m k : ℕ) → k < n → k < m → decimal_in n k ≡ decimal_in m k
unfolding decimal_in
suffice zero m k h l = absurd (omega arith)
suffice (suc n) zero k h l = absurd (omega arith)
suffice (suc n) (suc m) k h l =
    by_cases (ltb k 10)
    (λ e. rw (e, decimal_in))
    (λ e.
    let big = ltb-false k 10 e in
    let less : k / 10 < k = div-lt_self {n = k} {k = 10} (omega arith) (omega arith) in
    rw (e, decimal_in) (ap (λ (d : List ℕ). d ++ ((48 + k % 10) ∷ [])) (suffice n m (k / 10) (omega arith) (omega arith))))

-- more digits allowed change nothing
pub decimal-suffices : (n k : ℕ) → k < n → decimal_in n k ≡ decimal k
unfolding decimal
decimal-suffices n k h = suffice n (suc k) k h (omega arith)
