-- `flat_names::count_underscores` meets its contract: the invariant: the first k bytes, those that were seen, are underscores.
-- Assumes nothing.
use mathlib.Core.Path.{◌≡◌}
use Prim.Native.Nat.{ℕ, ◌<◌}
use lib.ListN.{get_or}
use Rattle.flat_names.proofs.count_underscores.Given as goal

abbrev pub invariant-loop-b : goal.invariant-loop-b
invariant-loop-b l = (l.k ≡ l.b-index) × ((j : ℕ) → j < l.k → get_or l.f j 0 ≡ 95)
