-- `Records::sort_runs` meets its contract: the invariant: the places below i are in order.
-- Assumes nothing.
use Prim.Native.Nat.{◌-◌}
use lib.ListN.{length}
use Rattle.name_index.specs.Positions.{total_entry, stands}
use Rattle.name_index.specs.Runs.{key_at}
use Rattle.name_index.proofs.Runs.{Running}
use Rattle.name_index.proofs.Records.sort_runs.Given as goal

abbrev pub invariant-loop-i : goal.invariant-loop-i
invariant-loop-i l = Running (key_at l.self) (stands (total_entry l.self)) l.initial.order l.order l.i

abbrev pub decreases-loop-i : goal.decreases-loop-i
decreases-loop-i l = length l.initial.order - l.i
