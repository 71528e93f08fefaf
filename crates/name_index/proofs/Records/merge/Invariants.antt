-- `Records::merge` meets its contract: the invariant: what is left to write, from place k on, is what is left of the two runs merged.
-- Assumes nothing.
use Prim.Native.Nat.{◌-◌, ◌≤◌}
use lib.ListN.{length, drop}
use Rattle.name_index.specs.Positions.{total_entry, stands}
use Rattle.name_index.specs.Merging.{merged}
use Rattle.name_index.proofs.Merging.{Left}
use Rattle.name_index.proofs.Records.merge.Given as goal

abbrev pub invariant-loop-k : goal.invariant-loop-k
invariant-loop-k l =
    let lt = stands (total_entry l.self) in
    (l.i ≤ l.k) × ((l.i ≤ length l.a) × ((l.k - l.i ≤ length l.b) × Left l.initial.out (merged lt l.a l.b) l.out l.k (merged lt (drop l.i l.a) (drop (l.k - l.i) l.b))))
