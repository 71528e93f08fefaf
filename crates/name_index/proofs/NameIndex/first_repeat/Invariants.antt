-- `NameIndex::first_repeat` meets its contract: the invariant: the least of the repeats among the pairs passed, if there is one.
-- Assumes nothing.
use Rattle.name_index.proofs.Finds.{ScanningTo}
use Rattle.name_index.proofs.NameIndex.first_repeat.Given as goal

abbrev pub invariant-loop-pair : goal.invariant-loop-pair
invariant-loop-pair l = ScanningTo l.self.records l.self.order.now l.self.sorted l.pair-iterator l.first
