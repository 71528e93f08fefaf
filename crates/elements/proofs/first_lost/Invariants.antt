-- `elements::first_lost` meets its contract: no replaced-by before the next record has a target that is gone.
-- Assumes nothing.
use Rattle.recipe.specs.Records.{recipe}
use Rattle.marks.specs.Faults.{aims_at_gone}
use Rattle.marks.proofs.Passing.{Seeking}
use Rattle.elements.proofs.first_lost.Given as goal

abbrev pub invariant-loop-p : goal.invariant-loop-p
invariant-loop-p l = Seeking (recipe l.tree.source.now) (aims_at_gone (recipe l.tree.source.now)) l.p-iterator
