-- `shadow::clear_cells` meets its contract: the records before the next one have a 0 in the cell.
-- Assumes nothing.
use Rattle.recipe.specs.Records.{recipe}
use Rattle.recipe.proofs.Steps.{Over}
use Rattle.shadow.proofs.Clearing.{ClearLoop}
use Rattle.shadow.proofs.clear_cells.Given as goal

abbrev pub invariant-loop-p : goal.invariant-loop-p
invariant-loop-p l = Over (recipe l.fn.s) l.p-iterator × ClearLoop (recipe l.fn.s) l.k l.initial.t l.t l.p-iterator.at
