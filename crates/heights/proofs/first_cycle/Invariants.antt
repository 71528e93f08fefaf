-- `heights::first_cycle` meets its contract: what is left to scan from the next record on.
-- Assumes nothing.
use Rattle.recipe.specs.Records.{recipe}
use Rattle.recipe.proofs.Going.{Going}
use Rattle.recipe.proofs.Steps.{Over}
use Rattle.heights.proofs.Cycles.{is_cycle}
use Rattle.heights.proofs.first_cycle.Given as goal

abbrev pub invariant-loop-p : goal.invariant-loop-p
invariant-loop-p l = Over (recipe l.s) l.p-iterator × Going (recipe l.s) (is_cycle (recipe l.s)) l.p-iterator.at
