-- `heights::settle` meets its contract: the definitions before the next record are settled, and none is in progress.
-- Assumes nothing.
use Rattle.recipe.specs.Records.{recipe}
use Rattle.recipe.proofs.Steps.{Over}
use Rattle.heights.proofs.Settling.{SettlesLoop}
use Rattle.heights.proofs.settle.Given as goal

abbrev pub invariant-loop-p : goal.invariant-loop-p
invariant-loop-p l = Over (recipe l.s) l.p-iterator × SettlesLoop (recipe l.s) l.initial.t l.t l.p-iterator.at
