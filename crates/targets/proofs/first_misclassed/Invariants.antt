-- `targets::first_misclassed` meets its contract: no mark before p is misclassed.
-- Assumes nothing.
use Rattle.recipe.specs.Records.{recipe}
use Rattle.targets.proofs.Misclassed.{Judged}
use Rattle.targets.proofs.first_misclassed.Given as goal

abbrev pub invariant-loop-p : goal.invariant-loop-p
invariant-loop-p l = Judged (recipe l.s) l.p-iterator
