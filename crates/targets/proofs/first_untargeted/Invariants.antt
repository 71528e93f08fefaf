-- `targets::first_untargeted` meets its contract: what is kept is right, and each mark or port before p is kept.
-- Assumes nothing.
use Rattle.recipe.specs.Records.{recipe}
use Rattle.recipe.proofs.Steps.{Over}
use Rattle.targets.proofs.Remembering.{TargetLoop}
use Rattle.targets.proofs.first_untargeted.Given as goal

abbrev pub invariant-loop-p : goal.invariant-loop-p
invariant-loop-p l = Over (recipe l.s) l.p-iterator × TargetLoop (recipe l.s) l.initial.t l.t l.p-iterator.at
