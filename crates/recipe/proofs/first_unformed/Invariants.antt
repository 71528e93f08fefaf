-- `recipe::first_unformed` meets its contract: what is left to scan from the next record on.
-- Assumes nothing.
use mathlib.Core.Bool.{not}
use Rattle.recipe.specs.Reading.{is_form}
use Rattle.recipe.specs.Records.{recipe}
use Rattle.recipe.proofs.Going.{Going}
use Rattle.recipe.proofs.Steps.{Over}
use Rattle.recipe.proofs.first_unformed.Given as goal

abbrev pub invariant-loop-p : goal.invariant-loop-p
invariant-loop-p l = Over (recipe l.s) l.p-iterator × Going (recipe l.s) (λ q. not (is_form (recipe l.s) q)) l.p-iterator.at
