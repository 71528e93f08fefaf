-- `factor_ends::FactorTree::first_misfactored` meets its contract: no kind 8 before the next record has a factor at fault.
-- Assumes nothing.
use Rattle.marks.specs.Faults.{is_unfactored}
use Rattle.marks.proofs.Passing.{Seeking}
use Rattle.factor_ends.specs.Recipes.{factored_recipe}
use Rattle.factor_ends.proofs.FactorTree.first_misfactored.Given as goal

abbrev pub invariant-loop-p : goal.invariant-loop-p
invariant-loop-p l = Seeking (factored_recipe l.self) (is_unfactored (factored_recipe l.self)) l.p-iterator
