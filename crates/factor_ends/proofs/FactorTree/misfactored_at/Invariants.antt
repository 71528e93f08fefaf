-- `factor_ends::FactorTree::misfactored_at` meets its contract: no instance before the next one has a factor at fault.
-- Assumes nothing.
use Rattle.recipe.specs.Records.{is_factors}
use Rattle.marks.specs.Faults.{has_factor_fault}
use Rattle.marks.proofs.Following.{Seeks}
use Rattle.factor_ends.specs.Recipes.{factored_recipe}
use Rattle.factor_ends.proofs.FactorTree.misfactored_at.Given as goal

abbrev pub invariant-loop-i : goal.invariant-loop-i
invariant-loop-i l = Seeks (factored_recipe l.self) l.self.instances.now (is_factors (factored_recipe l.self)) l.p (has_factor_fault (factored_recipe l.self)) l.i-iterator
