-- `references::first_misreferred` meets its contract: of the survivors with numbers below e the lowest at fault is known, and the ends are in the table.
-- Assumes nothing.
use Rattle.targets.specs.Trees.{aimed_recipe}
use Rattle.references.proofs.Misreferred.{Passed}
use Rattle.references.proofs.first_misreferred.Given as goal

abbrev pub invariant-loop-e : goal.invariant-loop-e
invariant-loop-e l = Passed (aimed_recipe l.aims) l.initial.el l.el l.e l.lowest
