-- `elements::aims_at_gone` meets its contract: no instance before the next one has a target that is gone.
-- Assumes nothing.
use Rattle.recipe.specs.Records.{is_replaced_by, recipe}
use Rattle.marks.proofs.Following.{Seeks}
use Rattle.elements.proofs.Lost.{lost}
use Rattle.elements.proofs.aims_at_gone.Given as goal

abbrev pub invariant-loop-i : goal.invariant-loop-i
invariant-loop-i l = Seeks (recipe l.tree.source.now) l.tree.instances.now (is_replaced_by (recipe l.tree.source.now)) l.p (lost (recipe l.tree.source.now)) l.i-iterator
