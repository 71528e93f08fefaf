-- `marks::conflicts_at` meets its contract: no instance passed has a conflict.
-- Assumes nothing.
use Rattle.recipe.specs.Records.{is_pointer, recipe}
use Rattle.marks.proofs.Following.{Seeks}
use Rattle.marks.proofs.Turn.{clash}
use Rattle.marks.proofs.conflicts_at.Given as goal

abbrev pub invariant-loop-i : goal.invariant-loop-i
invariant-loop-i l = Seeks (recipe l.tree.source.now) l.tree.instances.now (is_pointer (recipe l.tree.source.now)) l.p (clash (recipe l.tree.source.now) l.p) l.i-iterator
