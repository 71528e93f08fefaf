-- `marks::enter_at` meets its contract: the instances passed have set their cells.
-- Assumes nothing.
use mathlib.Core.Path.{◌≡◌}
use Prim.Native.Nat.{◌*◌}
use lib.ListN.{length}
use Rattle.recipe.specs.Records.{recipe}
use Rattle.marks.specs.Cells.{Stamped}
use Rattle.marks.proofs.Following.{Following}
use Rattle.marks.proofs.enter_at.Given as goal

abbrev pub invariant-loop-i : goal.invariant-loop-i
invariant-loop-i l = record {
  long : length l.cells ≡ 12 * 1024;
  along : Following (recipe l.tree.source.now) l.tree.instances.now l.p (λ D. Stamped (recipe l.tree.source.now) D l.cells) l.i-iterator;
}
