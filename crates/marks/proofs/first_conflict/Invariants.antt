-- `marks::first_conflict` meets its contract: no record before p conflicts with an earlier one, and the cells are those that they set.
-- Assumes nothing.
use mathlib.Core.Path.{◌≡◌}
use Prim.Native.Nat.{◌*◌}
use lib.ListN.{length}
use Rattle.recipe.specs.Records.{recipe}
use Rattle.marks.specs.Cells.{Stamped}
use Rattle.marks.specs.Faults.{conflicts_with_earlier}
use Rattle.marks.proofs.Passing.{Passing}
use Rattle.marks.proofs.first_conflict.Given as goal

abbrev pub invariant-loop-p : goal.invariant-loop-p
invariant-loop-p l = record {
  passing : Passing (recipe l.tree.source.now) (conflicts_with_earlier (recipe l.tree.source.now)) (λ D. Stamped (recipe l.tree.source.now) D l.cells) l.p-iterator;
  long : length l.cells ≡ 12 * 1024;
}
