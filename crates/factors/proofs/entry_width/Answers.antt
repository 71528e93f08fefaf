-- `factors::entry_width` meets its contract: a kind byte and nine fields.
-- Assumes nothing.
use native.Mathlib.Omega.{arith}
use Rattle.flat_table.specs.Table.{flat_width}
use Rattle.tree.specs.Tree.{most_depth}
use Rattle.factors.specs.Companion.{entry_length}
use Rattle.factors.proofs.entry_width.Goals as goal

pub overflow_mul-result : goal.overflow_mul-result
unfolding flat_width
overflow_mul-result c = omega (arith, c.field_width.ensures)

pub overflow_add-result : goal.overflow_add-result
unfolding flat_width
overflow_add-result c = omega (arith, c.field_width.ensures)

pub returns : goal.returns
unfolding entry_length most_depth
returns c = omega (arith, c.field_width.ensures)
