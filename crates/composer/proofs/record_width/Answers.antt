-- `composer::record_width` meets its contract: a class and three fields.
-- Assumes nothing.
use native.Mathlib.Omega.{arith}
use Rattle.flat_table.specs.Table.{flat_length, flat_width}
use Rattle.composer.proofs.record_width.Goals as goal

pub overflow_mul-result : goal.overflow_mul-result
unfolding flat_width
overflow_mul-result c = omega (arith, c.field_width.ensures)

pub overflow_add-result : goal.overflow_add-result
unfolding flat_width
overflow_add-result c = omega (arith, c.field_width.ensures)

pub returns : goal.returns
unfolding flat_length
returns c = omega (arith, c.field_width.ensures)
