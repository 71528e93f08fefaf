-- `composer::field_width` meets its contract: five names and eight bytes.
-- Assumes nothing.
use native.Mathlib.Omega.{arith}
use Rattle.flat_table.specs.Table.{flat_width}
use Rattle.composer.proofs.field_width.Goals as goal

pub returns : goal.returns
unfolding flat_width
returns c = omega arith
