-- `Rows::row` meets its contract: the fields lie within the record.
-- Assumes nothing.
use mathlib.Core.Path.{refl}
use Rattle.flat_table.specs.Table.{row_kind, row_name, row_parent, row_reference}
use Rattle.flat_table.proofs.Rows.row.Goals as goal

pub returns : goal.returns
unfolding row_kind row_name row_parent row_reference
returns c = record { class = refl; name = c.field_at.ensures; parent = c.field_at-2.ensures; reference = c.field_at-3.ensures }
