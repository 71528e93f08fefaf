-- `bandrolt::Text::print_table` meets its contract: the first line, and the records' lines.
-- Assumes nothing.
use mathlib.Core.List.{append_assoc}
use Rattle.composer.specs.Printed.{characters, table_lines}
use Rattle.bandrolt.specs.Text.{row_lines}
use Rattle.bandrolt.proofs.Lines.{table-pieces}
use Rattle.bandrolt.proofs.Text.print_table.Goals as goal

pub put-requires : goal.put-requires
unfolding characters
put-requires c = (table-pieces c.args.self.now c.args.count c.args.table.now c.requires).first

pub print_decimal-requires : goal.print_decimal-requires
unfolding characters
print_decimal-requires c = (table-pieces c.args.self.now c.args.count c.args.table.now c.requires).second c.put.ensures

pub put-requires-2 : goal.put-requires-2
unfolding characters
put-requires-2 c = (table-pieces c.args.self.now c.args.count c.args.table.now c.requires).third c.put.ensures c.print_decimal.ensures

pub print_rows-requires : goal.print_rows-requires
unfolding characters
print_rows-requires c = (table-pieces c.args.self.now c.args.count c.args.table.now c.requires).fourth c.put.ensures c.print_decimal.ensures c.put-2.ensures

pub returns : goal.returns
unfolding characters table_lines row_lines
returns c = rw (c.print_rows.ensures, c.put-2.ensures, c.print_decimal.ensures, c.put.ensures) (simp append_assoc)
