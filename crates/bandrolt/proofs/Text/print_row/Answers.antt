-- `bandrolt::Text::print_row` meets its contract: the kind, three columns and a newline.
-- Assumes nothing.
use mathlib.Core.List.{append_assoc}
use Rattle.composer.specs.Printed.{characters}
use Rattle.bandrolt.proofs.Rows.{line-is}
use Rattle.bandrolt.proofs.Lines.{row-pieces}
use Rattle.bandrolt.proofs.Text.print_row.Goals as goal

pub print_decimal-requires : goal.print_decimal-requires
print_decimal-requires c = (row-pieces c.args.self.now c.args.row.now c.requires.room).first

pub print_column-requires : goal.print_column-requires
print_column-requires c = rw c.field_at.ensures ((row-pieces c.args.self.now c.args.row.now c.requires.room).second c.print_decimal.ensures)

pub print_column-requires-2 : goal.print_column-requires-2
print_column-requires-2 c =
    let name = rw c.field_at.ensures at c.print_column.ensures in
    rw c.field_at-2.ensures ((row-pieces c.args.self.now c.args.row.now c.requires.room).third c.print_decimal.ensures name)

pub print_column-requires-3 : goal.print_column-requires-3
print_column-requires-3 c =
    let name = rw c.field_at.ensures at c.print_column.ensures in
    let parent = rw c.field_at-2.ensures at c.print_column-2.ensures in
    rw c.field_at-3.ensures ((row-pieces c.args.self.now c.args.row.now c.requires.room).fourth c.print_decimal.ensures name parent)

pub put-requires : goal.put-requires
unfolding characters
put-requires c =
    let name = rw c.field_at.ensures at c.print_column.ensures in
    let parent = rw c.field_at-2.ensures at c.print_column-2.ensures in
    let reference = rw c.field_at-3.ensures at c.print_column-3.ensures in
    (row-pieces c.args.self.now c.args.row.now c.requires.room).fifth c.print_decimal.ensures name parent reference

pub returns : goal.returns
unfolding characters
returns c =
    rw (c.put.ensures, c.print_column-3.ensures, c.print_column-2.ensures, c.print_column.ensures, c.print_decimal.ensures)
    (rw (c.field_at.ensures, c.field_at-2.ensures, c.field_at-3.ensures, line-is c.args.row.now 0) (simp append_assoc))
