-- `IndexedRows::parent_fault` meets its contract: by what the parent field leads to.
-- Assumes nothing.
use Rattle.std.specs.Prelude.{None}
use mathlib.Core.Path.{sym, ap, ◌∙◌}
use Rattle.flat_table.specs.Classes.{parent_allowed}
use Rattle.flat_table.specs.Table.{is_parent_fault}
use Rattle.flat_table.proofs.Places.{named-inside, link-blank, link-missing, link-there, parent_row}
use Rattle.flat_table.proofs.IndexedRows.parent_fault.Goals as goal

pub returns-then-is_blank : goal.returns-then-is_blank
unfolding is_parent_fault
returns-then-is_blank c =
    link-blank _ _ _ _ _ _ _ c.row-row.ensures.parent c.is_blank.ensures c.if-is_blank.true (c.parent_may_be_blank.ensures ∙ ap (λ k. parent_allowed k None) c.row-row.ensures.class)

pub returns-in_default : goal.returns-in_default
unfolding is_parent_fault
returns-in_default c = link-missing _ _ _ _ _ _ _ c.row-row.ensures.parent c.is_blank.ensures c.if-is_blank.false (sym c.find.ensures ∙ c.in_default.is)

pub bounds-self-to : goal.bounds-self-to
bounds-self-to c = named-inside _ _ c.args.self.now.rows.fields c.find.ensures c.in-Some.is

pub returns : goal.returns
unfolding is_parent_fault
returns c =
    link-there _ _ _ _ _ _ _ c.row-row.ensures.parent c.is_blank.ensures _ c.if-is_blank.false (sym c.find.ensures ∙ c.in-Some.is) (parent_row _ _ _ _ _ c.row-row.ensures.class c.parent_allowed.ensures)
