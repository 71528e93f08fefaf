-- `flat_table::length_fault` meets its contract: by the length.
-- Assumes nothing.
use mathlib.Core.Path.{sym}
use Rattle.flat_table.proofs.Places.{uneven, over, whole}
use Rattle.flat_table.proofs.length_fault.Goals as goal

pub returns-then-table-s-ne0 : goal.returns-then-table-s-ne0
returns-then-table-s-ne0 c = sym (uneven _ _ _ c.if-table-s-ne0.true)

pub returns-then-s-table : goal.returns-then-s-table
returns-then-s-table c = sym (over _ _ _ c.if-table-s-ne0.false c.if-s-table.true)

pub returns : goal.returns
returns c = sym (whole _ _ _ c.if-table-s-ne0.false c.if-s-table.false)
