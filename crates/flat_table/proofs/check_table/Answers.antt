-- `flat_table::check_table` meets its contract: the answer of the row that applies, or acceptance.
-- Assumes nothing.
use mathlib.Core.Path.{ap, ◌∙◌}
use Rattle.flat_table.specs.Table.{row_count, table_answer, verdict_of}
use Rattle.flat_table.proofs.check_table.Goals as goal

pub returns-in-Err : goal.returns-in-Err
unfolding verdict_of table_answer
returns-in-Err c = c.from.ensures ∙ ap (λ o. table_answer o (row_count c.args.l.width c.args.l.stride c.args.table.now)) c.in-Err.ensures.refused

pub returns-in-Ok : goal.returns-in-Ok
unfolding verdict_of table_answer
returns-in-Ok c = rw c.in-Ok.ensures.passed (ap (λ o. table_answer o (row_count c.args.l.width c.args.l.stride c.args.table.now)) c.in-Ok.ensures.refused)
