-- `flat_table::bandrolt_check_table` meets its contract: 68 and 205 are the widths for names of 12.
-- Assumes nothing.
use Rattle.flat_table.specs.Table.{flat_width, flat_length, table_verdict}
use Rattle.flat_table.proofs.bandrolt_check_table.Goals as goal

pub returns : goal.returns
unfolding table_verdict flat_width flat_length
returns c = c.check_table.ensures
