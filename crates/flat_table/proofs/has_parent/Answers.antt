-- `flat_table::has_parent` meets its contract: by the class table.
-- Assumes nothing.
use Rattle.flat_table.proofs.Classes.{parent-some}
use Rattle.flat_table.proofs.has_parent.Goals as goal

pub returns : goal.returns
returns c = parent-some c.args.c
