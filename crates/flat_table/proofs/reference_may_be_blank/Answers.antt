-- `flat_table::reference_may_be_blank` meets its contract: by the class table.
-- Assumes nothing.
use Rattle.flat_table.proofs.Classes.{reference-blank}
use Rattle.flat_table.proofs.reference_may_be_blank.Goals as goal

pub returns : goal.returns
returns c = reference-blank c.args.c
