-- `flat_table::reference_allowed` meets its contract: by the class table.
-- Assumes nothing.
use Rattle.flat_table.proofs.Classes.{reference-some}
use Rattle.flat_table.proofs.reference_allowed.Goals as goal

pub returns : goal.returns
returns c = reference-some c.args.c c.args.k
