-- `flat_table::parent_allowed` meets its contract: by the class table.
-- Assumes nothing.
use Rattle.flat_table.specs.Classes.{parent_allowed}
use Rattle.flat_table.proofs.parent_allowed.Goals as goal

pub returns : goal.returns
unfolding parent_allowed
returns c = rw c.has_parent.ensures
