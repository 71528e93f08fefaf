-- `flat_table::parent_may_be_blank` meets its contract: by the class table.
-- Assumes nothing.
use mathlib.Core.Path.{ap}
use mathlib.Core.Bool.{not}
use Rattle.flat_table.specs.Classes.{parent_allowed}
use Rattle.flat_table.proofs.parent_may_be_blank.Goals as goal

pub returns : goal.returns
unfolding parent_allowed
returns c = ap not c.has_parent.ensures
