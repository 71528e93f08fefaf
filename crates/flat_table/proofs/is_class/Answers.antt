-- `flat_table::is_class` meets its contract: by computing.
-- Assumes nothing.
use Rattle.flat_table.specs.Classes.{is_class}
use mathlib.Core.Path.{refl}
use Rattle.flat_table.proofs.is_class.Goals as goal

pub returns : goal.returns
unfolding is_class
returns c = refl
