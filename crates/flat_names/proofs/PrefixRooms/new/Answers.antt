-- `PrefixRooms::new` meets its contract: the arrays' starts.
-- Assumes nothing.
use mathlib.Core.Path.{refl}
use Rattle.flat_names.proofs.PrefixRooms.new.Goals as goal

pub returns : goal.returns
returns c = (refl, refl)
