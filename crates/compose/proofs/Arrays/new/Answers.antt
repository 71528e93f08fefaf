-- `Arrays::new` meets its contract: the arrays' starts.
-- Assumes nothing.
use mathlib.Core.Path.{refl}
use Rattle.compose.proofs.Arrays.new.Goals as goal

pub returns : goal.returns
returns c = (refl, (refl, refl))
