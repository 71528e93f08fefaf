-- `recipe::is_mark` meets its contract: word for word.
-- Assumes nothing.
use mathlib.Core.Path.{refl}
use Rattle.recipe.proofs.is_mark.Goals as goal

pub returns : goal.returns
returns c = refl
