-- `recipe::is_known` meets its contract: a known byte is read as a kind.
-- Assumes nothing.
use mathlib.Core.Path.{◌∙◌}
use Rattle.recipe.proofs.Bodies.{known-some}
use Rattle.recipe.proofs.is_known.Goals as goal

pub returns : goal.returns
returns c = c.is_some.ensures ∙ known-some _ _ c.of.ensures
