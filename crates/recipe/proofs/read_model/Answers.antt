-- `recipe::read_model` meets its contract: by what its name reads as.
-- Assumes nothing.
use mathlib.Core.Path.{sym, ◌∙◌}
use Rattle.recipe.proofs.Fields.{is-named, unnamed, model-refused, model-read}
use Rattle.recipe.proofs.read_model.Goals as goal

pub returns-in_err-name_at : goal.returns-in_err-name_at
returns-in_err-name_at c = c.from_residual.ensures ∙ model-refused _ _ c.requires.kinded (unnamed _ (sym c.in_err-name_at.was ∙ c.name_at.ensures))

pub returns : goal.returns
returns c = model-read _ _ c.requires.kinded (is-named _ (sym c.in_ok-name_at.was ∙ c.name_at.ensures))
