-- `recipe::read_target` meets its contract: the way byte and the target's field, as each reads.
-- Assumes nothing.
use mathlib.Core.Path.{sym, ◌∙◌}
use Rattle.recipe.proofs.Fields.{is-named, unnamed, target-far, target-nameless, target-read}
use Rattle.recipe.proofs.read_target.Goals as goal

pub returns-in_err-way : goal.returns-in_err-way
returns-in_err-way c = c.from_residual.ensures ∙ target-far _ _ _ c.requires.begins (sym c.in_err-way.was ∙ c.of.ensures)

pub returns-in_err-name_at : goal.returns-in_err-name_at
returns-in_err-name_at c = c.from_residual-in_err-name_at.ensures ∙ target-nameless _ _ _ c.requires.begins (unnamed _ (sym c.in_err-name_at.was ∙ c.name_at.ensures))

pub returns : goal.returns
returns c = target-read _ _ _ c.requires.begins (is-named _ (sym c.in_ok-name_at.was ∙ c.name_at.ensures)) (sym c.in_ok-way.was ∙ c.of.ensures)
