-- `recipe::read_factors` meets its contract: field by field, as each reader answers.
-- Assumes nothing.
use Rattle.std.specs.Prelude.{is_some}
use mathlib.Core.Path.{ap, sym, ◌∙◌}
use Rattle.recipe.proofs.Fields.{is-named, unnamed, factors-nameless, factors-time, factors-extent, factors-read}
use Rattle.recipe.proofs.read_factors.Goals as goal

pub returns-in_err-name_at : goal.returns-in_err-name_at
returns-in_err-name_at c = c.from_residual.ensures ∙ factors-nameless _ _ c.requires.kinded (unnamed _ (sym c.in_err-name_at.was ∙ c.name_at.ensures))

pub returns-in_err-optional_at : goal.returns-in_err-optional_at
returns-in_err-optional_at c = c.from_residual-in_err-optional_at.ensures ∙ factors-time _ _ c.requires.kinded (is-named _ (sym c.in_ok-name_at.was ∙ c.name_at.ensures)) (sym c.optional_at.ensures ∙ ap is_some c.in_err-optional_at.was)

pub returns-in_err-optional_at-2 : goal.returns-in_err-optional_at-2
returns-in_err-optional_at-2 c = c.from_residual-in_err-optional_at-2.ensures ∙ factors-extent _ _ c.requires.kinded (is-named _ (sym c.in_ok-name_at.was ∙ c.name_at.ensures)) (sym c.optional_at.ensures ∙ ap is_some c.in_ok-optional_at.was) (sym c.optional_at-2.ensures ∙ ap is_some c.in_err-optional_at-2.was)

pub returns : goal.returns
returns c = factors-read _ _ c.requires.kinded (is-named _ (sym c.in_ok-name_at.was ∙ c.name_at.ensures)) (sym c.optional_at.ensures ∙ ap is_some c.in_ok-optional_at.was) (sym c.optional_at-2.ensures ∙ ap is_some c.in_ok-optional_at-2.was)
