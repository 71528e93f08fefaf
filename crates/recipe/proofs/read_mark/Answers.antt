-- `recipe::read_mark` meets its contract: field by field, as each reader answers.
-- Assumes nothing.
use mathlib.Core.Path.{sym, ◌∙◌}
use Rattle.recipe.proofs.Fields.{is-named, unnamed, mark-nameless, mark-submodelless, mark-untargeted, mark-read}
use Rattle.recipe.proofs.read_mark.Goals as goal

pub returns-in_err-name_at : goal.returns-in_err-name_at
returns-in_err-name_at c = c.from_residual.ensures ∙ mark-nameless _ _ c.requires (unnamed _ (sym c.in_err-name_at.was ∙ c.name_at.ensures))

pub returns-in_err-name_at-2 : goal.returns-in_err-name_at-2
returns-in_err-name_at-2 c = c.from_residual-in_err-name_at-2.ensures ∙ mark-submodelless _ _ c.requires (is-named _ (sym c.in_ok-name_at.was ∙ c.name_at.ensures)) (unnamed _ (sym c.in_err-name_at-2.was ∙ c.name_at-2.ensures))

pub read_target-requires : goal.read_target-requires
read_target-requires c = record { begins = c.requires.begins; room = c.requires.room }

pub returns-in_err-way : goal.returns-in_err-way
returns-in_err-way c = c.from_residual-in_err-way.ensures ∙ mark-untargeted _ _ c.requires (is-named _ (sym c.in_ok-name_at.was ∙ c.name_at.ensures)) (is-named _ (sym c.in_ok-name_at-2.was ∙ c.name_at-2.ensures)) (sym c.in_err-way.was ∙ c.read_target.ensures)

pub returns : goal.returns
returns c = mark-read _ _ c.requires (is-named _ (sym c.in_ok-name_at.was ∙ c.name_at.ensures)) (is-named _ (sym c.in_ok-name_at-2.was ∙ c.name_at-2.ensures)) (sym c.in_ok-way.was ∙ c.read_target.ensures)
