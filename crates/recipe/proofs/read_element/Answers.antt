-- `recipe::read_element` meets its contract: field by field, as each reader answers.
-- Assumes nothing.
use Rattle.std.specs.Prelude.{is_some}
use mathlib.Core.Path.{ap, sym, ◌∙◌}
use Rattle.flat_table.specs.Classes.{is_class}
use Rattle.recipe.proofs.Fields.{is-named, unnamed, element-nameless, element-classless, element-parent, element-reference, element-read}
use Rattle.recipe.proofs.read_element.Goals as goal

pub returns-in_err-name_at : goal.returns-in_err-name_at
returns-in_err-name_at c = c.from_residual.ensures ∙ element-nameless _ _ c.requires.kinded (unnamed _ (sym c.in_err-name_at.was ∙ c.name_at.ensures))

pub returns-then-not-is_class : goal.returns-then-not-is_class
returns-then-not-is_class c = element-classless _ _ c.requires.kinded (is-named _ (sym c.in_ok-name_at.was ∙ c.name_at.ensures)) (ap is_class (sym c.class_at-class.ensures) ∙ sym c.is_class.ensures ∙ c.if-not-is_class.true)

pub returns-in_err-optional_at : goal.returns-in_err-optional_at
returns-in_err-optional_at c = c.from_residual-in_err-optional_at.ensures ∙ element-parent _ _ c.requires.kinded (is-named _ (sym c.in_ok-name_at.was ∙ c.name_at.ensures)) (ap is_class (sym c.class_at-class.ensures) ∙ sym c.is_class.ensures ∙ c.if-not-is_class.false) (sym c.optional_at.ensures ∙ ap is_some c.in_err-optional_at.was)

pub returns-in_err-optional_at-2 : goal.returns-in_err-optional_at-2
returns-in_err-optional_at-2 c = c.from_residual-in_err-optional_at-2.ensures ∙ element-reference _ _ c.requires.kinded (is-named _ (sym c.in_ok-name_at.was ∙ c.name_at.ensures)) (ap is_class (sym c.class_at-class.ensures) ∙ sym c.is_class.ensures ∙ c.if-not-is_class.false) (sym c.optional_at.ensures ∙ ap is_some c.in_ok-optional_at.was) (sym c.optional_at-2.ensures ∙ ap is_some c.in_err-optional_at-2.was)

pub returns : goal.returns
returns c = rw c.class_at-class.ensures (element-read _ _ c.requires.kinded (is-named _ (sym c.in_ok-name_at.was ∙ c.name_at.ensures)) (ap is_class (sym c.class_at-class.ensures) ∙ sym c.is_class.ensures ∙ c.if-not-is_class.false) (sym c.optional_at.ensures ∙ ap is_some c.in_ok-optional_at.was) (sym c.optional_at-2.ensures ∙ ap is_some c.in_ok-optional_at-2.was))
