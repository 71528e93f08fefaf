-- `recipe::read_submodel` meets its contract: field by field; the byte before the padding is the last character of the name.
-- Assumes nothing.
use mathlib.Core.Path.{sym, ◌∙◌}
use native.Mathlib.Omega.{arith}
use Rattle.recipe.proofs.Fields.{is-named, unnamed, name-fits, submodel-nameless, submodel-underscore, submodel-modelless, submodel-read}
use Rattle.recipe.proofs.read_submodel.Goals as goal

pub returns-in_err-n : goal.returns-in_err-n
returns-in_err-n c = c.from_residual.ensures ∙ submodel-nameless _ _ c.requires.kinded (unnamed _ (sym c.in_err-n.was ∙ c.name_at.ensures))

pub overflow_add-p : goal.overflow_add-p
overflow_add-p c = omega (arith, name-fits _ _ 0 (sym c.in_ok-n.was ∙ c.name_at.ensures))

pub bounds-s-p : goal.bounds-s-p
bounds-s-p c = omega (arith, name-fits _ _ 0 (sym c.in_ok-n.was ∙ c.name_at.ensures))

pub returns-then-s-p-eq95 : goal.returns-then-s-p-eq95
returns-then-s-p-eq95 c = submodel-underscore _ _ c.requires.kinded (sym c.in_ok-n.was ∙ c.name_at.ensures) c.if-s-p-eq95.true

pub returns-in_err-name_at : goal.returns-in_err-name_at
returns-in_err-name_at c = c.from_residual-in_err-name_at.ensures ∙ submodel-modelless _ _ c.requires.kinded (sym c.in_ok-n.was ∙ c.name_at.ensures) c.if-s-p-eq95.false (unnamed _ (sym c.in_err-name_at.was ∙ c.name_at-2.ensures))

pub returns : goal.returns
returns c = submodel-read _ _ c.requires.kinded (sym c.in_ok-n.was ∙ c.name_at.ensures) c.if-s-p-eq95.false (is-named _ (sym c.in_ok-name_at.was ∙ c.name_at-2.ensures))
