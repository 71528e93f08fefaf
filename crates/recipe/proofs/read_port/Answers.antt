-- `recipe::read_port` meets its contract: field by field, as each reader answers.
-- Assumes nothing.
use Rattle.std.specs.Prelude.{is_some}
use mathlib.Core.Path.{ap, sym, ◌∙◌}
use native.Mathlib.Omega.{arith}
use Rattle.recipe.proofs.Fields.{is-named, unnamed, port-nameless, port-submodel, port-offset, port-untargeted, port-read}
use Rattle.recipe.proofs.read_port.Goals as goal

pub returns-in_err-name_at : goal.returns-in_err-name_at
returns-in_err-name_at c = c.from_residual.ensures ∙ port-nameless _ _ c.requires.kinded (unnamed _ (sym c.in_err-name_at.was ∙ c.name_at.ensures))

pub returns-in_err-optional_at : goal.returns-in_err-optional_at
returns-in_err-optional_at c = c.from_residual-in_err-optional_at.ensures ∙ port-submodel _ _ c.requires.kinded (is-named _ (sym c.in_ok-name_at.was ∙ c.name_at.ensures)) (sym c.optional_at.ensures ∙ ap is_some c.in_err-optional_at.was)

pub read_target-requires : goal.read_target-requires
read_target-requires c = record { begins = port-offset _ _ c.requires.kinded; room = omega arith }

pub returns-in_err-way : goal.returns-in_err-way
returns-in_err-way c = c.from_residual-in_err-way.ensures ∙ port-untargeted _ _ c.requires.kinded (is-named _ (sym c.in_ok-name_at.was ∙ c.name_at.ensures)) (sym c.optional_at.ensures ∙ ap is_some c.in_ok-optional_at.was) (sym c.in_err-way.was ∙ c.read_target.ensures)

pub returns : goal.returns
returns c = port-read _ _ c.requires.kinded (is-named _ (sym c.in_ok-name_at.was ∙ c.name_at.ensures)) (sym c.optional_at.ensures ∙ ap is_some c.in_ok-optional_at.was) (sym c.in_ok-way.was ∙ c.read_target.ensures)
