-- `composer::flatten` meets its contract: a refusal of composing is handed on, else the room decides.
-- Assumes nothing.
use mathlib.Core.Path.{ap, sym, ◌∙◌}
use Rattle.std.specs.Result.{result_err}
use Rattle.std.proofs.lemmas.Result.{IfOk-at_ok}
use Rattle.names.proofs.Judging.{rows-pass}
use Rattle.compose.specs.Rows.{refusal_of, refusal_rows}
use Rattle.composer.specs.Verdicts.{recipe_of}
use Rattle.composer.proofs.Joining.{compose-keeps, compose-refuses, width-fits}
use Rattle.composer.proofs.flatten.Goals as goal

pub compose-requires : goal.compose-requires
compose-requires c = width-fits c.args.recipe.now c.source.ensures

pub returns-in-Err : goal.returns-in-Err
returns-in-Err c =
    let R = recipe_of c.args.recipe.now in
    let e = sym (ap result_err c.in-Err.is) ∙ c.compose.ensures.0 ∙ ap refusal_of c.source.ensures in
    (c.from.ensures ∙ compose-refuses R _ c.args.table.now e, compose-keeps R _ c.args.table.now e)

pub with_source-requires : goal.with_source-requires
with_source-requires c = IfOk-at_ok _ c.in-Ok.is c.compose.ensures.1 ∙ c.source.ensures ∙ sym c.source-in-Ok.ensures

pub flatten_composed-requires : goal.flatten_composed-requires
unfolding refusal_of
flatten_composed-requires c =
    rw (c.with_source.ensures ∙ c.source-in-Ok.ensures) (rows-pass (refusal_rows (recipe_of c.args.recipe.now)) (c.compose.ensures.0 ∙ ap refusal_of c.source.ensures) c.in-Ok.is)

pub returns-in-Ok : goal.returns-in-Ok
returns-in-Ok c = rw (c.with_source.ensures ∙ c.source-in-Ok.ensures) at c.flatten_composed.ensures
