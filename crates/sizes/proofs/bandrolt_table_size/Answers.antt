-- `sizes::bandrolt_table_size` meets its contract: a refusal of composing is handed on, else the survivors are measured.
-- Assumes nothing.
use mathlib.Core.Path.{ap, sym, ◌∙◌}
use Rattle.std.specs.Result.{result_err}
use Rattle.std.proofs.lemmas.Result.{IfOk-at_ok}
use Rattle.names.proofs.Judging.{rows-pass}
use Rattle.compose.specs.Rows.{refusal_of, refusal_rows}
use Rattle.composer.specs.Verdicts.{recipe_of}
use Rattle.composer.proofs.Joining.{width-fits}
use Rattle.sizes.proofs.Sizing.{refused-is, unrefused-is}
use Rattle.sizes.proofs.bandrolt_table_size.Goals as goal

pub compose-requires : goal.compose-requires
compose-requires c = width-fits c.args.recipe.now c.source.ensures

pub returns-in-Err : goal.returns-in-Err
returns-in-Err c =
    c.from.ensures ∙ refused-is (recipe_of c.args.recipe.now) _ (sym (ap result_err c.in-Err.is) ∙ c.compose.ensures.0 ∙ ap refusal_of c.source.ensures)

pub with_source-requires : goal.with_source-requires
with_source-requires c = IfOk-at_ok _ c.in-Ok.is c.compose.ensures.1 ∙ c.source.ensures ∙ sym c.source-in-Ok.ensures

pub returns-in-Ok : goal.returns-in-Ok
unfolding refusal_of
returns-in-Ok c =
    rw (c.with_source.ensures ∙ c.source-in-Ok.ensures) at c.size_composed.ensures
    ∙ unrefused-is (recipe_of c.args.recipe.now) (rows-pass (refusal_rows (recipe_of c.args.recipe.now)) (c.compose.ensures.0 ∙ ap refusal_of c.source.ensures) c.in-Ok.is)
