-- `origins::walk_back` meets its contract: a refusal of composing is handed on, else the search decides.
-- Assumes nothing.
use mathlib.Core.Path.{ap, sym, ◌∙◌}
use Rattle.std.specs.Result.{result_err}
use Rattle.std.proofs.lemmas.Result.{IfOk-at_ok, err_from_is_err_and}
use Rattle.names.proofs.Judging.{rows-pass}
use Rattle.compose.specs.Rows.{refusal_of, refusal_rows}
use Rattle.composer.specs.Verdicts.{recipe_of}
use Rattle.composer.proofs.Joining.{width-fits}
use Rattle.origins.specs.Origins.{answered}
use Rattle.origins.proofs.Answers.{walk_refused_lem, walk-searched}
use Rattle.origins.proofs.walk_back.Goals as goal

pub compose-requires : goal.compose-requires
compose-requires c = width-fits c.args.recipe.now c.source-s.ensures

pub returns-in_err-c : goal.returns-in_err-c
returns-in_err-c c =
    let p = err_from_is_err_and c.from_residual.result c.from_residual.ensures.1 in
    let e = sym (ap result_err c.in_err-c.was) ∙ c.compose.ensures.0 ∙ ap refusal_of c.source-s.ensures in
    rw (p.1, p.2) (walk_refused_lem (recipe_of c.args.recipe.now) c.args.name.now _ e)

pub with_source-requires : goal.with_source-requires
with_source-requires c = IfOk-at_ok _ c.in_ok-c.was c.compose.ensures.1 ∙ c.source-s.ensures ∙ sym c.source-anew.ensures

pub returns : goal.returns
unfolding refusal_of
returns c =
    ap answered c.ok_or.ensures.value
    ∙ walk-searched (recipe_of c.args.recipe.now) c.args.name.now (rows-pass (refusal_rows (recipe_of c.args.recipe.now)) (c.compose.ensures.0 ∙ ap refusal_of c.source-s.ensures) c.in_ok-c.was) (rw (c.with_source.ensures ∙ c.source-anew.ensures) at c.walk_composed.ensures)
