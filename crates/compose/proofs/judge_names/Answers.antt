-- `compose::judge_names` meets its contract: the records are numbered; rows 4 and 5 refuse, or row 19, or the heights are settled, or row 6 refuses.
-- Assumes nothing.
use mathlib.Core.Path.{◌∙◌}
use Rattle.std.proofs.lemmas.Result.{IfOk-at_ok, err_from_is_err_and}
use Rattle.names.specs.declared.Reason.TheVariants.{Cyclic, Misscaled}
use Rattle.names.proofs.Judging.{last-passes, row-behind, row-none, row-passed, row-refuses, rows-behind, rows-pass, rows-refuse}
use Rattle.recipe.specs.Records.{recipe}
use Rattle.recipe.specs.Reading.{form_rows}
use Rattle.links.specs.Links.{declared_rows}
use Rattle.compose.proofs.Judging.{shadowed-is}
use Rattle.compose.proofs.judge_names.Goals as goal

pub number_records-requires : goal.number_records-requires
number_records-requires c = shadowed-is (recipe c.args.s.now) _ c.requires

pub resolve_names-requires : goal.resolve_names-requires
resolve_names-requires c =
    (c.number_records.ensures.0, row-none 3 (form_rows (recipe c.args.s.now)) c.requires.formed)

pub returns-in_err-resolve_names : goal.returns-in_err-resolve_names
returns-in_err-resolve_names c =
    let p = err_from_is_err_and c.from_residual.result c.from_residual.ensures.1 in
    rw (p.1, p.2) (rows-refuse (declared_rows (recipe c.args.s.now)) c.resolve_names.ensures.0 _ c.in_err-resolve_names.was, tt)

pub pair_factors-requires : goal.pair_factors-requires
pair_factors-requires c = IfOk-at_ok _ c.in_ok-resolve_names.was c.resolve_names.ensures.1.0

pub returns-in_err-judge : goal.returns-in_err-judge
returns-in_err-judge c =
    let p = err_from_is_err_and c.from_residual-in_err-judge.result c.from_residual-in_err-judge.ensures.1 in
    let a = rows-pass (declared_rows (recipe c.args.s.now)) c.resolve_names.ensures.0 c.in_ok-resolve_names.was in
    rw (p.1, p.2) (rows-behind (declared_rows (recipe c.args.s.now)) _ a (row-refuses Misscaled c.pair_factors.ensures.0 c.judge.ensures _ c.in_err-judge.was), tt)

pub find_heights-requires : goal.find_heights-requires
find_heights-requires c =
    c.pair_factors.ensures.1.0 (c.pair_factors.ensures.0 ∙ row-passed Misscaled c.pair_factors.ensures.0 c.judge.ensures c.in_ok-judge.was)

pub returns : goal.returns
returns c =
    let a = rows-pass (declared_rows (recipe c.args.s.now)) c.resolve_names.ensures.0 c.in_ok-resolve_names.was in
    let b = row-passed Misscaled c.pair_factors.ensures.0 c.judge.ensures c.in_ok-judge.was in
    (rows-behind (declared_rows (recipe c.args.s.now)) _ a (row-behind Misscaled _ b (rw (← c.find_heights.ensures.0) c.judge-2.ensures)), last-passes Cyclic _ c.judge-2.ensures c.find_heights.ensures.1)
