-- `compose::compose` meets its contract: rows 1 to 3 refuse, or rows 4, 5, 19 and 6, or the tree is judged.
-- Assumes nothing.
use borrow.Author.Rules.{rules}
use native.Mathlib.Omega.{arith}
use Rattle.std.proofs.lemmas.Result.{IfOk-at_ok, err_from_is_err_and}
use Rattle.names.proofs.Judging.{row-none, rows-behind, rows-pass, rows-refuse}
use Rattle.recipe.specs.Records.{recipe}
use Rattle.recipe.specs.Reading.{form_rows, naming_rows}
use Rattle.compose.specs.Rows.{refusal_of}
use Rattle.compose.proofs.Judging.{some_bytes}
use Rattle.compose.proofs.compose.Goals as goal

pub returns-in_err-judge_form : goal.returns-in_err-judge_form
unfolding refusal_of
returns-in_err-judge_form c =
    let p = err_from_is_err_and c.from_residual.result c.from_residual.ensures.1 in
    rw (p.1, p.2) (rows-refuse (form_rows (recipe c.args.s.now)) c.judge_form.ensures _ c.in_err-judge_form.was, tt)

pub judge_names-requires : goal.judge_names-requires
judge_names-requires c =
    record { width_is = c.requires; formed = rows-pass (form_rows (recipe c.args.s.now)) c.judge_form.ensures c.in_ok-judge_form.was; cells = search (rules, arith) }

pub returns-in_err-judge_names : goal.returns-in_err-judge_names
unfolding refusal_of
returns-in_err-judge_names c =
    let R = recipe c.args.s.now in
    let p = err_from_is_err_and c.from_residual-in_err-judge_names.result c.from_residual-in_err-judge_names.ensures.1 in
    let a = rows-pass (form_rows R) c.judge_form.ensures c.in_ok-judge_form.was in
    rw (p.1, p.2) (rows-behind (form_rows R) _ a (rows-refuse (naming_rows R) c.judge_names.ensures.0 _ c.in_err-judge_names.was), tt)

pub judge_tree-requires : goal.judge_tree-requires
judge_tree-requires c =
    let R = recipe c.args.s.now in
    let a = rows-pass (form_rows R) c.judge_form.ensures c.in_ok-judge_form.was in
    (IfOk-at_ok _ c.in_ok-judge_names.was c.judge_names.ensures.1, some_bytes R (row-none 1 (form_rows R) a))

pub returns : goal.returns
unfolding refusal_of
returns c =
    let R = recipe c.args.s.now in
    let a = rows-pass (form_rows R) c.judge_form.ensures c.in_ok-judge_form.was in
    let b = rows-pass (naming_rows R) c.judge_names.ensures.0 c.in_ok-judge_names.was in
    (rows-behind (form_rows R) _ a (rows-behind (naming_rows R) _ b c.judge_tree.ensures.0), c.judge_tree.ensures.1)
