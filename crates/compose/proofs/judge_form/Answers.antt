-- `compose::judge_form` meets its contract: row by row, each answer as the definition has it.
-- Assumes nothing.
use native.Mathlib.Omega.{arith}
use Rattle.std.proofs.lemmas.Result.{err_from_is_err_and}
use Rattle.names.specs.declared.Reason.TheVariants.{BadLength, Unreadable}
use Rattle.names.proofs.Judging.{row-behind, row-passed, row-refuses}
use Rattle.recipe.proofs.Reading.{read_through}
use Rattle.compose.proofs.judge_form.Goals as goal

pub returns-in_err-judge : goal.returns-in_err-judge
returns-in_err-judge c =
    let p = err_from_is_err_and c.from_residual.result c.from_residual.ensures.1 in
    rw (p.1, p.2) (row-refuses BadLength c.length_fault.ensures c.judge.ensures _ c.in_err-judge.was)

pub returns-in_err-judge-2 : goal.returns-in_err-judge-2
returns-in_err-judge-2 c =
    let p = err_from_is_err_and c.from_residual-in_err-judge-2.result c.from_residual-in_err-judge-2.ensures.1 in
    let a = row-passed BadLength c.length_fault.ensures c.judge.ensures c.in_ok-judge.was in
    rw (p.1, p.2) (row-behind BadLength _ a (row-refuses Unreadable c.first_unreadable.ensures c.judge-2.ensures _ c.in_err-judge-2.was))

pub first_unformed-requires : goal.first_unformed-requires
first_unformed-requires c =
    (omega (arith, c.requires.narrow), read_through _ (row-passed Unreadable c.first_unreadable.ensures c.judge-2.ensures c.in_ok-judge-2.was))

pub returns : goal.returns
returns c =
    let a = row-passed BadLength c.length_fault.ensures c.judge.ensures c.in_ok-judge.was in
    let b = row-passed Unreadable c.first_unreadable.ensures c.judge-2.ensures c.in_ok-judge-2.was in
    row-behind BadLength _ a (row-behind Unreadable _ b (rw (← c.first_unformed.ensures) c.judge-3.ensures))
