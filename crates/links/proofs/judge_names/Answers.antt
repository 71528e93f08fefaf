-- `links::judge_names` meets its contract: row 4, then row 5, then the targets.
-- Assumes nothing.
use mathlib.Core.Path.{◌∙◌}
use Rattle.std.proofs.lemmas.Result.{err_from_is_err_and}
use Rattle.names.specs.declared.Reason.TheVariants.{Repeated, Undeclared}
use Rattle.names.proofs.Judging.{no_rows, row-behind, row-passed, row-refuses}
use Rattle.links.proofs.judge_names.Goals as goal

pub returns-in_err-judge : goal.returns-in_err-judge
returns-in_err-judge c =
    let p = err_from_is_err_and c.from_residual.result c.from_residual.ensures.1 in
    rw (p.1, p.2) (row-refuses Repeated c.first_repeated.ensures c.judge.ensures _ c.in_err-judge.was, tt)

pub invariant_of-linker : goal.invariant_of-linker
invariant_of-linker c = record { once = row-passed Repeated c.first_repeated.ensures c.judge.ensures c.in_ok-judge.was }

pub returns-in_err-judge-2 : goal.returns-in_err-judge-2
returns-in_err-judge-2 c =
    let p = err_from_is_err_and c.from_residual-in_err-judge-2.result c.from_residual-in_err-judge-2.ensures.1 in
    let a = row-passed Repeated c.first_repeated.ensures c.judge.ensures c.in_ok-judge.was in
    rw (p.1, p.2) (row-behind Repeated _ a (row-refuses Undeclared c.link_records.ensures.0 c.judge-2.ensures _ c.in_err-judge-2.was), tt)

pub name_targets-requires : goal.name_targets-requires
name_targets-requires c =
    c.link_records.ensures.1 (c.link_records.ensures.0 ∙ row-passed Undeclared c.link_records.ensures.0 c.judge-2.ensures c.in_ok-judge-2.was)

pub returns : goal.returns
returns c =
    let a = row-passed Repeated c.first_repeated.ensures c.judge.ensures c.in_ok-judge.was in
    let b = row-passed Undeclared c.link_records.ensures.0 c.judge-2.ensures c.in_ok-judge-2.was in
    (row-behind Repeated _ a (row-behind Undeclared _ b no_rows), c.name_targets.ensures)
