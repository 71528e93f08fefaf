-- `compose::judge_marks` meets its contract: rows 9 to 12 and 20, row by row.
-- Assumes nothing.
use mathlib.Core.Path.{◌∙◌, refl, sym}
use Rattle.std.proofs.lemmas.Result.{err_from_is_err_and}
use Rattle.names.specs.declared.Reason.TheVariants.{Conflicting, Lost, Misclassed, Misfactored, Misreferred}
use Rattle.names.proofs.Judging.{last-passes, row-behind, row-passed, row-refuses}
use Rattle.compose.proofs.Columns.{chains-ready, composed, factors-ready, gones-stepped, no_steps, rows-listed, rows-stepped, wide-still}
use Rattle.compose.proofs.judge_marks.Goals as goal

pub first_conflict-requires : goal.first_conflict-requires
first_conflict-requires c = refl

pub returns-in_err-judge : goal.returns-in_err-judge
returns-in_err-judge c =
    let p = err_from_is_err_and c.from_residual.result c.from_residual.ensures.1 in
    rw (p.1, p.2) (row-refuses Conflicting c.first_conflict.ensures.0 c.judge.ensures _ c.in_err-judge.was, tt)

pub returns-in_err-judge-2 : goal.returns-in_err-judge-2
returns-in_err-judge-2 c =
    let p = err_from_is_err_and c.from_residual-in_err-judge-2.result c.from_residual-in_err-judge-2.ensures.1 in
    let a = row-passed Conflicting c.first_conflict.ensures.0 c.judge.ensures c.in_ok-judge.was in
    rw (p.1, p.2) (row-behind Conflicting _ a (row-refuses Misclassed c.first_misclassed.ensures c.judge-2.ensures _ c.in_err-judge-2.was), tt)

pub mark_gone-requires : goal.mark_gone-requires
mark_gone-requires c =
    let a = row-passed Conflicting c.first_conflict.ensures.0 c.judge.ensures c.in_ok-judge.was in
    let z = c.first_conflict.ensures.1 (c.first_conflict.ensures.0 ∙ a) in
    rw c.aims.ensures.0
    (z.0, (z.1, (rows-listed c.args.tree.now.targeted c.args.el.now _ c.requires.1 c.list_elements.ensures.1 c.list_elements.ensures.0, c.requires.0)))

pub first_lost-requires : goal.first_lost-requires
first_lost-requires c =
    (rw c.aims.ensures.0 at c.mark_gone.ensures.0, wide-still c.args.tree.now.targeted c.args.el.now _ c.requires.1 c.list_elements.ensures.1 c.list_elements.ensures.0 _ c.mark_gone.ensures.1)

pub returns-in_err-judge-3 : goal.returns-in_err-judge-3
returns-in_err-judge-3 c =
    let p = err_from_is_err_and c.from_residual-in_err-judge-3.result c.from_residual-in_err-judge-3.ensures.1 in
    let a = row-passed Conflicting c.first_conflict.ensures.0 c.judge.ensures c.in_ok-judge.was in
    let b = row-passed Misclassed c.first_misclassed.ensures c.judge-2.ensures c.in_ok-judge-2.was in
    rw (p.1, p.2) (row-behind Conflicting _ a (row-behind Misclassed _ b (row-refuses Lost c.first_lost.ensures c.judge-3.ensures _ c.in_err-judge-3.was)), tt)

pub fill_steps-requires : goal.fill_steps-requires
fill_steps-requires c =
    let T = c.args.tree.now.targeted in
    let a = row-passed Conflicting c.first_conflict.ensures.0 c.judge.ensures c.in_ok-judge.was in
    (a, (no_steps T c.args.el.now _ c.requires.1 c.list_elements.ensures.1 c.list_elements.ensures.0 _ c.mark_gone.ensures.1, wide-still T c.args.el.now _ c.requires.1 c.list_elements.ensures.1 c.list_elements.ensures.0 _ c.mark_gone.ensures.1))

pub first_misreferred-requires : goal.first_misreferred-requires
first_misreferred-requires c =
    let T = c.args.tree.now.targeted in
    rw c.aims-2.ensures.0
    (rows-stepped T c.args.el.now _ c.requires.1 c.list_elements.ensures.1 c.list_elements.ensures.0 _ c.mark_gone.ensures.1 (rw c.aims.ensures.0 at c.mark_gone.ensures.0) _ c.fill_steps.ensures.1, (gones-stepped T c.args.el.now _ c.requires.1 c.list_elements.ensures.1 c.list_elements.ensures.0 _ c.mark_gone.ensures.1 (rw c.aims.ensures.0 at c.mark_gone.ensures.0) _ c.fill_steps.ensures.1, (c.fill_steps.ensures.0, c.requires.0)))

pub returns-in_err-judge-4 : goal.returns-in_err-judge-4
returns-in_err-judge-4 c =
    let p = err_from_is_err_and c.from_residual-in_err-judge-4.result c.from_residual-in_err-judge-4.ensures.1 in
    let a = row-passed Conflicting c.first_conflict.ensures.0 c.judge.ensures c.in_ok-judge.was in
    let b = row-passed Misclassed c.first_misclassed.ensures c.judge-2.ensures c.in_ok-judge-2.was in
    let d = row-passed Lost c.first_lost.ensures c.judge-3.ensures c.in_ok-judge-3.was in
    rw (p.1, p.2) (row-behind Conflicting _ a (row-behind Misclassed _ b (row-behind Lost _ d (row-refuses Misreferred (rw c.aims-2.ensures.0 at c.first_misreferred.ensures.0) c.judge-4.ensures _ c.in_err-judge-4.was))), tt)

pub invariant_of-chains : goal.invariant_of-chains
invariant_of-chains c =
    record { chained = rw c.aims-3.ensures.0 (chains-ready c.args.tree.now.targeted c.args.el.now _ c.requires.1 c.list_elements.ensures.1 c.list_elements.ensures.0 _ c.mark_gone.ensures.1 (rw c.aims.ensures.0 at c.mark_gone.ensures.0) _ c.fill_steps.ensures.1 _ c.fill_steps.ensures.0 c.first_misreferred.ensures.1.1) }

pub invariant_of-factors : goal.invariant_of-factors
invariant_of-factors c =
    record { factored = rw (c.aims-3.ensures.0, c.aims-3.ensures.1) (factors-ready c.args.tree.now.targeted c.args.el.now _ c.requires.1 c.list_elements.ensures.1 c.list_elements.ensures.0 _ c.mark_gone.ensures.1 (rw c.aims.ensures.0 at c.mark_gone.ensures.0) _ c.fill_steps.ensures.1 _ c.first_misreferred.ensures.1.1) }

pub shape_of-el : goal.shape_of-el
shape_of-el c =
    c.first_misreferred.ensures.1.1.long ∙ (c.fill_steps.ensures.1.long ∙ (c.mark_gone.ensures.1.long ∙ c.list_elements.ensures.1))

pub returns : goal.returns
returns c =
    let a = row-passed Conflicting c.first_conflict.ensures.0 c.judge.ensures c.in_ok-judge.was in
    let b = row-passed Misclassed c.first_misclassed.ensures c.judge-2.ensures c.in_ok-judge-2.was in
    let d = row-passed Lost c.first_lost.ensures c.judge-3.ensures c.in_ok-judge-3.was in
    let e = row-passed Misreferred (rw c.aims-2.ensures.0 at c.first_misreferred.ensures.0) c.judge-4.ensures c.in_ok-judge-4.was in (
      row-behind Conflicting _ a (row-behind Misclassed _ b (row-behind Lost _ d (row-behind Misreferred _ e (rw (← c.aims-3.ensures.0, ← c.first_misfactored.ensures) c.judge-5.ensures)))),
      last-passes Misfactored _ c.judge-5.ensures
          (λ z. composed c.args.tree.now.targeted c.args.el.now _ c.requires.1 c.list_elements.ensures.1 c.list_elements.ensures.0 _ c.mark_gone.ensures.1 (rw c.aims.ensures.0 at c.mark_gone.ensures.0) _ c.fill_steps.ensures.1 _ a b d e (sym (rw c.aims-3.ensures.0 at c.first_misfactored.ensures) ∙ z) c.requires.0 c.fill_steps.ensures.0 (rw c.aims-2.ensures.0 at c.first_misreferred.ensures.1.0) c.first_misreferred.ensures.1.1),
    )
