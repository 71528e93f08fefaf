-- `flat_table::judge_rows` meets its contract: rows 14 to 17, row by row.
-- Assumes nothing.
use mathlib.Core.Path.{ap, ◌∙◌}
use Rattle.std.proofs.lemmas.Result.{err_from_is_err_and}
use Rattle.names.specs.declared.Reason.TheVariants.{BadTableLength, Malformed, Duplicate, Unlinked}
use Rattle.names.proofs.Judging.{row-behind, row-passed, row-refuses, no_rows}
use Rattle.flat_table.specs.declared.Rows.{Rows}
use Rattle.flat_table.specs.Table.{row_count, fault₁₆, fault₁₇, table_rows}
use Rattle.flat_table.proofs.Places.{whole-short}
use Rattle.flat_table.proofs.judge_rows.Goals as goal

pub returns-in_err-judge-clause-refused : goal.returns-in_err-judge-clause-refused
unfolding table_rows
returns-in_err-judge-clause-refused c =
    let p = err_from_is_err_and c.from_residual.result c.from_residual.ensures.1 in
    rw (p.1, p.2) (row-refuses BadTableLength c.length_fault.ensures c.judge.ensures _ c.in_err-judge.was)

pub returns-in_err-judge-2-clause-refused : goal.returns-in_err-judge-2-clause-refused
unfolding table_rows
returns-in_err-judge-2-clause-refused c =
    let p = err_from_is_err_and c.from_residual-in_err-judge-2.result c.from_residual-in_err-judge-2.ensures.1 in
    let a = row-passed BadTableLength c.length_fault.ensures c.judge.ensures c.in_ok-judge.was in
    rw (p.1, p.2) (row-behind BadTableLength _ a (row-refuses Malformed c.first_malformed.ensures c.judge-2.ensures _ c.in_err-judge-2.was))

pub returns-in_err-judge-3-clause-refused : goal.returns-in_err-judge-3-clause-refused
unfolding table_rows
returns-in_err-judge-3-clause-refused c =
    let p = err_from_is_err_and c.from_residual-in_err-judge-3.result c.from_residual-in_err-judge-3.ensures.1 in
    let a = row-passed BadTableLength c.length_fault.ensures c.judge.ensures c.in_ok-judge.was in
    let b = row-passed Malformed c.first_malformed.ensures c.judge-2.ensures c.in_ok-judge-2.was in
    let e = c.first_repeated.ensures ∙ ap (λ (r : Rows). fault₁₆ r.layout.width r.layout.stride r.bytes.now) c.index-indexed.ensures in
    rw (p.1, p.2) (row-behind BadTableLength _ a (row-behind Malformed _ b (row-refuses Duplicate e c.judge-3.ensures _ c.in_err-judge-3.was)))

pub returns-in_err-judge-4-clause-refused : goal.returns-in_err-judge-4-clause-refused
unfolding table_rows
returns-in_err-judge-4-clause-refused c =
    let p = err_from_is_err_and c.from_residual-in_err-judge-4.result c.from_residual-in_err-judge-4.ensures.1 in
    let a = row-passed BadTableLength c.length_fault.ensures c.judge.ensures c.in_ok-judge.was in
    let b = row-passed Malformed c.first_malformed.ensures c.judge-2.ensures c.in_ok-judge-2.was in
    let e = c.first_repeated.ensures ∙ ap (λ (r : Rows). fault₁₆ r.layout.width r.layout.stride r.bytes.now) c.index-indexed.ensures in
    let f = c.first_unlinked.ensures ∙ ap (λ (r : Rows). fault₁₇ r.layout.width r.layout.stride r.bytes.now) c.index-indexed.ensures in
    let d = row-passed Duplicate e c.judge-3.ensures c.in_ok-judge-3.was in
    rw (p.1, p.2) (row-behind BadTableLength _ a (row-behind Malformed _ b (row-behind Duplicate _ d (row-refuses Unlinked f c.judge-4.ensures _ c.in_err-judge-4.was))))

pub invariant_of-rows : goal.invariant_of-rows
invariant_of-rows c = record { fields = c.requires; few = whole-short _ _ _ (row-passed BadTableLength c.length_fault.ensures c.judge.ensures c.in_ok-judge.was) }

pub returns-clause-refused : goal.returns-clause-refused
unfolding table_rows
returns-clause-refused c =
    let a = row-passed BadTableLength c.length_fault.ensures c.judge.ensures c.in_ok-judge.was in
    let b = row-passed Malformed c.first_malformed.ensures c.judge-2.ensures c.in_ok-judge-2.was in
    let e = c.first_repeated.ensures ∙ ap (λ (r : Rows). fault₁₆ r.layout.width r.layout.stride r.bytes.now) c.index-indexed.ensures in
    let f = c.first_unlinked.ensures ∙ ap (λ (r : Rows). fault₁₇ r.layout.width r.layout.stride r.bytes.now) c.index-indexed.ensures in
    let d = row-passed Duplicate e c.judge-3.ensures c.in_ok-judge-3.was in
    let g = row-passed Unlinked f c.judge-4.ensures c.in_ok-judge-4.was in
    row-behind BadTableLength _ a (row-behind Malformed _ b (row-behind Duplicate _ d (row-behind Unlinked _ g no_rows)))

pub returns-clause-passed : goal.returns-clause-passed
unfolding row_count
returns-clause-passed c = c.count-n.ensures.number
