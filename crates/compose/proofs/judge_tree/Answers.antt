-- `compose::judge_tree` meets its contract: row 7 refuses, or row 8, or the marks are judged.
-- Assumes nothing.
use mathlib.Core.Path.{ap, refl, sym, ◌∙◌}
use native.Mathlib.Omega.{arith}
use Rattle.std.specs.Result.{result_err}
use Rattle.std.proofs.lemmas.Option.{MatchOption-at_some}
use Rattle.std.proofs.lemmas.Result.{err_from_is_err_and}
use Rattle.names.specs.declared.Reason.TheVariants.{TooLarge, Untargeted}
use Rattle.names.proofs.Judging.{row-behind, row-passed, row-refuses}
use Rattle.recipe.specs.Records.{recipe}
use Rattle.targets.proofs.Targeting.{targeted}
use Rattle.compose.proofs.Judging.{is-planted, not-planted}
use Rattle.compose.proofs.judge_tree.Goals as goal

pub plant-requires : goal.plant-requires
plant-requires c = (c.requires.0, (c.requires.1, omega (arith, c.args.rooms.room_instances)))

pub returns-in_err-size : goal.returns-in_err-size
returns-in_err-size c =
    let p = err_from_is_err_and c.from_residual.result c.from_residual.ensures.1 in
    rw (p.1, p.2) (not-planted (recipe c.args.s.now) _ _ c.plant.ensures.0 (sym c.ok_or.ensures.value ∙ c.in_err-size.was), tt)

pub first_untargeted-requires : goal.first_untargeted-requires
first_untargeted-requires c =
    let R = recipe c.args.s.now in
    let k = is-planted R _ c.plant.ensures.0 (sym c.ok_or.ensures.value ∙ c.in_ok-size.was) in
    (MatchOption-at_some _ _ _ k.0 c.plant.ensures.1.0).0.measured

pub returns-in_err-judge : goal.returns-in_err-judge
returns-in_err-judge c =
    let p = err_from_is_err_and c.from_residual-in_err-judge.result c.from_residual-in_err-judge.ensures.1 in
    let R = recipe c.args.s.now in
    let k = is-planted R _ c.plant.ensures.0 (sym c.ok_or.ensures.value ∙ c.in_ok-size.was) in
    rw (p.1, p.2) (row-behind TooLarge _ k.1 (row-refuses Untargeted c.first_untargeted.ensures.0 c.judge.ensures _ c.in_err-judge.was), tt)

pub invariant_of-tree : goal.invariant_of-tree
invariant_of-tree c =
    let R = recipe c.args.s.now in
    let k = is-planted R _ c.plant.ensures.0 (sym c.ok_or.ensures.value ∙ c.in_ok-size.was) in
    let a = row-passed Untargeted c.first_untargeted.ensures.0 c.judge.ensures c.in_ok-judge.was in
    let g = MatchOption-at_some _ _ _ k.0 c.plant.ensures.1.0 in
    let u = c.first_untargeted.ensures.1 in
    let v = u.0 (c.first_untargeted.ensures.0 ∙ a) in
    record { targeted = targeted (rw g.0.rows.count at g.0) u.1 v.0 v.1 }

pub judge_marks-requires : goal.judge_marks-requires
judge_marks-requires c =
    let k = is-planted (recipe c.args.s.now) _ c.plant.ensures.0 (sym c.ok_or.ensures.value ∙ c.in_ok-size.was) in
    ((MatchOption-at_some _ _ _ k.0 c.plant.ensures.1.0).1, omega (arith, c.args.rooms.room_elements))

pub returns-in_err-judge_marks : goal.returns-in_err-judge_marks
returns-in_err-judge_marks c =
    let p = err_from_is_err_and c.from_residual-in_err-judge_marks.result c.from_residual-in_err-judge_marks.ensures.1 in
    let R = recipe c.args.s.now in
    let k = is-planted R _ c.plant.ensures.0 (sym c.ok_or.ensures.value ∙ c.in_ok-size.was) in
    let a = row-passed Untargeted c.first_untargeted.ensures.0 c.judge.ensures c.in_ok-judge.was in
    rw (p.1, p.2) (row-behind TooLarge _ k.1 (row-behind Untargeted _ a (sym (ap result_err c.in_err-judge_marks.was) ∙ c.judge_marks.ensures.0)), tt)

pub returns : goal.returns
returns c =
    let R = recipe c.args.s.now in
    let k = is-planted R _ c.plant.ensures.0 (sym c.ok_or.ensures.value ∙ c.in_ok-size.was) in
    let a = row-passed Untargeted c.first_untargeted.ensures.0 c.judge.ensures c.in_ok-judge.was in
    (row-behind TooLarge _ k.1 (row-behind Untargeted _ a (sym (ap result_err c.in_ok-judge_marks.was) ∙ c.judge_marks.ensures.0)), refl)
