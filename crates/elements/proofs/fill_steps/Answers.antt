-- `elements::fill_steps` meets its contract: the steps of the records before the next one are in the table.
-- Assumes nothing.
use mathlib.Core.Path.{◌∙◌, refl, sym}
use native.Mathlib.Omega.{arith}
use Rattle.recipe.specs.Records.{is_owned, kind, recipe}
use Rattle.recipe.proofs.Bodies.{owned-kind}
use Rattle.elements.proofs.Elements.{only_same, only_then}
use Rattle.marks.proofs.Passing.{passing-end, passing-on, passing-place, passing-said, passing-skip, passing-start}
use Rattle.elements.proofs.StepTable.{went-all, went-none, went-same}
use Rattle.elements.proofs.fill_steps.Goals as goal

pub loop-p-init : goal.loop-p-init
loop-p-init c =
    let none = went-none (recipe c.args.tree.now.source.now) c.args.el.now c.requires.1.0 in
    (passing-start c.of-p-items.ensures c.into_iter-p-iterator.ensures.into_iter_gives none, only_same 3 c.args.el.now)

pub steps_at-requires : goal.steps_at-requires
unfolding kind
steps_at-requires c =
    let p = passing-place c.args.tree.now.targeted c.loop-p.invariant.0 c.in-Some.ensures.steps in
    let said = passing-said c.args.tree.now.targeted c.loop-p.invariant.0 c.in-Some.ensures.steps in
    let owned = owned-kind (recipe c.args.tree.now.source.now) c.in-Some.p ∙ (sym c.is_owned.ensures ∙ c.if-is_owned.true) in
    (p, (owned, (c.requires.0, (said, omega (arith, c.loop-p.invariant.1.long, c.requires.1.1)))))

pub loop-p-preserved-then-is_owned : goal.loop-p-preserved-then-is_owned
loop-p-preserved-then-is_owned c =
    (passing-on c.args.tree.now.targeted c.loop-p.invariant.0 c.in-Some.ensures.steps refl c.steps_at.ensures.0, only_then c.loop-p.invariant.1 c.steps_at.ensures.1)

pub loop-p-preserved : goal.loop-p-preserved
unfolding kind
loop-p-preserved c =
    let s = recipe c.args.tree.now.source.now in
    let other = owned-kind s c.in-Some.p ∙ (sym c.is_owned.ensures ∙ c.if-is_owned.false) in
    (passing-skip c.args.tree.now.targeted c.loop-p.invariant.0 c.in-Some.ensures.steps (is_owned s) (went-same s c.loop-p.el) refl other, c.loop-p.invariant.1)

pub returns : goal.returns
returns c =
    let s = recipe c.args.tree.now.source.now in
    let l = c.args.tree.now.targeted.planted.measured.linked in
    let all = passing-end (is_owned s) (went-same s c.loop-p.el) c.loop-p.invariant.0 c.in-None.ensures.steps in
    (went-all s l.row₄ l.row₅ c.args.tree.now.targeted.planted.row₇ c.args.tree.now.targeted.aimed.row₈ c.requires.0 c.loop-p.el all, c.loop-p.invariant.1)
