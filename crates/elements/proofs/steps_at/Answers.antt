-- `elements::steps_at` meets its contract: the instances before the next one have their steps in the table.
-- Assumes nothing.
use native.Mathlib.Omega.{arith}
use Rattle.recipe.specs.Records.{is_owned, recipe}
use Rattle.recipe.proofs.Reading.{place-low}
use Rattle.marks.proofs.Turn.{owner-asks, record-room}
use Rattle.elements.proofs.Elements.{only_same}
use Rattle.marks.proofs.Following.{follow-first, follow-last, follows-fits}
use Rattle.elements.proofs.StepTable.{step_fits, step-read, step-turn, stepped-only, went-same}
use Rattle.elements.proofs.steps_at.Goals as goal

pub bounds-tree-p : goal.bounds-tree-p
bounds-tree-p c = omega (arith, place-low (recipe c.args.tree.now.source.now) c.args.p c.requires.0)

pub cell-e-requires : goal.cell-e-requires
cell-e-requires c = omega (arith, record-room c.args.tree.now.targeted c.args.p c.requires.0)

pub owner_order-o-requires : goal.owner_order-o-requires
owner_order-o-requires c = owner-asks c.args.tree.now.targeted c.args.p c.requires.0

pub loop-i-init-derived : goal.loop-i-init-derived
loop-i-init-derived c = (follows-fits c.args.tree.now.targeted c.args.p c.requires.0 c.instances_of-i-items.ensures c.into_iter-i-iterator.ensures.into_iter_gives, tt)

pub loop-i-init : goal.loop-i-init
loop-i-init c =
    let s = recipe c.args.tree.now.source.now in
    (follow-first c.args.tree.now.targeted c.args.p c.requires.0 (is_owned s) _ (went-same s c.args.el.now) c.instances_of-i-items.ensures c.into_iter-i-iterator.ensures.into_iter_gives c.requires.1.1.1.0, only_same 3 c.args.el.now)

pub put_step-requires : goal.put_step-requires
put_step-requires c =
    let T = c.args.tree.now.targeted in
    let w = step-read T c.requires.1.1.0 c.args.p c.requires.0 c.requires.1.0 c.in-Some.i c.loop-i.invariant.0 c.in-Some.ensures.steps c.cell-e.ensures.0 c.owner_order-o.ensures.0 c.cell-f.ensures.0 in
    (omega (arith, c.loop-i.auto.el, c.requires.1.1.1.1), step_fits T c.requires.1.1.0 c.args.p c.requires.0 c.requires.1.0 w)

pub loop-i-preserved : goal.loop-i-preserved
loop-i-preserved c =
    let T = c.args.tree.now.targeted in
    let w = step-read T c.requires.1.1.0 c.args.p c.requires.0 c.requires.1.0 c.in-Some.i c.loop-i.invariant.0 c.in-Some.ensures.steps c.cell-e.ensures.0 c.owner_order-o.ensures.0 c.cell-f.ensures.0 in (
      step-turn T c.requires.1.1.0 c.args.p c.requires.0 c.requires.1.0 c.loop-i.el w (omega (arith, c.loop-i.auto.el, c.requires.1.1.1.1)) c.put_step.ensures c.loop-i.invariant.0 c.in-Some.ensures.steps,
      stepped-only T c.requires.1.1.0 c.args.p c.requires.0 c.requires.1.0 w c.put_step.ensures c.loop-i.invariant.1,
    )

pub returns : goal.returns
returns c =
    let s = recipe c.args.tree.now.source.now in
    (follow-last c.args.tree.now.targeted c.args.p c.requires.0 (is_owned s) _ (went-same s c.loop-i.el) c.loop-i.invariant.0 c.in-None.ensures.steps, c.loop-i.invariant.1)
