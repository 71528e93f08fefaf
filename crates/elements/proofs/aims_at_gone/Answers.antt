-- `elements::aims_at_gone` meets its contract: no instance before the next one has a target that is gone.
-- Assumes nothing.
use native.Mathlib.Omega.{arith}
use mathlib.Core.Path.{◌∙◌, sym}
use Rattle.recipe.specs.Records.{is_replaced_by, recipe}
use Rattle.marks.proofs.Turn.{record-room}
use Rattle.marks.specs.Faults.{aims_at_gone}
use Rattle.marks.proofs.Following.{follows-fits, follows-holds, seeks-first, seeks-hit, seeks-last, seeks-on}
use Rattle.elements.proofs.Lost.{lost, lost-few, lost-is, no-model}
use Rattle.elements.proofs.aims_at_gone.Goals as goal

pub cell-e-requires : goal.cell-e-requires
cell-e-requires c = omega (arith, record-room c.args.tree.now.targeted c.args.p c.requires.0)

pub loop-i-init-derived : goal.loop-i-init-derived
loop-i-init-derived c = (follows-fits c.args.tree.now.targeted c.args.p c.requires.0 c.instances_of-i-items.ensures c.into_iter-i-iterator.ensures.into_iter_gives, tt)

pub loop-i-init : goal.loop-i-init
loop-i-init c =
    let s = recipe c.args.tree.now.source.now in
    seeks-first c.args.tree.now.targeted c.args.p c.requires.0 (is_replaced_by s) (lost s) c.instances_of-i-items.ensures c.into_iter-i-iterator.ensures.into_iter_gives

pub is_gone-requires : goal.is_gone-requires
is_gone-requires c =
    let h = follows-holds c.args.tree.now.targeted c.args.p c.requires.0 c.loop-i.invariant c.in-Some.ensures.steps in
    omega (arith, lost-few c.args.tree.now.targeted c.args.p c.requires.0 c.requires.1.0 c.in-Some.i h c.cell-e.ensures.0 c.cell-f.ensures.0, c.requires.1.1.1)

pub returns-then-is_gone : goal.returns-then-is_gone
unfolding aims_at_gone
returns-then-is_gone c =
    let T = c.args.tree.now.targeted in
    let s = recipe c.args.tree.now.source.now in
    let h = follows-holds T c.args.p c.requires.0 c.loop-i.invariant c.in-Some.ensures.steps in
    sym (seeks-hit T c.args.p c.requires.0 (is_replaced_by s) (lost s) c.in-Some.i (no-model T c.args.p c.requires.0 c.requires.1.0) c.requires.1.0 c.loop-i.invariant c.in-Some.ensures.steps (lost-is T c.args.p c.requires.0 c.requires.1.0 c.in-Some.i h c.cell-e.ensures.0 c.cell-f.ensures.0 c.args.el.now c.requires.1.1.0 c.is_gone.ensures ∙ c.if-is_gone.true))

pub loop-i-preserved : goal.loop-i-preserved
loop-i-preserved c =
    let T = c.args.tree.now.targeted in
    let s = recipe c.args.tree.now.source.now in
    let h = follows-holds T c.args.p c.requires.0 c.loop-i.invariant c.in-Some.ensures.steps in
    seeks-on T c.args.p c.requires.0 (is_replaced_by s) (lost s) c.in-Some.i c.loop-i.invariant c.in-Some.ensures.steps (lost-is T c.args.p c.requires.0 c.requires.1.0 c.in-Some.i h c.cell-e.ensures.0 c.cell-f.ensures.0 c.args.el.now c.requires.1.1.0 c.is_gone.ensures ∙ c.if-is_gone.false)

pub returns : goal.returns
unfolding aims_at_gone
returns c =
    let s = recipe c.args.tree.now.source.now in
    sym (seeks-last c.args.tree.now.targeted c.args.p c.requires.0 (is_replaced_by s) (lost s) c.loop-i.invariant c.in-None.ensures.steps)
