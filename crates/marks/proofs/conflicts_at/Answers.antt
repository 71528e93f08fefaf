-- `marks::conflicts_at` meets its contract: no instance passed has a conflict.
-- Assumes nothing.
use mathlib.Core.Path.{◌∙◌, sym}
use Rattle.recipe.specs.Records.{is_pointer, recipe}
use Rattle.marks.specs.Faults.{conflicts_with_earlier}
use Rattle.marks.specs.Marks.{tree_pointers}
use Rattle.marks.proofs.Following.{follows-fits, follows-holds, seeks-first, seeks-last, seeks-on}
use Rattle.marks.proofs.Turn.{check-hit, clash, read-room, step-clash, step-fits}
use Rattle.marks.proofs.conflicts_at.Goals as goal

pub read-pointer-requires : goal.read-pointer-requires
read-pointer-requires c = read-room c.args.tree.now.targeted c.args.p c.requires.0

pub loop-i-init-derived : goal.loop-i-init-derived
loop-i-init-derived c = (follows-fits c.args.tree.now.targeted c.args.p c.requires.0 c.instances_of-i-items.ensures c.into_iter-i-iterator.ensures.into_iter_gives, tt)

pub loop-i-init : goal.loop-i-init
loop-i-init c =
    let s = recipe c.args.tree.now.source.now in
    seeks-first c.args.tree.now.targeted c.args.p c.requires.0 (is_pointer s) (clash s c.args.p) c.instances_of-i-items.ensures c.into_iter-i-iterator.ensures.into_iter_gives

pub meets_any-requires : goal.meets_any-requires
meets_any-requires c =
    let h = follows-holds c.args.tree.now.targeted c.args.p c.requires.0 c.loop-i.invariant c.in-Some.ensures.steps in
    (step-fits c.args.tree.now.targeted c.args.p c.requires.0 c.requires.1.0 h c.read-pointer.ensures c.in_instance.ensures, c.requires.1.1.1)

pub returns-then-meets_any : goal.returns-then-meets_any
returns-then-meets_any c =
    let T = c.args.tree.now.targeted in
    let h = follows-holds T c.args.p c.requires.0 c.loop-i.invariant c.in-Some.ensures.steps in
    check-hit T c.args.p c.requires.0 c.requires.1.0 h c.read-pointer.ensures c.in_instance.ensures c.requires.1.1.0 c.meets_any.ensures c.if-meets_any.true

pub loop-i-preserved : goal.loop-i-preserved
loop-i-preserved c =
    let T = c.args.tree.now.targeted in
    let s = recipe c.args.tree.now.source.now in
    let h = follows-holds T c.args.p c.requires.0 c.loop-i.invariant c.in-Some.ensures.steps in
    seeks-on T c.args.p c.requires.0 (is_pointer s) (clash s c.args.p) c.in-Some.i c.loop-i.invariant c.in-Some.ensures.steps
    (step-clash T c.args.p c.requires.0 c.requires.1.0 h c.read-pointer.ensures c.in_instance.ensures c.requires.1.1.0 c.meets_any.ensures ∙ c.if-meets_any.false)

pub returns : goal.returns
unfolding conflicts_with_earlier tree_pointers
returns c =
    let s = recipe c.args.tree.now.source.now in
    sym (seeks-last c.args.tree.now.targeted c.args.p c.requires.0 (is_pointer s) (clash s c.args.p) c.loop-i.invariant c.in-None.ensures.steps)
