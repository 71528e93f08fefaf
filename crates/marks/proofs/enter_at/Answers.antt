-- `marks::enter_at` meets its contract: the instances passed have set their cells.
-- Assumes nothing.
use mathlib.Core.Path.{◌∙◌}
use Rattle.recipe.specs.Records.{is_pointer, recipe}
use Rattle.marks.proofs.Following.{follow-first, follow-last, follows-fits, follows-holds}
use Rattle.marks.proofs.Pass.{stamped-same}
use Rattle.marks.proofs.Turn.{enter-turn, read-room, stamped-length, step-fits}
use Rattle.marks.proofs.enter_at.Goals as goal

pub read-pointer-requires : goal.read-pointer-requires
read-pointer-requires c = read-room c.args.tree.now.targeted c.args.p c.requires.0

pub loop-i-init-derived : goal.loop-i-init-derived
loop-i-init-derived c = (follows-fits c.args.tree.now.targeted c.args.p c.requires.0 c.instances_of-i-items.ensures c.into_iter-i-iterator.ensures.into_iter_gives, tt)

pub loop-i-init : goal.loop-i-init
loop-i-init c =
    let s = recipe c.args.tree.now.source.now in
    record {
      long = c.requires.1.1.1;
      along = follow-first c.args.tree.now.targeted c.args.p c.requires.0 (is_pointer s) _ (stamped-same s c.args.cells.now) c.instances_of-i-items.ensures c.into_iter-i-iterator.ensures.into_iter_gives c.requires.1.1.0;
    }

pub stamp-requires : goal.stamp-requires
stamp-requires c =
    let h = follows-holds c.args.tree.now.targeted c.args.p c.requires.0 c.loop-i.invariant.along c.in-Some.ensures.steps in
    (step-fits c.args.tree.now.targeted c.args.p c.requires.0 c.requires.1.0 h c.read-pointer.ensures c.in_instance.ensures, c.loop-i.invariant.long)

pub loop-i-preserved : goal.loop-i-preserved
loop-i-preserved c =
    let T = c.args.tree.now.targeted in
    let h = follows-holds T c.args.p c.requires.0 c.loop-i.invariant.along c.in-Some.ensures.steps in
    record {
      long = stamped-length _ _ _ _ c.loop-i.cells c.stamp.ensures ∙ c.loop-i.invariant.long;
      along = enter-turn T c.args.p c.requires.0 c.requires.1.0 h c.read-pointer.ensures c.in_instance.ensures c.loop-i.cells c.loop-i.invariant.long c.stamp.ensures c.loop-i.invariant.along c.in-Some.ensures.steps;
    }

pub returns : goal.returns
returns c =
    let s = recipe c.args.tree.now.source.now in
    (follow-last c.args.tree.now.targeted c.args.p c.requires.0 (is_pointer s) _ (stamped-same s c.loop-i.cells) c.loop-i.invariant.along c.in-None.ensures.steps, c.loop-i.invariant.long)
