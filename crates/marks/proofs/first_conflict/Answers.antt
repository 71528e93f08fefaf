-- `marks::first_conflict` meets its contract: no record before p conflicts with an earlier one, and the cells are those that they set.
-- Assumes nothing.
use mathlib.Core.Path.{◌∙◌, sym}
use Prim.Native.Nat.{◌*◌}
use Rattle.names.proofs.Tests.{not_none}
use Rattle.recipe.specs.Records.{is_pointer, kind, recipe}
use Rattle.recipe.proofs.Bodies.{pointer-kind}
use Rattle.marks.proofs.Pass.{no_pointer, stamped-none, stamped-same}
use Rattle.marks.proofs.Passing.{passing-end, passing-on, passing-place, passing-said, passing-skip, passing-start, seeking-end, seeking-hit}
use Rattle.marks.specs.Faults.{fault₉}
use Rattle.marks.proofs.first_conflict.Goals as goal

pub loop-p-init : goal.loop-p-init
loop-p-init c =
    let none = stamped-none (recipe c.args.tree.now.source.now) (12 * 1024) c.requires in
    record { passing = passing-start c.of-p-items.ensures c.into_iter-p-iterator.ensures.into_iter_gives none.0; long = none.1 }

pub conflicts_at-requires : goal.conflicts_at-requires
unfolding kind
conflicts_at-requires c =
    let p = passing-place c.args.tree.now.targeted c.loop-p.invariant.passing c.in-Some.ensures.steps in
    let said = passing-said c.args.tree.now.targeted c.loop-p.invariant.passing c.in-Some.ensures.steps in
    (p, (pointer-kind (recipe c.args.tree.now.source.now) c.in-Some.p ∙ (sym c.is_pointer.ensures ∙ c.if-is_pointer.true), (said, c.loop-p.invariant.long)))

pub returns-then-conflicts_at : goal.returns-then-conflicts_at
unfolding fault₉
returns-then-conflicts_at c =
    (sym (seeking-hit c.args.tree.now.targeted c.loop-p.invariant.passing.seeking c.in-Some.ensures.steps (sym c.conflicts_at.ensures ∙ c.if-conflicts_at.true)), λ e. not_none (sym e))

pub enter_at-requires : goal.enter_at-requires
unfolding kind
enter_at-requires c =
    let p = passing-place c.args.tree.now.targeted c.loop-p.invariant.passing c.in-Some.ensures.steps in
    let said = passing-said c.args.tree.now.targeted c.loop-p.invariant.passing c.in-Some.ensures.steps in
    (p, (pointer-kind (recipe c.args.tree.now.source.now) c.in-Some.p ∙ (sym c.is_pointer.ensures ∙ c.if-is_pointer.true), (said, c.loop-p.invariant.long)))

pub loop-p-preserved-then-is_pointer : goal.loop-p-preserved-then-is_pointer
loop-p-preserved-then-is_pointer c =
    record {
      passing = passing-on c.args.tree.now.targeted c.loop-p.invariant.passing c.in-Some.ensures.steps (sym c.conflicts_at.ensures ∙ c.if-conflicts_at.false) c.enter_at.ensures.0;
      long = c.enter_at.ensures.1;
    }

pub loop-p-preserved : goal.loop-p-preserved
unfolding kind
loop-p-preserved c =
    let s = recipe c.args.tree.now.source.now in
    let other = pointer-kind s c.in-Some.p ∙ (sym c.is_pointer.ensures ∙ c.if-is_pointer.false) in
    record {
      passing = passing-skip c.args.tree.now.targeted c.loop-p.invariant.passing c.in-Some.ensures.steps (is_pointer s) (stamped-same s c.loop-p.cells) (no_pointer s c.in-Some.p other) other;
      long = c.loop-p.invariant.long;
    }

pub returns : goal.returns
unfolding fault₉
returns c =
    let s = recipe c.args.tree.now.source.now in
    (sym (seeking-end c.loop-p.invariant.passing.seeking c.in-None.ensures.steps), λ z. (passing-end (is_pointer s) (stamped-same s c.loop-p.cells) c.loop-p.invariant.passing c.in-None.ensures.steps, c.loop-p.invariant.long))
