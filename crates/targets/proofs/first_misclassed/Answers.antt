-- `targets::first_misclassed` meets its contract: no mark before p is misclassed.
-- Assumes nothing.
use borrow.Author.Tests.{eq-eqb, ne_eqb}
use mathlib.Core.Bool.{not}
use mathlib.Core.Path.{◌∙◌, ap, sym}
use native.Mathlib.Omega.{arith}
use Rattle.recipe.specs.Records.{recipe}
use Rattle.recipe.proofs.Going.{going_end, going_start}
use Rattle.recipe.proofs.Steps.{over-end, over-start}
use Rattle.tree.specs.Faults.{fault₁₀}
use Rattle.targets.proofs.Misclassed.{aim-low, judged-hit, judged-on, misclassed, not-owned, own-low, row_here}
use Rattle.targets.proofs.first_misclassed.Goals as goal

pub loop-p-init : goal.loop-p-init
loop-p-init c =
    let o = over-start (recipe c.args.s.now) c.of-p-items.ensures c.into_iter-p-iterator.ensures.into_iter_gives in
    (o.0, rw o.1 (going_start _ _))

pub cell-requires : goal.cell-requires
cell-requires c = omega (arith, row_here c.requires c.loop-p.invariant c.in-Some.ensures.steps)

pub class_at-a-requires : goal.class_at-a-requires
class_at-a-requires c =
    own-low c.requires c.loop-p.invariant c.in-Some.ensures.steps c.is_owned.ensures c.if-is_owned.true c.cell.ensures.0

pub cell-requires-then-is_owned : goal.cell-requires-then-is_owned
cell-requires-then-is_owned c = omega (arith, row_here c.requires c.loop-p.invariant c.in-Some.ensures.steps)

pub class_at-b-requires : goal.class_at-b-requires
class_at-b-requires c =
    aim-low c.requires c.loop-p.invariant c.in-Some.ensures.steps c.is_owned.ensures c.if-is_owned.true c.cell-then-is_owned.ensures.0

pub returns-then-a-b : goal.returns-then-a-b
returns-then-a-b c =
    judged-hit c.requires c.loop-p.invariant c.in-Some.ensures.steps
    (misclassed c.requires c.loop-p.invariant c.in-Some.ensures.steps c.is_owned.ensures c.if-is_owned.true c.cell.ensures.0 c.cell-then-is_owned.ensures.0 c.class_at-a.ensures c.class_at-b.ensures ∙ ap not (ne_eqb _ _ c.if-a-b.true))

pub loop-p-preserved-else-a-b : goal.loop-p-preserved-else-a-b
loop-p-preserved-else-a-b c =
    judged-on c.requires c.loop-p.invariant c.in-Some.ensures.steps
    (misclassed c.requires c.loop-p.invariant c.in-Some.ensures.steps c.is_owned.ensures c.if-is_owned.true c.cell.ensures.0 c.cell-then-is_owned.ensures.0 c.class_at-a.ensures c.class_at-b.ensures ∙ ap not (eq-eqb _ _ c.if-a-b.false))

pub loop-p-preserved : goal.loop-p-preserved
loop-p-preserved c =
    judged-on c.requires c.loop-p.invariant c.in-Some.ensures.steps
    (not-owned c.requires c.loop-p.invariant c.in-Some.ensures.steps c.is_owned.ensures c.if-is_owned.false)

pub returns : goal.returns
unfolding fault₁₀
returns c = sym (going_end c.loop-p.invariant.1 (over-end c.loop-p.invariant.0 c.in-None.ensures.steps))
