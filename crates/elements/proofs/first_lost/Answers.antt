-- `elements::first_lost` meets its contract: no replaced-by before the next record has a target that is gone.
-- Assumes nothing.
use mathlib.Core.Path.{◌∙◌, sym}
use Rattle.recipe.specs.Records.{is_replaced_by, kind, recipe}
use Rattle.marks.specs.Faults.{fault₁₁}
use Rattle.elements.proofs.Lost.{not-lost}
use Rattle.marks.proofs.Passing.{seeking-end, seeking-hit, seeking-on, seeking-place, seeking-start}
use Rattle.elements.proofs.first_lost.Goals.{else-is_replaced_by-via-then-is_replaced_by+else-aims_at_gone, else-is_replaced_by-via-else-is_replaced_by}
use Rattle.elements.proofs.first_lost.Goals as goal

pub loop-p-init : goal.loop-p-init
loop-p-init c = seeking-start c.of-p-items.ensures c.into_iter-p-iterator.ensures.into_iter_gives

pub aims_at_gone-requires : goal.aims_at_gone-requires
unfolding is_replaced_by kind
aims_at_gone-requires c =
    let p = seeking-place c.args.tree.now.targeted c.loop-p.invariant c.in-Some.ensures.steps in
    (p, (sym c.is_replaced_by.ensures ∙ c.if-is_replaced_by.true, c.requires))

pub returns-then-aims_at_gone : goal.returns-then-aims_at_gone
unfolding fault₁₁
returns-then-aims_at_gone c =
    sym (seeking-hit c.args.tree.now.targeted c.loop-p.invariant c.in-Some.ensures.steps (sym c.aims_at_gone.ensures ∙ c.if-aims_at_gone.true))

pub loop-p-preserved : goal.loop-p-preserved
unfolding is_replaced_by kind
loop-p-preserved c =
    seeking-on c.args.tree.now.targeted c.loop-p.invariant c.in-Some.ensures.steps
    (elim c.else-is_replaced_by.branch [
      | else-is_replaced_by-via-then-is_replaced_by+else-aims_at_gone w ↦ sym w.aims_at_gone.ensures ∙ w.if-aims_at_gone.false
      | else-is_replaced_by-via-else-is_replaced_by w ↦ not-lost (recipe c.args.tree.now.source.now) c.in-Some.p (sym c.is_replaced_by.ensures ∙ w.if-is_replaced_by.false)
    ])

pub returns : goal.returns
unfolding fault₁₁
returns c = sym (seeking-end c.loop-p.invariant c.in-None.ensures.steps)
