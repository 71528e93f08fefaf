-- `factor_ends::FactorTree::first_misfactored` meets its contract: no kind 8 before the next record has a factor at fault.
-- Assumes nothing.
use borrow.Author.Tests.{eq-eqb, ne_eqb}
use mathlib.Core.Path.{◌∙◌, sym}
use Rattle.recipe.specs.Records.{is_factors, kind}
use Rattle.marks.specs.Faults.{fault₂₀}
use Rattle.marks.proofs.Passing.{seeking-end, seeking-hit, seeking-on, seeking-place, seeking-start}
use Rattle.factor_ends.specs.Recipes.{factored_recipe}
use Rattle.factor_ends.proofs.FactorFaults.{not-factors}
use Rattle.factor_ends.proofs.FactorTree.first_misfactored.Goals.{else-s-p-via-then-s-p+else-misfactored_at, else-s-p-via-else-s-p}
use Rattle.factor_ends.proofs.FactorTree.first_misfactored.Goals as goal

pub loop-p-init : goal.loop-p-init
loop-p-init c = seeking-start c.of-p-items.ensures c.into_iter-p-iterator.ensures.into_iter_gives

pub misfactored_at-requires : goal.misfactored_at-requires
unfolding is_factors kind
misfactored_at-requires c =
    (seeking-place c.args.self.now.factored.targeted c.loop-p.invariant c.in-Some.ensures.steps, eq-eqb _ _ c.if-s-p.true)

pub returns-then-misfactored_at : goal.returns-then-misfactored_at
unfolding fault₂₀
returns-then-misfactored_at c =
    sym (seeking-hit c.args.self.now.factored.targeted c.loop-p.invariant c.in-Some.ensures.steps (sym c.misfactored_at.ensures ∙ c.if-misfactored_at.true))

pub loop-p-preserved : goal.loop-p-preserved
unfolding is_factors kind
loop-p-preserved c =
    seeking-on c.args.self.now.factored.targeted c.loop-p.invariant c.in-Some.ensures.steps
    (elim c.else-s-p.branch [
      | else-s-p-via-then-s-p+else-misfactored_at w ↦ sym w.misfactored_at.ensures ∙ w.if-misfactored_at.false
      | else-s-p-via-else-s-p w ↦ not-factors (factored_recipe c.args.self.now) c.in-Some.p (ne_eqb _ _ w.if-s-p.false)
    ])

pub returns : goal.returns
unfolding fault₂₀
returns c = sym (seeking-end c.loop-p.invariant c.in-None.ensures.steps)
