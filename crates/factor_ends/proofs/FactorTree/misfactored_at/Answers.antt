-- `factor_ends::FactorTree::misfactored_at` meets its contract: no instance before the next one has a factor at fault.
-- Assumes nothing.
use mathlib.Core.Path.{◌∙◌, sym}
use native.Mathlib.Omega.{arith}
use Rattle.recipe.specs.Records.{is_factors}
use Rattle.tree.proofs.Steps.{follow-room}
use Rattle.marks.specs.Faults.{has_factor_fault, is_unfactored}
use Rattle.marks.proofs.Turn.{record-room}
use Rattle.marks.proofs.Following.{follows-fits, follows-holds, seeks-first, seeks-hit, seeks-last, seeks-on}
use Rattle.factor_ends.specs.Recipes.{factored_recipe}
use Rattle.factor_ends.proofs.FactorFaults.{extent-at, factors-low, judged, no-model, time-at}
use Rattle.factor_ends.proofs.FactorTree.misfactored_at.Goals as goal

pub link-a-requires : goal.link-a-requires
link-a-requires c = omega (arith, record-room c.args.self.now.factored.targeted c.args.p c.requires.0)

pub link-b-requires : goal.link-b-requires
link-b-requires c = omega (arith, record-room c.args.self.now.factored.targeted c.args.p c.requires.0)

pub record-i-items-requires : goal.record-i-items-requires
record-i-items-requires c = follow-room c.args.self.now.factored.targeted.planted c.args.p c.requires.0

pub loop-i-init-derived : goal.loop-i-init-derived
loop-i-init-derived c = (follows-fits c.args.self.now.factored.targeted c.args.p c.requires.0 c.record-i-items.ensures c.into_iter-i-iterator.ensures.into_iter_gives, tt)

pub loop-i-init : goal.loop-i-init
loop-i-init c =
    let s = factored_recipe c.args.self.now in
    seeks-first c.args.self.now.factored.targeted c.args.p c.requires.0 (is_factors s) (has_factor_fault s) c.record-i-items.ensures c.into_iter-i-iterator.ensures.into_iter_gives

pub overflow_add-p : goal.overflow_add-p
overflow_add-p c =
    omega (arith, factors-low c.args.self.now.factored.targeted c.args.p c.requires.0 c.requires.1, c.args.self.now.factored.targeted.planted.measured.linked.numbered.shadowed.short)

pub overflow_add-p-in-loop-i : goal.overflow_add-p-in-loop-i
overflow_add-p-in-loop-i c =
    omega (arith, factors-low c.args.self.now.factored.targeted c.args.p c.requires.0 c.requires.1, c.args.self.now.factored.targeted.planted.measured.linked.numbered.shadowed.short)

pub overflow_add-p-in-loop-i-2 : goal.overflow_add-p-in-loop-i-2
overflow_add-p-in-loop-i-2 c =
    omega (arith, factors-low c.args.self.now.factored.targeted c.args.p c.requires.0 c.requires.1, c.args.self.now.factored.targeted.planted.measured.linked.numbered.shadowed.short)

pub overflow_add-p-in-loop-i-3 : goal.overflow_add-p-in-loop-i-3
overflow_add-p-in-loop-i-3 c =
    omega (arith, factors-low c.args.self.now.factored.targeted c.args.p c.requires.0 c.requires.1, c.args.self.now.factored.targeted.planted.measured.linked.numbered.shadowed.short)

pub is_factor_fault-time-requires : goal.is_factor_fault-time-requires
is_factor_fault-time-requires c =
    let h = follows-holds c.args.self.now.factored.targeted c.args.p c.requires.0 c.loop-i.invariant c.in-Some.ensures.steps in
    (_, time-at c.args.self.now.factored.targeted c.args.p c.requires.0 c.requires.1 c.in-Some.i h c.cell-f.ensures.0 c.link-a.ensures.0)

pub is_factor_fault-extent-requires : goal.is_factor_fault-extent-requires
is_factor_fault-extent-requires c =
    let h = follows-holds c.args.self.now.factored.targeted c.args.p c.requires.0 c.loop-i.invariant c.in-Some.ensures.steps in
    (_, extent-at c.args.self.now.factored.targeted c.args.p c.requires.0 c.requires.1 c.in-Some.i h c.cell-f.ensures.0 c.link-b.ensures.0)

pub returns-then-time-extent : goal.returns-then-time-extent
unfolding is_unfactored
returns-then-time-extent c =
    let T = c.args.self.now.factored.targeted in
    let s = factored_recipe c.args.self.now in
    let h = follows-holds T c.args.p c.requires.0 c.loop-i.invariant c.in-Some.ensures.steps in
    let j = judged T c.args.p c.requires.0 c.requires.1 c.in-Some.i h c.cell-f.ensures.0 c.link-a.ensures.0 c.link-b.ensures.0 c.is_factor_fault-time.ensures c.is_factor_fault-extent.ensures in
    sym (seeks-hit T c.args.p c.requires.0 (is_factors s) (has_factor_fault s) c.in-Some.i (no-model T c.args.p c.requires.0 c.requires.1) c.requires.1 c.loop-i.invariant c.in-Some.ensures.steps (sym j ∙ c.if-time-extent.true))

pub loop-i-preserved : goal.loop-i-preserved
loop-i-preserved c =
    let T = c.args.self.now.factored.targeted in
    let s = factored_recipe c.args.self.now in
    let h = follows-holds T c.args.p c.requires.0 c.loop-i.invariant c.in-Some.ensures.steps in
    let j = judged T c.args.p c.requires.0 c.requires.1 c.in-Some.i h c.cell-f.ensures.0 c.link-a.ensures.0 c.link-b.ensures.0 c.is_factor_fault-time.ensures c.is_factor_fault-extent.ensures in
    seeks-on T c.args.p c.requires.0 (is_factors s) (has_factor_fault s) c.in-Some.i c.loop-i.invariant c.in-Some.ensures.steps (sym j ∙ c.if-time-extent.false)

pub returns : goal.returns
unfolding is_unfactored
returns c =
    let s = factored_recipe c.args.self.now in
    sym (seeks-last c.args.self.now.factored.targeted c.args.p c.requires.0 (is_factors s) (has_factor_fault s) c.loop-i.invariant c.in-None.ensures.steps)
