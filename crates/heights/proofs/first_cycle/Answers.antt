-- `heights::first_cycle` meets its contract: what is left to scan from the next record on.
-- Assumes nothing.
use mathlib.Core.Path.{◌≡◌, refl, sym, ◌∙◌}
use mathlib.Core.Bool.{false}
use Rattle.recipe.specs.Records.{recipe}
use Rattle.recipe.proofs.Going.{going_end, going-hit, going_on, going_start, here}
use Rattle.recipe.proofs.Steps.{over-end, over-start, over-step}
use Rattle.heights.proofs.Cycles.{cycle-is, fault-6, is_cycle, model-definition, no-model}
use Rattle.heights.proofs.first_cycle.Goals as goal
use Rattle.heights.proofs.first_cycle.Goals.{else-s-p-via-else-s-p, else-s-p-via-then-s-p+else-reaches_itself}

pub loop-p-init : goal.loop-p-init
loop-p-init c =
    let o = over-start (recipe c.args.s.now) c.of-p-items.ensures c.into_iter-p-iterator.ensures.into_iter_gives in
    (o.0, rw o.1 (going_start _ _))

pub reaches_itself-requires : goal.reaches_itself-requires
reaches_itself-requires c =
    let z = over-step c.loop-p.invariant.0 c.in-Some.ensures.steps in
    let h = here _ _ _ c.requires.numbered.shadowed.whole (rw z.place at c.loop-p.invariant.1) z.inside in
    (c.requires, model-definition _ _ h.place c.if-s-p.true)

pub returns-then-reaches_itself : goal.returns-then-reaches_itself
returns-then-reaches_itself c =
    let z = over-step c.loop-p.invariant.0 c.in-Some.ensures.steps in
    let h = here _ _ _ c.requires.numbered.shadowed.whole (rw z.place at c.loop-p.invariant.1) z.inside in
    sym (fault-6 _ ∙ going-hit h (cycle-is _ _ c.if-s-p.true c.reaches_itself.ensures c.if-reaches_itself.true))

pub loop-p-preserved : goal.loop-p-preserved
loop-p-preserved c =
    let z = over-step c.loop-p.invariant.0 c.in-Some.ensures.steps in
    let h = here _ _ _ c.requires.numbered.shadowed.whole (rw z.place at c.loop-p.invariant.1) z.inside in
    let passed : is_cycle (recipe c.args.s.now) c.in-Some.p ≡ false =
    elim c.else-s-p.branch [
      | else-s-p-via-then-s-p+else-reaches_itself w ↦ cycle-is _ _ w.if-s-p.true w.reaches_itself.ensures w.if-reaches_itself.false
      | else-s-p-via-else-s-p w ↦ no-model _ _ w.if-s-p.false
    ] in
    (z.over, rw z.on (going_on h passed refl))

pub returns : goal.returns
returns c = sym (fault-6 _ ∙ going_end c.loop-p.invariant.1 (over-end c.loop-p.invariant.0 c.in-None.ensures.steps))
