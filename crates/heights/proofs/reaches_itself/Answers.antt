-- `heights::reaches_itself` meets its contract: what is met is reached, and what stands below those taken is met.
-- Assumes nothing.
use native.Mathlib.Omega.{arith}
use mathlib.Core.Path.{ap, ◌∙◌}
use mathlib.Core.Bool.{false}
use Prim.Native.Nat.{◌/◌}
use lib.ListN.{get_or}
use Rattle.heights.specs.declared.Worklist.{Worklist}
use Rattle.heights.proofs.Along.{definition-low}
use Rattle.heights.proofs.Search.{tail-low, search-start, next_in, search-more, search-end}
use Rattle.heights.proofs.reaches_itself.Goals as goal

pub loop-e-init : goal.loop-e-init
loop-e-init c = search-start c.new-list.ensures c.push_models.ensures

pub push_models-requires-in-Some : goal.push_models-requires-in-Some
push_models-requires-in-Some c = (c.requires.0, next_in c.loop-e.invariant c.in-Some.ensures.0 c.in-Some.ensures.1)

pub loop-e-smaller : goal.loop-e-smaller
loop-e-smaller c = omega (arith, tail-low c.loop-e.list.marks, c.in-Some.ensures.0, c.in-Some.ensures.2, c.push_models-in-Some.ensures.0.head)

pub loop-e-preserved : goal.loop-e-preserved
loop-e-preserved c = search-more c.loop-e.invariant c.in-Some.ensures c.push_models-in-Some.ensures

pub is_marked-requires : goal.is_marked-requires
is_marked-requires c = omega (arith, definition-low _ _ c.requires.1, c.requires.0.numbered.shadowed.short)

pub returns : goal.returns
returns c =
    c.is_marked.ensures ∙ (ap (λ (a : Worklist). get_or a.mark (c.args.d / 13) false) c.in_default.ensures.1 ∙ search-end c.loop-e.invariant c.requires.0 c.in_default.ensures.0 c.requires.1)
