-- `sizes::size_composed` meets its contract: the survivors are counted, and the longest flat name is kept.
-- Assumes nothing.
use Rattle.std.proofs.Common.{rules}
use native.Mathlib.Omega.{arith}
use Rattle.composer.proofs.Handed.{bytes-few, fated}
use Rattle.composer.proofs.Surviving.{fate-room}
use Rattle.sizes.proofs.Sizing.{name-requires, size-counted, size-end, size-start, turn-count, turn-low, turn-on}
use Rattle.sizes.proofs.size_composed.Goals as goal

pub loop-e-init : goal.loop-e-init
loop-e-init c = size-start c.args.c.now.composed (rw c.into_iter-e-iterator.ensures.into_iter_gives (search rules))

pub of-x-requires : goal.of-x-requires
of-x-requires c =
    let C = c.args.c.now.composed in
    omega (arith, fate-room (fated C) (turn-low C c.loop-e.invariant c.in-Some.ensures.steps))

pub name_length-requires : goal.name_length-requires
name_length-requires c =
    name-requires c.args.c.now.composed c.loop-e.invariant c.in-Some.ensures.steps c.fill-prefixes.ensures c.of-x.ensures.0

pub overflow_add-count : goal.overflow_add-count
overflow_add-count c = omega (arith, turn-count c.args.c.now.composed c.loop-e.invariant c.in-Some.ensures.steps)

pub loop-e-preserved : goal.loop-e-preserved
loop-e-preserved c =
    turn-on c.args.c.now.composed c.loop-e.invariant c.in-Some.ensures.steps c.fill-prefixes.ensures c.of-x.ensures.0 c.name_length.ensures c.max-longest.ensures

pub overflow_mul-result : goal.overflow_mul-result
overflow_mul-result c =
    let C = c.args.c.now.composed in
    omega (arith, bytes-few C (size-counted C c.loop-e.invariant c.in-None.ensures.steps.0) c.record_width-row.ensures)

pub returns : goal.returns
returns c = size-end c.args.c.now.composed c.loop-e.invariant c.in-None.ensures.steps.0 c.record_width-row.ensures
