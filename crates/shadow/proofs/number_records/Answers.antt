-- `shadow::number_records` meets its contract: the records before the next one are numbered, and their elements counted.
-- Assumes nothing.
use mathlib.Core.Path.{refl}
use native.Mathlib.Omega.{arith}
use Rattle.recipe.specs.Records.{recipe}
use Rattle.recipe.proofs.Steps.{over-end, over-start, over-step}
use Rattle.shadow.proofs.Numbering.{number-start, number-room, own-few, number-model, number-element, number-other, number-end}
use Rattle.shadow.proofs.number_records.Goals as goal

pub loop-p-init : goal.loop-p-init
loop-p-init c =
    let o = over-start (recipe c.args.s.now) c.of-p-items.ensures c.into_iter-p-iterator.ensures.into_iter_gives in
    (o.0, rw o.1 (number-start _ _))

pub set_cell-requires-then-k : goal.set_cell-requires-then-k
set_cell-requires-then-k c =
    let z = over-step c.loop-p.invariant.0 c.in-Some.ensures.steps in
    let g = rw z.place at c.loop-p.invariant.1 in
    let r = number-room c.requires g z.inside in
    (omega (arith, c.set_cell.auto.t), omega arith)

pub loop-p-preserved-then-k : goal.loop-p-preserved-then-k
loop-p-preserved-then-k c =
    let z = over-step c.loop-p.invariant.0 c.in-Some.ensures.steps in
    let g = rw z.place at c.loop-p.invariant.1 in
    (z.over, rw (z.on, c.set_cell-then-k.ensures, c.set_cell.ensures) (number-model c.requires g z.inside refl c.if-k.true))

pub cell-c-requires : goal.cell-c-requires
cell-c-requires c =
    let z = over-step c.loop-p.invariant.0 c.in-Some.ensures.steps in
    let g = rw z.place at c.loop-p.invariant.1 in
    let r = number-room c.requires g z.inside in
    omega (arith, g.latest.below)

pub set_cell-requires-then-k-2-2 : goal.set_cell-requires-then-k-2-2
set_cell-requires-then-k-2-2 c =
    let z = over-step c.loop-p.invariant.0 c.in-Some.ensures.steps in
    let g = rw z.place at c.loop-p.invariant.1 in
    let r = number-room c.requires g z.inside in
    (omega (arith, c.set_cell-then-k-2.auto.t), c.cell-c.ensures.1)

pub set_cell-requires-then-k-2-3 : goal.set_cell-requires-then-k-2-3
set_cell-requires-then-k-2-3 c =
    let z = over-step c.loop-p.invariant.0 c.in-Some.ensures.steps in
    let g = rw z.place at c.loop-p.invariant.1 in
    let r = number-room c.requires g z.inside in
    (omega (arith, g.latest.below, c.set_cell-then-k-2.auto.t, c.set_cell-then-k-2-2.auto.t), omega (arith, c.cell-c.ensures.0, own-few c.requires g z.inside refl c.if-k-2.true))

pub loop-p-preserved-then-k-2 : goal.loop-p-preserved-then-k-2
loop-p-preserved-then-k-2 c =
    let z = over-step c.loop-p.invariant.0 c.in-Some.ensures.steps in
    let g = rw z.place at c.loop-p.invariant.1 in
    (z.over, rw (z.on, c.set_cell-then-k-2-3.ensures, c.set_cell-then-k-2-2.ensures, c.set_cell-then-k-2.ensures) (number-element c.requires g z.inside refl c.if-k-2.true c.cell-c.ensures.0))

pub loop-p-preserved : goal.loop-p-preserved
loop-p-preserved c =
    let z = over-step c.loop-p.invariant.0 c.in-Some.ensures.steps in
    let g = rw z.place at c.loop-p.invariant.1 in
    (z.over, rw (z.on, c.set_cell-else-k-2.ensures) (number-other c.requires g z.inside refl c.if-k.false c.if-k-2.false))

pub returns : goal.returns
returns c = number-end c.requires c.loop-p.invariant.1 (over-end c.loop-p.invariant.0 c.in-None.ensures.steps)
