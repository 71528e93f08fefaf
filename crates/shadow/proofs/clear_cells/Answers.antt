-- `shadow::clear_cells` meets its contract: the records before the next one have a 0 in the cell.
-- Assumes nothing.
use mathlib.Core.Path.{refl}
use native.Mathlib.Omega.{arith}
use Rattle.recipe.specs.Records.{recipe}
use Rattle.recipe.proofs.Steps.{over-end, over-start, over-step}
use Rattle.shadow.proofs.Clearing.{clear-end, clear-one, clear_room, clear-start}
use Rattle.shadow.proofs.clear_cells.Goals as goal

pub loop-p-init : goal.loop-p-init
loop-p-init c =
    let o = over-start (recipe c.args.s.now) c.of-p-items.ensures c.into_iter-p-iterator.ensures.into_iter_gives in
    (o.0, rw o.1 (clear-start _ c.args.k _))

pub set_cell-requires : goal.set_cell-requires
set_cell-requires c =
    let z = over-step c.loop-p.invariant.0 c.in-Some.ensures.steps in
    (clear_room c.requires.0 c.requires.1 (rw z.place at c.loop-p.invariant.1) z.inside, omega arith)

pub loop-p-preserved : goal.loop-p-preserved
loop-p-preserved c =
    let z = over-step c.loop-p.invariant.0 c.in-Some.ensures.steps in
    (z.over, rw z.on (clear-one c.requires.0 c.requires.1 (rw z.place at c.loop-p.invariant.1) z.inside c.set_cell.ensures refl))

pub returns : goal.returns
returns c = clear-end c.requires.0 c.requires.1 c.loop-p.invariant.1 (over-end c.loop-p.invariant.0 c.in-None.ensures.steps)
