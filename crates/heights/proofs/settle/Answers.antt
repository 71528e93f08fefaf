-- `heights::settle` meets its contract: the definitions before the next record are settled, and none is in progress.
-- Assumes nothing.
use Rattle.recipe.specs.Records.{recipe}
use Rattle.recipe.proofs.Steps.{over-end, over-start, over-step}
use Rattle.shadow.proofs.Cells.{kept_then}
use Rattle.heights.proofs.Settling.{linked-heights, settles-enters, settles-start, settles_end, settles_on}
use Rattle.heights.proofs.settle.Goals as goal

pub loop-p-init : goal.loop-p-init
loop-p-init c =
    let o = over-start (recipe c.args.s.now) c.of-p-items.ensures c.into_iter-p-iterator.ensures.into_iter_gives in
    (o.0, rw o.1 (settles-start c.clear_cells.ensures.0))

pub settle_from-requires : goal.settle_from-requires
settle_from-requires c =
    let z = over-step c.loop-p.invariant.0 c.in-Some.ensures.steps in
    let u = rw z.place at c.loop-p.invariant.1 in
    settles-enters (linked-heights c.clear_cells.ensures.1 c.requires) u z.inside c.cell-d.ensures.0

pub loop-p-preserved : goal.loop-p-preserved
loop-p-preserved c =
    let z = over-step c.loop-p.invariant.0 c.in-Some.ensures.steps in
    let u = rw z.place at c.loop-p.invariant.1 in
    (z.over, rw z.on (settles_on (linked-heights c.clear_cells.ensures.1 c.requires) u z.inside c.cell-d.ensures.0 c.in_ok-settle_from.ensures.1))

pub returns : goal.returns
returns c =
    let l = over-end c.loop-p.invariant.0 c.in-None.ensures.steps in
    let u = c.loop-p.invariant.1 in
    (kept_then c.clear_cells.ensures.1 u.walking.kept, settles_end (linked-heights c.clear_cells.ensures.1 c.requires) u l)
