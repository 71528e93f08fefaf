-- `origins::path_to` meets its contract: one submodel record a step, from the last to the first.
-- Assumes nothing.
use native.Mathlib.Omega.{arith}
use Rattle.origins.proofs.Paths.{loop-depth, path-end, path-start, path-turn, row_inside, up-low}
use Rattle.origins.proofs.path_to.Goals as goal

pub loop-k-init : goal.loop-k-init
loop-k-init c =
    path-start c.args.tree.now.targeted.planted c.requires c.cell-depth.ensures.0

pub cell-requires : goal.cell-requires
cell-requires c =
    let P = c.args.tree.now.targeted.planted in
    omega (arith, row_inside P c.loop-k.invariant.inside, up-low P c.requires c.loop-k.invariant c.loop-k-test.true c.cell-u.ensures.0)

pub bounds-path-k : goal.bounds-path-k
bounds-path-k c =
    omega (arith, loop-depth c.args.tree.now.targeted.planted c.requires c.loop-k.invariant)

pub loop-k-preserved : goal.loop-k-preserved
loop-k-preserved c =
    path-turn c.args.tree.now.targeted.planted c.requires c.loop-k.invariant c.loop-k-test.true c.cell.ensures.0 c.cell-u.ensures.0

pub returns : goal.returns
returns c =
    path-end c.args.tree.now.targeted.planted c.requires c.loop-k.invariant c.loop-k-test.false
