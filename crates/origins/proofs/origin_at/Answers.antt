-- `origins::origin_at` meets its contract: depth, path and place are those of the element's row and its instance's.
-- Assumes nothing.
use native.Mathlib.Omega.{arith}
use Rattle.origins.proofs.Paths.{its_instance, origin-walked, row_inside}
use Rattle.origins.proofs.origin_at.Goals as goal

pub cell-depth-requires : goal.cell-depth-requires
cell-depth-requires c =
    let C = c.args.c.now.composed in
    omega (arith, row_inside C.targeted.planted (its_instance C c.requires c.cell-i.ensures.0))

pub path_to-path-requires : goal.path_to-path-requires
path_to-path-requires c =
    its_instance c.args.c.now.composed c.requires c.cell-i.ensures.0

pub returns : goal.returns
returns c =
    origin-walked c.args.c.now.composed c.requires c.cell-i.ensures.0 c.cell-q.ensures.0 c.cell-depth.ensures.0 c.path_to-path.ensures
