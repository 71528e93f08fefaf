-- `factors::fill_sites` meets its contract: the invariant: the rows of the first i instances.
-- Assumes nothing.
use native.Mathlib.Omega.{arith}
use Rattle.recipe.specs.Records.{recipe}
use Rattle.flat_names.proofs.Filling.{some-instance}
use Rattle.factors.proofs.fill_sites.Goals as goal

pub loop-i-init : goal.loop-i-init
loop-i-init c = (omega (arith, some-instance (recipe c.args.c.now.tree.source.now), c.args.c.now.composed.targeted.planted.rows.count), c.requires)
