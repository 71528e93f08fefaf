-- `Survivors::of` meets its contract: no survivor is passed over, and the rows of the elements say all.
-- Assumes nothing.
use native.Mathlib.Omega.{arith}
use Rattle.composer.proofs.Surviving.{rows-alone}
use Rattle.composer.proofs.Survivors.of.Goals as goal

pub returns : goal.returns
returns c =
    let f = c.args.f.now in
    rows-alone f.elements.now f.elems (omega (arith, f.fated.count, f.fated.room))
