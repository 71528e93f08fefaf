-- `flat_names::put_underscores` meets its contract: an underscore is written as often as the byte says.
-- Assumes nothing.
use Rattle.names.specs.Names.{underscore}
use native.Mathlib.Omega.{arith}
use mathlib.Core.Path.{refl}
use Rattle.flat_names.proofs.Puts.{filled}
use Rattle.flat_names.proofs.put_underscores.Goals as goal

pub returns : goal.returns
unfolding underscore
returns c = (refl, filled _ _ _ _ _ c.args.u (c.fill.ensures.after (λ y e. e)) (omega arith) (omega arith))
