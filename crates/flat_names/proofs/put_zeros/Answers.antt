-- `flat_names::put_zeros` meets its contract: a part of the slice is filled.
-- Assumes nothing.
use native.Mathlib.Omega.{arith}
use Rattle.flat_names.proofs.Puts.{filled}
use Rattle.flat_names.proofs.put_zeros.Goals as goal

pub returns : goal.returns
returns c = filled _ _ _ _ _ c.args.n (c.fill.ensures.after (λ y e. e)) (omega arith) (omega arith)
