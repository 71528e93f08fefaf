-- `elements::is_gone` meets its contract: its cell of column 2.
-- Assumes nothing.
use mathlib.Core.Path.{ap}
use lib.Dec.{eqb}
use mathlib.Core.Bool.{not}
use Prim.Native.Nat.{ℕ}
use Rattle.elements.proofs.is_gone.Goals as goal

pub returns : goal.returns
returns c = ap (λ (x : ℕ). not (eqb x 0)) c.cell.ensures.0
