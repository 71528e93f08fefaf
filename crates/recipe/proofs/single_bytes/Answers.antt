-- `recipe::single_bytes` meets its contract: kind by kind.
-- Assumes nothing.
use native.Mathlib.Omega.{arith}
use Rattle.recipe.proofs.RecordLengths.{singles-none}
use Rattle.recipe.proofs.single_bytes.Goals as goal

pub returns-in-None : goal.returns-in-None
returns-in-None c = (singles-none _ (c.in-None.ensures), omega arith)
