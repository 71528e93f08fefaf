-- `recipe::name_fields` meets its contract: kind by kind.
-- Assumes nothing.
use native.Mathlib.Omega.{arith}
use Rattle.recipe.proofs.RecordLengths.{names-none}
use Rattle.recipe.proofs.name_fields.Goals as goal

pub returns-in-None : goal.returns-in-None
returns-in-None c = (names-none _ (c.in-None.ensures), omega arith)
