-- `tree::numbered` meets its contract: one less than its cell has.
-- Assumes nothing.
use mathlib.Core.Path.{◌∙◌, ap}
use Rattle.tree.specs.Steps.{next_of}
use Rattle.tree.proofs.Nexts.{next-is}
use Rattle.tree.proofs.numbered.Goals as goal

pub returns : goal.returns
returns c = next-is _ _ c.checked_sub.ensures ∙ ap next_of c.cell.ensures.0
