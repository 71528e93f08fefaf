-- `elements::is_marked` meets its contract: its two cells.
-- Assumes nothing.
use mathlib.Core.Path.{refl}
use Rattle.marks.specs.Cells.{gone_cell, owner_cell}
use Rattle.elements.proofs.is_marked.Goals as goal

pub returns : goal.returns
unfolding owner_cell gone_cell
returns c = refl
