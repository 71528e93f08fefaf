-- `elements::put_element` meets its contract: three stores.
-- Assumes nothing.
use mathlib.Core.Path.{◌∙◌}
use Rattle.elements.proofs.put_element.Goals as goal

pub returns : goal.returns
returns c =
    c.set_numbered.ensures ∙ rw (c.set_cell-2.ensures, c.set_cell.ensures)
