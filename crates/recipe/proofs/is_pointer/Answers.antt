-- `recipe::is_pointer` meets its contract, from those of its two questions.
-- Assumes nothing.
use Rattle.recipe.proofs.is_pointer.Goals as goal

pub returns : goal.returns
returns c = rw (c.is_mark.ensures, c.is_port.ensures)
