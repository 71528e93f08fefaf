-- `heights::find_heights` meets its contract: settled heights, or the search.
-- Assumes nothing.
use mathlib.Core.Path.{sym}
use Rattle.heights.proofs.Raising.{measured, none-6}
use Rattle.heights.proofs.Settling.{linked-heights}
use Rattle.heights.proofs.find_heights.Goals as goal

pub returns-in-Ok : goal.returns-in-Ok
returns-in-Ok c =
    let k = c.settle.ensures.0 in
    let h = c.in-Ok.ensures.1 in
    (sym (none-6 _ h), (λ e. measured c.requires.0 c.requires.1 k h), k.long)

pub first_cycle-requires : goal.first_cycle-requires
first_cycle-requires c = linked-heights c.settle.ensures.0 c.requires.0
