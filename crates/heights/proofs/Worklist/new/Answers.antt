-- `heights::Worklist::new` meets its contract: nothing is marked, and nothing is queued.
-- Assumes nothing.
use Rattle.heights.proofs.Search.{marks-start}
use Rattle.heights.proofs.Worklist.new.Goals as goal

pub invariant_of-result : goal.invariant_of-result
invariant_of-result c = record { marks = marks-start }
