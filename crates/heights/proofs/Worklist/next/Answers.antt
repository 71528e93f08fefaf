-- `heights::Worklist::next` meets its contract: there is room for the queue's end.
-- Assumes nothing.
use native.Mathlib.Omega.{arith}
use Rattle.heights.proofs.Search.{tail-low}
use Rattle.heights.proofs.Worklist.next.Goals as goal

pub number_at-e-requires : goal.number_at-e-requires
number_at-e-requires c = omega (arith, c.args.self.now.marks.queues, tail-low c.args.self.now.marks)
