-- `bandrolt::read_input` meets its contract: each read goes on behind the one before, and stops at the input's end or the room's.
-- Assumes nothing.
use Rattle.std.proofs.Common.{rules}
use Rattle.bandrolt.proofs.Reading.{consumes-more}
use Rattle.bandrolt.proofs.read_input.Goals as goal

pub loop-n-preserved : goal.loop-n-preserved
loop-n-preserved g c =
    let more = consumes-more c.loop-n.n c.in-Some.more c.loop-n.room c.read-answered.new.buf c.loop-n.invariant.1 (search rules) in
    (search rules, search rules, more _ _ _ c.loop-n.invariant.2 (search rules))
