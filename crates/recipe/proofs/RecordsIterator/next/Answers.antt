-- `Records::next` goes on by a record's length, which is one byte at least, and stays within the machine's numbers.
-- Assumes nothing.
use lib.ListN.{get_or}
use native.Mathlib.Omega.{arith}
use Rattle.recipe.proofs.Going.{on-more}
use Rattle.recipe.proofs.RecordLengths.{length-low}
use Rattle.recipe.proofs.RecordsIterator.next.Goals as goal

pub overflow_add-self : goal.overflow_add-self
overflow_add-self c = omega (arith, c.requires, c.if-p-s.false, c.known-room, c.record_length.ensures, length-low c.args.self.now.source.now.width (get_or c.args.self.now.source.now.bytes.now c.args.self.now.at 0) c.requires)

pub returns-clause-goes : goal.returns-clause-goes
returns-clause-goes c =
    record { on = λ f. (c.requires, f, omega (arith, on-more c.args.self.now.source.now.width (get_or c.args.self.now.source.now.bytes.now c.args.self.now.at 0) c.record_length.ensures, c.if-p-s.false)); keeps = c.requires; rests = λ f. tt }
