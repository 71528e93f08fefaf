-- `RecordIndex::first_repeated` meets its contract: from the first repeat of the index.
-- Assumes nothing.
use mathlib.Core.Path.{◌∙◌}
use native.Mathlib.Omega.{arith}
use Rattle.record_index.proofs.Repeats.{low, fault-four-some, fault-four-none}
use Rattle.record_index.proofs.RecordIndex.first_repeated.Goals as goal

pub returns-in_err-i : goal.returns-in_err-i
returns-in_err-i c = c.from_residual.ensures ∙ fault-four-none c.args.self.now c.first_repeat.ensures c.in_err-i.was

pub offset_bounds-self-i : goal.offset_bounds-self-i
offset_bounds-self-i c = omega (arith, low c.args.self.now _ c.first_repeat.ensures c.in_ok-i.was)

pub bounds-self-i : goal.bounds-self-i
bounds-self-i c = low c.args.self.now _ c.first_repeat.ensures c.in_ok-i.was

pub returns : goal.returns
returns c = fault-four-some c.args.self.now c.first_repeat.ensures c.in_ok-i.was
