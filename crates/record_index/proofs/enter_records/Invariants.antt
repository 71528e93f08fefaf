-- `record_index::enter_records` meets its contract: the invariant: the first i records are entered, and those from the iterator's place on are left.
-- Assumes nothing.
use Rattle.recipe.specs.Records.{recipe}
use Rattle.recipe.proofs.Steps.{Over}
use Rattle.record_index.proofs.Entering.{EntryLoop}
use Rattle.record_index.proofs.enter_records.Given as goal

abbrev pub invariant-loop-p : goal.invariant-loop-p
invariant-loop-p l =
    let x = l.initial.tables in
    Over (recipe l.s) l.p-iterator × EntryLoop (recipe l.s) l.t x.at.now x.fields.now x.keys.now l.tables.at.now l.tables.fields.now l.tables.keys.now l.i l.p-iterator.at
