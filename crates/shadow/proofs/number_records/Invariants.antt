-- `shadow::number_records` meets its contract: the records before the next one are numbered, and their elements counted.
-- Assumes nothing.
use Rattle.recipe.specs.Records.{recipe}
use Rattle.recipe.proofs.Steps.{Over}
use Rattle.shadow.proofs.Numbering.{NumberLoop}
use Rattle.shadow.proofs.number_records.Given as goal

abbrev pub invariant-loop-p : goal.invariant-loop-p
invariant-loop-p l = Over (recipe l.s) l.p-iterator × NumberLoop (recipe l.s) l.initial.t l.t l.d l.p-iterator.at
