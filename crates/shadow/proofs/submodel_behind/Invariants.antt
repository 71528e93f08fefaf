-- `shadow::submodel_behind` meets its contract: no submodel of the definition stands between the record and the next one.
-- Assumes nothing.
use Rattle.recipe.specs.Records.{recipe}
use Rattle.recipe.proofs.Steps.{Over}
use Rattle.shadow.proofs.Submodels.{SearchLoop}
use Rattle.shadow.proofs.submodel_behind.Given as goal

abbrev pub invariant-loop-q : goal.invariant-loop-q
invariant-loop-q l = Over (recipe l.s) l.q-iterator × SearchLoop (recipe l.s) l.p l.q-iterator.at
