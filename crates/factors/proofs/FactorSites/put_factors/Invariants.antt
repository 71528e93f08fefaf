-- `FactorSites::put_factors` meets its contract: the invariant: j fields are written, one behind the other.
-- Assumes nothing.
use Rattle.recipe.specs.Records.{recipe}
use Rattle.factors.proofs.Entries.{FieldsLoop}
use Rattle.factors.proofs.FactorSites.put_factors.Given as goal

abbrev pub invariant-loop-j : goal.invariant-loop-j
invariant-loop-j l = FieldsLoop (recipe l.self.composition.now.tree.source.now) l.i l.initial.row l.row l.j
