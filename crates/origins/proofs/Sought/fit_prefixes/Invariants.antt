-- `Sought::fit_prefixes` meets its contract: the fits of the first i instances are there.
-- Assumes nothing.
use Rattle.recipe.specs.Records.{recipe}
use Rattle.origins.proofs.Fitting.{FitLoop}
use Rattle.origins.proofs.Sought.fit_prefixes.Given as goal

abbrev pub invariant-loop-i : goal.invariant-loop-i
invariant-loop-i l = FitLoop (recipe l.self.composition.now.tree.source.now) l.self.name.now l.cells l.self.composition.now.size.insts l.i
