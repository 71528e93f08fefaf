-- `origins::path_to` meets its contract: one submodel record a step, from the last to the first.
-- Assumes nothing.
use Rattle.recipe.specs.Records.{recipe}
use Rattle.origins.proofs.Paths.{PathLoop}
use Rattle.origins.proofs.path_to.Given as goal

abbrev pub invariant-loop-k : goal.invariant-loop-k
invariant-loop-k l = PathLoop (recipe l.tree.source.now) l.i l.path l.j l.k
