-- `heights::Worklist::push_models` meets its contract: the models of the submodels are marked and queued, but for those left.
-- Assumes nothing.
use Rattle.recipe.specs.Records.{recipe}
use Rattle.shadow.specs.Submodels.{submodels_left}
use Rattle.heights.proofs.Search.{ExpandLoop}
use Rattle.heights.proofs.Worklist.push_models.Given as goal

abbrev pub invariant-loop-p : goal.invariant-loop-p
invariant-loop-p l = ExpandLoop (recipe l.fn.s) l.e l.fn.self l.self (submodels_left l.p-iterator)
