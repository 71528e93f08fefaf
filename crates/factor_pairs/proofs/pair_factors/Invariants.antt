-- `factor_pairs::pair_factors` meets its contract: the kind 8 records before the next one are paired, and none is refused.
-- Assumes nothing.
use Rattle.recipe.specs.Records.{recipe}
use Rattle.recipe.proofs.Steps.{Over}
use Rattle.factor_pairs.proofs.Pairing.{PairLoop}
use Rattle.factor_pairs.proofs.pair_factors.Given as goal

abbrev pub invariant-loop-p : goal.invariant-loop-p
invariant-loop-p l = Over (recipe l.s) l.p-iterator × PairLoop (recipe l.s) l.initial.t l.t l.p-iterator.at
