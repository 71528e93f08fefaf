-- `heights::settle_from` meets its contract: the submodels are settled, no higher than `below`, but for those left. The definitions not seen yet get fewer.
-- Assumes nothing.
use Rattle.recipe.specs.Records.{recipe}
use Rattle.shadow.specs.Submodels.{submodels_left}
use Rattle.heights.specs.Heights.{is_unseen, count_of}
use Rattle.heights.proofs.Settling.{SettleLoop}
use Rattle.heights.proofs.+settle_from.Given as goal

abbrev pub decreases-settle_from : goal.decreases-settle_from
decreases-settle_from l = count_of is_unseen (recipe l.s.now) l.t.now

abbrev pub invariant-loop-p : goal.invariant-loop-p
invariant-loop-p l = SettleLoop (recipe l.s) l.d l.initial.t l.t l.below (submodels_left l.p-iterator)
