-- `heights::reaches_itself` meets its contract: what is met is reached, and what stands below those taken is met.
-- Assumes nothing.
use Rattle.recipe.specs.Records.{recipe}
use Prim.Native.Nat.{◌-◌}
use Rattle.heights.proofs.Search.{SearchLoop}
use Rattle.heights.proofs.reaches_itself.Given as goal

abbrev pub invariant-loop-e : goal.invariant-loop-e
invariant-loop-e l = SearchLoop (recipe l.s) l.d l.list

abbrev pub decreases-loop-e : goal.decreases-loop-e
decreases-loop-e l = 1261 - l.list.head
