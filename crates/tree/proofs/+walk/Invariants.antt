-- `tree::walk` meets its contract: its rows, its counts and its offsets, or the first limit that it passes. The depth that is left falls.
-- Assumes nothing.
use Prim.Native.Nat.{◌*◌, ◌+◌}
use lib.ListN.{get_or}
use Rattle.recipe.specs.Records.{recipe}
use Rattle.shadow.specs.Submodels.{submodels_left}
use Rattle.tree.proofs.Walks.{WalkLoop}
use Rattle.tree.proofs.+walk.Given as goal

abbrev pub decreases-walk : goal.decreases-walk
decreases-walk l = l.left

abbrev pub invariant-loop-p : goal.invariant-loop-p
invariant-loop-p l =
    WalkLoop (recipe l.s) l.left (get_or l.initial.inst (6 * l.i + 0) 0) l.i l.e l.initial.t l.initial.inst l.t l.inst l.j l.x (submodels_left l.p-iterator)
