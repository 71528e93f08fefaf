-- `flat_names::raise_count` meets its contract: the invariant: the count is one of the tries, and the names that are left raise it to the last.
-- Assumes nothing.
use Prim.Native.Nat.{◌-◌}
use lib.ListN.{length}
use Rattle.recipe.specs.Records.{recipe}
use Rattle.flat_names.proofs.Looking.{RaiseLoop}
use Rattle.flat_names.proofs.raise_count.Given as goal

abbrev pub invariant-loop-p : goal.invariant-loop-p
invariant-loop-p l = RaiseLoop (recipe l.s) l.d l.m l.u l.p l.count

abbrev pub decreases-loop-p : goal.decreases-loop-p
decreases-loop-p l = length l.s.bytes.now - l.p
