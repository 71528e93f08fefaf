-- `references::chain_end` meets its contract: after each step the rest of the chain is shorter by one.
-- Assumes nothing.
use Prim.Native.Nat.{◌-◌}
use mathlib.Core.Path.{◌≡◌}
use Rattle.references.specs.Ends.{Stepping, followed}
use Rattle.references.proofs.chain_end.Given as goal

abbrev pub invariant-loop : goal.invariant-loop
invariant-loop l = (followed l.el 5 l.e ≡ followed l.el (5 - l.counter) l.z) × Stepping l.el l.z
