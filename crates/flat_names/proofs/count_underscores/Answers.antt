-- `flat_names::count_underscores` meets its contract: the invariant: the first k bytes, those that were seen, are underscores.
-- Assumes nothing.
use native.Mathlib.Omega.{arith}
use Rattle.flat_names.proofs.Underscores.{counted}
use Rattle.flat_names.proofs.count_underscores.Goals as goal

pub returns-then-b-ne95 : goal.returns-then-b-ne95
returns-then-b-ne95 c =
    counted _ c.loop-b.k c.loop-b.invariant.1 (λ l. rw c.loop-b.invariant.0 c.if-b-ne95.true) (omega arith)

pub returns : goal.returns
returns c =
    counted _ c.loop-b.k c.loop-b.invariant.1 (λ l. absurd (omega arith)) (omega arith)
