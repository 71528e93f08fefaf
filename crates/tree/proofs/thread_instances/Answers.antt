-- `tree::thread_instances` meets its contract: the instances from i on are threaded.
-- Assumes nothing.
use Prim.Native.Nat.{◌-◌}
use native.Mathlib.Omega.{arith}
use Rattle.tree.proofs.Threads.{first-room, thread-one, thread-start}
use Rattle.tree.proofs.thread_instances.Goals as goal

pub loop-i-init : goal.loop-i-init
loop-i-init c = thread-start c.requires

pub cell-next-requires : goal.cell-next-requires
cell-next-requires c =
    first-room c.requires (c.loop-i.i - 1) c.loop-i.invariant (omega (arith, c.loop-i-test.true)) c.cell-d.ensures.0

pub set_numbered-requires : goal.set_numbered-requires
set_numbered-requires c =
    (first-room c.requires (c.loop-i.i - 1) c.loop-i.invariant (omega (arith, c.loop-i-test.true)) c.cell-d.ensures.0, omega (arith, c.requires.few))

pub loop-i-preserved : goal.loop-i-preserved
loop-i-preserved c =
    thread-one c.requires (c.loop-i.i - 1) c.loop-i.invariant (omega (arith, c.loop-i-test.true)) c.cell-d.ensures.0 c.cell-next.ensures.0 c.set_cell.ensures c.set_numbered.ensures
