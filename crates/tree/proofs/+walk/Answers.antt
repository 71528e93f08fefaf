-- `tree::walk` meets its contract: its rows, its counts and its offsets, or the first limit that it passes.
-- Assumes nothing.
use mathlib.Core.Path.{refl}
use native.Mathlib.Omega.{arith}
use Rattle.tree.specs.Faults.{most_elements, most_instances}
use Rattle.tree.specs.Tree.{most_depth}
use Rattle.tree.proofs.Walks.{call-requires, count-first, loop-end, loop-start, model-room, no_room, none-of, out-fail, own-count, room-here, row_fits, some-of, stopped, sub_low, sub-room, turn-fails, turn-goes, went}
use Rattle.tree.proofs.+walk.Goals as goal

pub cell-requires : goal.cell-requires
cell-requires t c = (count-first c.requires c.cell-d.ensures.0).0

pub overflow_add-x : goal.overflow_add-x
unfolding most_instances most_elements
overflow_add-x t c = omega (arith, (own-count c.requires c.cell-d.ensures.0 c.cell.ensures.0).1)

pub loop-p-init : goal.loop-p-init
loop-p-init t c =
    loop-start c.requires c.cell-d.ensures.0 c.cell.ensures.0 (rw c.into_iter-p-iterator.ensures.into_iter_gives c.definition-p-items.ensures.1)

pub cell-m-requires : goal.cell-m-requires
cell-m-requires t c =
    omega (arith, sub-room c.requires c.loop-p.invariant c.in-Some.ensures.steps)

pub cell-c-requires : goal.cell-c-requires
cell-c-requires t c =
    model-room c.requires c.loop-p.invariant c.in-Some.ensures.steps c.cell-m.ensures.0

pub overflow_sub-x : goal.overflow_sub-x
unfolding most_instances most_elements
overflow_sub-x t c = omega (arith, c.loop-p.invariant.light)

pub returns-then-left-j : goal.returns-then-left-j
unfolding most_instances most_elements
returns-then-left-j t c =
    none-of (out-fail refl (no_room c.requires c.loop-p.invariant c.in-Some.ensures.steps c.cell-m.ensures.0 c.cell-c.ensures.0 c.if-left-j.true) c.loop-p.invariant.left)

pub set_cell-requires : goal.set_cell-requires
unfolding most_instances most_elements
set_cell-requires t c =
    (omega (arith, sub-room c.requires c.loop-p.invariant c.in-Some.ensures.steps), omega (arith, c.loop-p.invariant.light))

pub overflow_sub-left-in-loop-p : goal.overflow_sub-left-in-loop-p
unfolding most_depth
overflow_sub-left-in-loop-p t c = omega (arith, c.requires.flat)

pub put_row-requires : goal.put_row-requires
unfolding most_instances most_elements
put_row-requires t c =
    let r = room-here c.requires c.loop-p.invariant c.in-Some.ensures.steps c.if-left-j.false in (row_fits c.requires c.loop-p.invariant c.in-Some.ensures.steps r, (omega (arith, r.few), (omega (arith, c.cell-m.ensures.1), (omega arith, (omega (arith, c.loop-p.invariant.light), (omega (arith, sub_low c.requires c.loop-p.invariant c.in-Some.ensures.steps), omega (arith, c.requires.few)))))))

pub walk-requires : goal.walk-requires
unfolding most_instances most_elements most_depth
walk-requires t c =
    (omega (arith, (room-here c.requires c.loop-p.invariant c.in-Some.ensures.steps c.if-left-j.false).up), call-requires c.requires c.loop-p.invariant c.in-Some.ensures.steps c.cell-m.ensures.0 c.cell-c.ensures.0 (room-here c.requires c.loop-p.invariant c.in-Some.ensures.steps c.if-left-j.false) c.set_cell.ensures c.put_row.ensures)

pub returns-in_err-n : goal.returns-in_err-n
unfolding most_instances most_elements most_depth
returns-in_err-n t c =
    rw c.from_residual.ensures (none-of (turn-fails c.requires c.loop-p.invariant c.in-Some.ensures.steps c.cell-m.ensures.0 c.cell-c.ensures.0 (room-here c.requires c.loop-p.invariant c.in-Some.ensures.steps c.if-left-j.false) c.set_cell.ensures c.put_row.ensures (stopped c.in_err-n.was c.walk.ensures) refl refl))

pub loop-p-preserved : goal.loop-p-preserved
unfolding most_instances most_elements most_depth
loop-p-preserved t c =
    turn-goes c.requires c.loop-p.invariant c.in-Some.ensures.steps c.cell-m.ensures.0 c.cell-c.ensures.0 (room-here c.requires c.loop-p.invariant c.in-Some.ensures.steps c.if-left-j.false) c.set_cell.ensures c.put_row.ensures (went c.in_ok-n.was c.walk.ensures) refl

pub returns : goal.returns
returns t c =
    some-of (loop-end c.requires c.loop-p.invariant c.in-None.ensures.steps.0)
