-- `heights::settle_from` meets its contract: the submodels are settled, no higher than `below`, but for those left. The definitions not seen yet get fewer.
-- Assumes nothing.
use mathlib.Core.Path.{◌≡◌}
use Prim.Native.Nat.{max}
use Rattle.std.proofs.lemmas.Result.{err_from_is_err_and}
use borrow.Author.Rules.{rules}
use native.Mathlib.Omega.{arith}
use Rattle.shadow.proofs.Cells.{kept-all, kept_then}
use Rattle.heights.proofs.Along.{submodel-room, through-one}
use Rattle.heights.proofs.Settling.{call-falls, call_enters, enter, enter-room, height-low, leave, leave-kept, meets-itself, now-kept, now-linked, settle-on, settled-already}
use Rattle.heights.proofs.+settle_from.Goals as goal

pub of-requires : goal.of-requires
of-requires t c = omega (arith, enter-room c.requires)

pub returns-in-InProgress : goal.returns-in-InProgress
returns-in-InProgress t c = (kept-all _ _ _, meets-itself c.requires (rw c.in-InProgress.is at c.of.ensures))

pub returns-in-Settled : goal.returns-in-Settled
returns-in-Settled t c = (kept-all _ _ _, settled-already c.requires (rw c.in-Settled.is at c.of.ensures))

pub set_cell-requires : goal.set_cell-requires
set_cell-requires t c = (omega (arith, enter-room c.requires), omega arith)

pub loop-p-init : goal.loop-p-init
loop-p-init t c =
    let z = rw c.in-Unseen.is at c.of.ensures in
    enter c.requires c.set_cell.ensures z (rw c.into_iter-p-iterator.ensures.into_iter_gives c.definition-p-items.ensures.1)

pub cell-e-requires : goal.cell-e-requires
cell-e-requires t c =
    let z = rw c.in-Unseen.is at c.of.ensures in
    let u = c.loop-p.invariant in
    omega (arith, submodel-room (now-linked c.requires c.set_cell.ensures z u) _ _ (through-one u.through c.in-Some.ensures.steps))

pub settle_from-requires : goal.settle_from-requires
settle_from-requires t c =
    let z = rw c.in-Unseen.is at c.of.ensures in
    let u = c.loop-p.invariant in
    (omega (arith, call-falls c.requires c.set_cell.ensures z u), call_enters c.requires c.set_cell.ensures z u c.in-Some.ensures.steps c.cell-e.ensures.0)

pub returns-in_err-settle_from : goal.returns-in_err-settle_from
returns-in_err-settle_from t c =
    let z = rw c.in-Unseen.is at c.of.ensures in
    let p = err_from_is_err_and c.from_residual.result c.from_residual.ensures.1 in
    let r = rw c.in_err-settle_from.was at c.settle_from.ensures in
    rw p.1 (kept_then (now-kept c.requires c.set_cell.ensures z c.loop-p.invariant) r.0, r.1)

pub loop-p-preserved : goal.loop-p-preserved
loop-p-preserved t c =
    let z = rw c.in-Unseen.is at c.of.ensures in
    let r = rw c.in_ok-settle_from.was at c.settle_from.ensures in
    let m : c.max-below.result ≡ max c.loop-p.below c.in_ok-settle_from.field-0 = search rules in
    rw m (settle-on c.requires c.set_cell.ensures z c.loop-p.invariant c.in-Some.ensures.steps c.cell-e.ensures.0 r.1)

pub overflow_add-height : goal.overflow_add-height
overflow_add-height t c =
    let z = rw c.in-Unseen.is at c.of.ensures in
    omega (arith, height-low c.requires c.set_cell.ensures z c.loop-p.invariant)

pub set_cell-requires-2 : goal.set_cell-requires-2
set_cell-requires-2 t c =
    let z = rw c.in-Unseen.is at c.of.ensures in
    let u = c.loop-p.invariant in
    (omega (arith, enter-room c.requires, (now-kept c.requires c.set_cell.ensures z u).long), omega (arith, height-low c.requires c.set_cell.ensures z u))

pub returns : goal.returns
returns t c =
    let z = rw c.in-Unseen.is at c.of.ensures in
    let u = c.loop-p.invariant in
    rw c.set_cell-2.ensures (leave-kept c.requires c.set_cell.ensures z u, leave c.requires c.set_cell.ensures z u c.in-None.ensures.steps.0)
