-- `Records::merge` meets its contract: each turn writes the next of the two runs.
-- Assumes nothing.
use mathlib.Core.Path.{refl, sym, ◌∙◌}
use Prim.Native.Nat.{◌-◌}
use native.Mathlib.Omega.{arith}
use Rattle.name_index.specs.Positions.{total_entry, stands}
use Rattle.name_index.proofs.Merging.{left-start, left-done, left-room, right-room, turn-left, turn-right, merge-end, length_merged}
use Rattle.name_index.proofs.Records.merge.Goals as goal

pub loop-k-init : goal.loop-k-init
loop-k-init c = (omega arith, (omega arith, (omega arith, left-start _ _ _ refl)))

pub overflow_sub-j : goal.overflow_sub-j
overflow_sub-j c = c.loop-k.invariant.0

pub bounds-b-j : goal.bounds-b-j
bounds-b-j c =
    let i = c.loop-k.invariant in
    right-room _ c.args.a.now c.args.b.now c.loop-k.i (c.loop-k.k - c.loop-k.i) i.1.0 (omega (arith, i.0, c.loop-k.invariant.1.1.1.long)) (sym c.next_is_right.ensures ∙ c.if-next_is_right.true)

pub loop-k-preserved-then-next_is_right : goal.loop-k-preserved-then-next_is_right
loop-k-preserved-then-next_is_right c =
    let i = c.loop-k.invariant in
    let next = sym c.next_is_right.ensures ∙ c.if-next_is_right.true in
    let room = right-room _ c.args.a.now c.args.b.now c.loop-k.i (c.loop-k.k - c.loop-k.i) i.1.0 (omega (arith, i.0, i.1.1.1.long)) next in
    (omega (arith, i.0), (i.1.0, (omega (arith, room), turn-right _ c.args.a.now c.args.b.now c.loop-k.i c.loop-k.k i.0 i.1.1.1 room next)))

pub bounds-a-i : goal.bounds-a-i
bounds-a-i c = left-room _ c.args.a.now c.args.b.now c.loop-k.i (c.loop-k.k - c.loop-k.i) (sym c.next_is_right.ensures ∙ c.if-next_is_right.false)

pub loop-k-preserved : goal.loop-k-preserved
loop-k-preserved c =
    let i = c.loop-k.invariant in
    let next = sym c.next_is_right.ensures ∙ c.if-next_is_right.false in
    let room = left-room _ c.args.a.now c.args.b.now c.loop-k.i (c.loop-k.k - c.loop-k.i) next in
    (omega (arith, i.0), (omega (arith, room), (omega (arith, i.1.1.0), turn-left _ c.args.a.now c.args.b.now c.loop-k.i c.loop-k.k i.0 i.1.1.1 room next)))

pub returns : goal.returns
returns c =
    let i = c.loop-k.invariant in
    left-done i.1.1.1 (merge-end (stands (total_entry c.args.self.now)) c.args.a.now c.args.b.now c.loop-k.i (c.loop-k.k - c.loop-k.i) (omega (arith, i.0, i.1.0, i.1.1.0)) (omega (arith, i.0, i.1.0, i.1.1.0))) (length_merged _ _ _ ∙ sym c.requires)
