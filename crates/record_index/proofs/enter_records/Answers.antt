-- `record_index::enter_records` meets its contract: the invariant: the first i records are entered, and those from the iterator's place on are left.
-- Assumes nothing.
use mathlib.Core.Path.{refl}
use Prim.Native.Nat.{◌+◌}
use native.Mathlib.Omega.{arith}
use native.Mathlib.Nat.{add-sub_cancel_left}
use lib.ListN.{drop, length-drop}
use lib.Seq.{length-take-le}
use Rattle.recipe.specs.Records.{recipe}
use Rattle.recipe.proofs.Steps.{over-start, over-end}
use Rattle.shadow.proofs.Cells.{walk-place}
use Rattle.record_index.proofs.Entering.{entering-start, entering-step, entering-low, field_room, entering-one, entering-all, entering-listed, entering-end}
use Rattle.record_index.proofs.enter_records.Goals as goal

pub loop-p-init : goal.loop-p-init
loop-p-init c =
    let o = over-start (recipe c.args.s.now) c.of-p-items.ensures c.into_iter-p-iterator.ensures.into_iter_gives in
    (o.0, rw o.1 (entering-start _ _ _ _ _))

pub overflow_cast-tables : goal.overflow_cast-tables
overflow_cast-tables c =
    omega (arith, c.requires.shadowed.short, (entering-step c.loop-p.invariant c.in-Some.ensures.steps).0.inside)

pub offset_bounds-tables-i : goal.offset_bounds-tables-i
offset_bounds-tables-i c = omega (arith, entering-low c.requires.shadowed (entering-step c.loop-p.invariant c.in-Some.ensures.steps).1)

pub bounds-tables-i : goal.bounds-tables-i
bounds-tables-i c =
    omega (arith, entering-low c.requires.shadowed (entering-step c.loop-p.invariant c.in-Some.ensures.steps).1, c.loop-p.tables.room_at)

pub overflow_add-p : goal.overflow_add-p
overflow_add-p c =
    omega (arith, c.requires.shadowed.short, (entering-step c.loop-p.invariant c.in-Some.ensures.steps).0.inside)

pub overflow_mul-i : goal.overflow_mul-i
overflow_mul-i c =
    let z = entering-step c.loop-p.invariant c.in-Some.ensures.steps in
    omega (arith, (field_room c.requires.shadowed z.1 z.0.inside).1)

pub slice_bounds-put_bytes-end : goal.slice_bounds-put_bytes-end
slice_bounds-put_bytes-end c =
    let z = entering-step c.loop-p.invariant c.in-Some.ensures.steps in
    (field_room c.requires.shadowed z.1 z.0.inside).0

pub put_bytes-requires : goal.put_bytes-requires
put_bytes-requires c =
    let z = entering-step c.loop-p.invariant c.in-Some.ensures.steps in
    let room = field_room c.requires.shadowed z.1 z.0.inside in
    let long = length-take-le c.args.s.now.width (drop (c.in-Some.p + 1) c.args.s.now.bytes.now) (omega (arith, length-drop (c.in-Some.p + 1) c.args.s.now.bytes.now, room.0)) in
    rw (add-sub_cancel_left (c.in-Some.p + 1) c.args.s.now.width) (omega (arith, long, room.1, c.loop-p.tables.room_fields))

pub key_at-requires : goal.key_at-requires
key_at-requires c =
    let z = entering-step c.loop-p.invariant c.in-Some.ensures.steps in
    (c.requires, walk-place c.requires.shadowed z.1.walk z.0.inside)

pub offset_bounds-tables-i-in-loop-p : goal.offset_bounds-tables-i-in-loop-p
offset_bounds-tables-i-in-loop-p c = omega (arith, entering-low c.requires.shadowed (entering-step c.loop-p.invariant c.in-Some.ensures.steps).1)

pub bounds-tables-i-in-loop-p : goal.bounds-tables-i-in-loop-p
bounds-tables-i-in-loop-p c =
    omega (arith, entering-low c.requires.shadowed (entering-step c.loop-p.invariant c.in-Some.ensures.steps).1, c.loop-p.tables.room_keys)

pub overflow_add-i : goal.overflow_add-i
overflow_add-i c = omega (arith, entering-low c.requires.shadowed (entering-step c.loop-p.invariant c.in-Some.ensures.steps).1)

pub loop-p-preserved : goal.loop-p-preserved
loop-p-preserved c =
    let z = entering-step c.loop-p.invariant c.in-Some.ensures.steps in
    let x = c.args.tables.now in
    (z.0.over, rw z.0.on (entering-one c.requires.shadowed z.1 x.room_at x.room_fields x.room_keys z.0.inside (rw (add-sub_cancel_left (c.in-Some.p + 1) c.args.s.now.width) at c.put_bytes.ensures) c.key_at.ensures refl))

pub returns : goal.returns
returns c =
    let sh = c.requires.shadowed in
    let g = c.loop-p.invariant.1 in
    let h = over-end c.loop-p.invariant.0 c.in-None.ensures.steps in
    let x = c.args.tables.now in
    (entering-listed sh g x.room_at x.room_fields x.room_keys h, (entering-all sh g x.room_at x.room_fields x.room_keys h, entering-end sh g x.room_at x.room_fields x.room_keys h))
