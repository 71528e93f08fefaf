-- `FactorSites::write_companion` meets its contract: with the entries of the survivors that are left, what is written is the whole companion; and the row has the factors of the last instance.
-- Assumes nothing.
use Prim.Native.Nat.{ℕ}
use lib.ListN.{length-replicate, length-set}
use mathlib.Core.Path.{◌∙◌, sym}
use native.Mathlib.Omega.{arith}
use Rattle.factors.proofs.Entries.{below, eight-long, enter-end, enter-fields, enter-low, enter-off, enter-on, enter-room, enter-start, entry_row, entry-written, instance-is, name-requires, narrow-entry}
use Rattle.factors.proofs.FactorSites.write_companion.Goals as goal

pub loop-e-init : goal.loop-e-init
loop-e-init c =
    let C = c.args.self.now.composition.now.composed in
    (enter-start C c.args.out.now c.requires (rw c.into_iter-e-iterator.ensures.into_iter_gives (rw (c.of.ensures.1.0, c.of.ensures.1.1) at c.of-e-items.ensures)), (length-replicate {A = ℕ} 2624 0, tt))

pub is_rated-requires : goal.is_rated-requires
is_rated-requires c =
    let C = c.args.self.now.composition.now.composed in
    below C (enter-low C c.loop-e.invariant.0 c.in-Some.ensures.steps)

pub loop-e-preserved-then-not-is_rated : goal.loop-e-preserved-then-not-is_rated
loop-e-preserved-then-not-is_rated c =
    let C = c.args.self.now.composition.now.composed in
    (enter-off C c.loop-e.invariant.0 c.in-Some.ensures.steps (sym c.is_rated.ensures ∙ c.if-not-is_rated.true), c.loop-e.invariant.1)

pub of-x-requires : goal.of-x-requires
of-x-requires c =
    let C = c.args.self.now.composition.now.composed in
    omega (arith, entry_row C (below C (enter-low C c.loop-e.invariant.0 c.in-Some.ensures.steps)))

pub keep_factors-requires : goal.keep_factors-requires
keep_factors-requires c =
    let C = c.args.self.now.composition.now.composed in
    let l = enter-low C c.loop-e.invariant.0 c.in-Some.ensures.steps in
    ((instance-is C l c.of-x.ensures.0, omega (arith, c.loop-e.invariant.1.0)), c.loop-e.invariant.1.1)

pub bounds-out-p : goal.bounds-out-p
bounds-out-p c =
    let C = c.args.self.now.composition.now.composed in
    omega (arith, enter-fields C c.loop-e.invariant.0 c.in-Some.ensures.steps (sym c.is_rated.ensures ∙ c.if-not-is_rated.false) c.field_width-f.ensures)

pub put_name-requires : goal.put_name-requires
put_name-requires c =
    let C = c.args.self.now.composition.now.composed in
    let l = enter-low C c.loop-e.invariant.0 c.in-Some.ensures.steps in
    let h = enter-fields C c.loop-e.invariant.0 c.in-Some.ensures.steps (sym c.is_rated.ensures ∙ c.if-not-is_rated.false) c.field_width-f.ensures in
    name-requires C l c.of-x.ensures.0 c.args.self.now.alike _ _ (simp length-set (omega (arith, h, c.field_width-f.ensures)))

pub overflow_mul-row : goal.overflow_mul-row
overflow_mul-row c = omega (arith, narrow-entry c.args.self.now.composition.now.composed c.field_width-f.ensures)

pub overflow_add-p-in-loop-e-2 : goal.overflow_add-p-in-loop-e-2
overflow_add-p-in-loop-e-2 c =
    let C = c.args.self.now.composition.now.composed in
    omega (arith, enter-fields C c.loop-e.invariant.0 c.in-Some.ensures.steps (sym c.is_rated.ensures ∙ c.if-not-is_rated.false) c.field_width-f.ensures)

pub slice_bounds-row-end : goal.slice_bounds-row-end
slice_bounds-row-end c =
    omega (arith, narrow-entry c.args.self.now.composition.now.composed c.field_width-f.ensures, c.keep_factors.auto.row, c.loop-e.invariant.1.0)

pub slice_bounds-put_bytes-end : goal.slice_bounds-put_bytes-end
slice_bounds-put_bytes-end c =
    omega (arith, eight-long c.args.self.now.composition.now.composed c.field_width-f.ensures c.keep_factors.new.row (omega (arith, c.keep_factors.auto.row, c.loop-e.invariant.1.0)))

pub put_bytes-requires : goal.put_bytes-requires
put_bytes-requires c =
    let C = c.args.self.now.composition.now.composed in
    let h = enter-fields C c.loop-e.invariant.0 c.in-Some.ensures.steps (sym c.is_rated.ensures ∙ c.if-not-is_rated.false) c.field_width-f.ensures in
    let long = eight-long C c.field_width-f.ensures c.keep_factors.new.row (omega (arith, c.keep_factors.auto.row, c.loop-e.invariant.1.0)) in
    omega (arith, long, h, c.put_name.auto.out, length-set c.loop-e.out c.loop-e.p 8)

pub overflow_add-p-in-loop-e-3 : goal.overflow_add-p-in-loop-e-3
overflow_add-p-in-loop-e-3 c =
    let C = c.args.self.now.composition.now.composed in
    omega (arith, enter-room C c.loop-e.invariant.0 c.in-Some.ensures.steps (sym c.is_rated.ensures ∙ c.if-not-is_rated.false) c.entry_width-n.ensures)

pub loop-e-preserved : goal.loop-e-preserved
loop-e-preserved c =
    let C = c.args.self.now.composition.now.composed in
    let l = enter-low C c.loop-e.invariant.0 c.in-Some.ensures.steps in (
      enter-on C c.loop-e.invariant.0 c.in-Some.ensures.steps (sym c.is_rated.ensures ∙ c.if-not-is_rated.false) c.entry_width-n.ensures
          (entry-written C l c.of-x.ensures.0 c.args.self.now.alike _ _ _ c.field_width-f.ensures c.keep_factors.ensures c.put_name.ensures c.put_bytes.ensures),
      (omega (arith, c.loop-e.invariant.1.0, c.keep_factors.auto.row), c.keep_factors.ensures),
    )

pub returns : goal.returns
returns c = enter-end c.args.self.now.composition.now.composed c.loop-e.invariant.0 c.requires c.in-None.ensures.steps.0
