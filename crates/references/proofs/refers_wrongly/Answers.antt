-- `references::refers_wrongly` meets its contract: by the reference field, and by the chain's end.
-- Assumes nothing.
use native.Mathlib.Omega.{arith}
use Rattle.elements.proofs.Elements.{row-element, row-place, row_room}
use Rattle.references.proofs.References.{end-numbers, fault-blank, fault-end, fault-none, row-class}
use Rattle.references.proofs.refers_wrongly.Goals as goal

pub overflow_mul-e : goal.overflow_mul-e
overflow_mul-e c = omega (arith, row_room c.args.aims.now.fits c.requires.0 c.requires.1.1.0)

pub cell-p-requires : goal.cell-p-requires
cell-p-requires c = omega (arith, row_room c.args.aims.now.fits c.requires.0 c.requires.1.1.0)

pub class_at-c-requires : goal.class_at-c-requires
class_at-c-requires c = row-class c.args.aims.now.fits c.requires.0 c.cell-p.ensures.0 c.requires.1.1.0

pub refers_to_none-requires : goal.refers_to_none-requires
refers_to_none-requires c =
    let sh = c.args.aims.now.aimed.measured.linked.numbered.shadowed in
    (sh.narrow, (sh.short, row-place c.args.aims.now.fits c.requires.0 c.requires.1.1.0 c.cell-p.ensures.0))

pub returns-then-refers_to_none : goal.returns-then-refers_to_none
returns-then-refers_to_none c =
    let e = row-element c.args.aims.now.fits c.requires.0 c.requires.1.1.0 c.cell-p.ensures.0 in
    fault-blank c.args.aims.now.aimed.measured.linked.row₅ c.args.aims.now.fits e c.refers_to_none.ensures c.if-refers_to_none.true c.class_at-c.ensures c.reference_may_be_blank.ensures

pub returns-in_default : goal.returns-in_default
returns-in_default c =
    let e = row-element c.args.aims.now.fits c.requires.0 c.requires.1.1.0 c.cell-p.ensures.0 in
    fault-none c.args.aims.now.aimed.measured.linked.row₅ c.args.aims.now.fits e c.refers_to_none.ensures c.if-refers_to_none.false (rw c.in_default.is at c.requires.1.1.1)

pub is_unfit-requires : goal.is_unfit-requires
is_unfit-requires c =
    let e = row-element c.args.aims.now.fits c.requires.0 c.requires.1.1.0 c.cell-p.ensures.0 in
    (c.requires.0, (c.requires.1.0, end-numbers c.args.aims.now.aimed.measured.linked.row₅ c.args.aims.now.fits e c.refers_to_none.ensures (rw c.in-Some.is at c.requires.1.1.1)))

pub returns : goal.returns
returns c =
    let e = row-element c.args.aims.now.fits c.requires.0 c.requires.1.1.0 c.cell-p.ensures.0 in
    fault-end c.args.aims.now.aimed.measured.linked.row₅ c.args.aims.now.fits e c.refers_to_none.ensures (rw c.in-Some.is at c.requires.1.1.1) c.if-refers_to_none.false c.class_at-c.ensures c.is_unfit.ensures
