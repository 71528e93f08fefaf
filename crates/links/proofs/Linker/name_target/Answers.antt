-- `Linker::name_target` meets its contract: by what the shadow says of the submodel.
-- Assumes nothing.
use mathlib.Core.Path.{sym, ◌∙◌}
use native.Mathlib.Omega.{arith}
use Rattle.record_index.proofs.Places.{place-room}
use Rattle.record_index.specs.Indexed.{recipe_of}
use Rattle.links.proofs.Targets.{cells-room, other-kept, submodel-room, target-field, target-sought, target-written, unnamed-kept, way-kind, way-some}
use Rattle.links.proofs.Linker.name_target.Goals as goal

pub bounds-s-p : goal.bounds-s-p
bounds-s-p c = omega (arith, place-room (recipe_of c.args.self.now.index) c.args.p c.requires.1)

pub returns-then-not-is_pointer : goal.returns-then-not-is_pointer
returns-then-not-is_pointer c = other-kept c.requires.0 c.args.p c.requires.1 c.is_pointer.ensures _ c.if-not-is_pointer.true

pub link-requires : goal.link-requires
link-requires c = omega (arith, cells-room c.requires.0 c.args.p c.requires.1)

pub returns-in_default : goal.returns-in_default
returns-in_default c = unnamed-kept c.requires.0 c.args.p c.requires.1 c.is_pointer.ensures _ c.if-not-is_pointer.false c.link.ensures.0 c.in_default.is

pub overflow_add-at : goal.overflow_add-at
overflow_add-at c = omega (arith, place-room (recipe_of c.args.self.now.index) c.args.p c.requires.1)

pub submodel_offset-requires : goal.submodel_offset-requires
submodel_offset-requires c = sym c.is_pointer.ensures ∙ c.if-not-is_pointer.false

pub overflow_add-at-2 : goal.overflow_add-at-2
overflow_add-at-2 c = omega (arith, (target-field c.requires.0 c.args.p c.requires.1 c.args.self.now.index.formed c.is_pointer.ensures c.if-not-is_pointer.false c.link.ensures.0 c.in-Some.is c.submodel_offset.ensures).room)

pub overflow_add-at-3 : goal.overflow_add-at-3
overflow_add-at-3 c = omega (arith, (target-field c.requires.0 c.args.p c.requires.1 c.args.self.now.index.formed c.is_pointer.ensures c.if-not-is_pointer.false c.link.ensures.0 c.in-Some.is c.submodel_offset.ensures).room)

pub bounds-s-at : goal.bounds-s-at
bounds-s-at c = omega (arith, (target-field c.requires.0 c.args.p c.requires.1 c.args.self.now.index.formed c.is_pointer.ensures c.if-not-is_pointer.false c.link.ensures.0 c.in-Some.is c.submodel_offset.ensures).room)

pub overflow_add-at-4 : goal.overflow_add-at-4
overflow_add-at-4 c = omega (arith, (target-field c.requires.0 c.args.p c.requires.1 c.args.self.now.index.formed c.is_pointer.ensures c.if-not-is_pointer.false c.link.ensures.0 c.in-Some.is c.submodel_offset.ensures).room)

pub returns-in_default-of : goal.returns-in_default-of
returns-in_default-of c = absurd (way-some c.requires.0 c.args.p c.requires.1 c.args.self.now.index.formed c.is_pointer.ensures c.if-not-is_pointer.false c.link.ensures.0 c.in-Some.is c.submodel_offset.ensures c.of.ensures c.in_default-of.is)

pub cell-requires : goal.cell-requires
cell-requires c = omega (arith, submodel-room c.requires.0 c.args.p c.requires.1 c.args.self.now.index.formed c.is_pointer.ensures c.if-not-is_pointer.false c.link.ensures.0 c.in-Some.is c.submodel_offset.ensures)

pub overflow_add-sought : goal.overflow_add-sought
overflow_add-sought c = omega (arith, (target-field c.requires.0 c.args.p c.requires.1 c.args.self.now.index.formed c.is_pointer.ensures c.if-not-is_pointer.false c.link.ensures.0 c.in-Some.is c.submodel_offset.ensures).room)

pub find-named-requires-clause-sought : goal.find-named-requires-clause-sought
find-named-requires-clause-sought c = target-sought c.requires.0 c.args.p c.requires.1 c.args.self.now.index.formed c.is_pointer.ensures c.if-not-is_pointer.false c.link.ensures.0 c.in-Some.is c.submodel_offset.ensures _ (way-kind c.requires.0 c.args.p c.requires.1 c.args.self.now.index.formed c.is_pointer.ensures c.if-not-is_pointer.false c.link.ensures.0 c.in-Some.is c.submodel_offset.ensures c.of.ensures c.in-Some-of.is c.kind_of.ensures) c.cell.ensures.0

pub set_link-requires : goal.set_link-requires
set_link-requires c = omega (arith, cells-room c.requires.0 c.args.p c.requires.1)

pub returns : goal.returns
returns c = target-written c.requires.0 c.args.p c.requires.1 c.args.self.now.index.formed c.is_pointer.ensures c.if-not-is_pointer.false c.link.ensures.0 c.in-Some.is c.submodel_offset.ensures _ (way-kind c.requires.0 c.args.p c.requires.1 c.args.self.now.index.formed c.is_pointer.ensures c.if-not-is_pointer.false c.link.ensures.0 c.in-Some.is c.submodel_offset.ensures c.of.ensures c.in-Some-of.is c.kind_of.ensures) c.cell.ensures.0 c.find-named.ensures c.set_link.ensures
