-- `composer::write_table` meets its contract: with the records of the survivors that are left, what is written is the whole table.
-- Assumes nothing.
use Rattle.std.specs.Prelude.{Some}
use Rattle.std.proofs.Common.{rules}
use native.Mathlib.Omega.{arith}
use mathlib.Core.Path.{ap}
use lib.ListN.{length-set}
use Rattle.composer.specs.declared.Site.{Site}
use Rattle.composer.proofs.Fields.{class-inside, field-requires, field-there, own-site, own-tree, parent-room, parent-site, parent-tree, record-written, reference-room, reference-site, reference-tree}
use Rattle.composer.proofs.Room.{flat-end, flat-start, turn-alive, turn-below, turn-fields, turn-low, turn-on, turn-room}
use Rattle.composer.proofs.Surviving.{fate-room, fates-few}
use Rattle.composer.proofs.write_table.Goals as goal

pub loop-e-init : goal.loop-e-init
loop-e-init c =
    flat-start c.args.from.now.fates.fated c.args.from.now.writable c.args.out.now c.requires (rw c.into_iter-e-iterator.ensures.into_iter_gives (search rules))

pub of-own-requires : goal.of-own-requires
of-own-requires c =
    let F = c.args.from.now.fates.fated in
    let W = c.args.from.now.writable in
    omega (arith, fate-room F (turn-low F W c.loop-e.invariant c.in-Some.ensures.steps))

pub class_at-requires : goal.class_at-requires
class_at-requires c =
    let F = c.args.from.now.fates.fated in
    let W = c.args.from.now.writable in
    class-inside F.row₇ W.elements c.in-Some.e (turn-below F W c.loop-e.invariant c.in-Some.ensures.steps) (ap (λ (x : Site). x.place) c.of-own.ensures.0)

pub bounds-out-p : goal.bounds-out-p
bounds-out-p c = omega (arith, turn-fields c.args.from.now.fates.fated c.args.from.now.writable c.loop-e.invariant c.in-Some.ensures.steps c.field_width-f.ensures)

pub put_field-requires : goal.put_field-requires
put_field-requires c =
    let F = c.args.from.now.fates.fated in
    let W = c.args.from.now.writable in
    field-requires W.naming c.args.from.now.alike (Some c.of-own.result) _ (own-tree F.row₇ W.elements c.in-Some.e (turn-below F W c.loop-e.invariant c.in-Some.ensures.steps) c.of-own.ensures.0) (simp length-set (omega (arith, turn-fields F W c.loop-e.invariant c.in-Some.ensures.steps c.field_width-f.ensures, c.field_width-f.ensures)))

pub linked-parent-requires : goal.linked-parent-requires
linked-parent-requires c =
    let F = c.args.from.now.fates.fated in
    let W = c.args.from.now.writable in
    omega (arith, parent-room W (turn-below F W c.loop-e.invariant c.in-Some.ensures.steps) c.of-own.ensures.0)

pub overflow_add-p-in-loop-e-2 : goal.overflow_add-p-in-loop-e-2
overflow_add-p-in-loop-e-2 c = omega (arith, turn-fields c.args.from.now.fates.fated c.args.from.now.writable c.loop-e.invariant c.in-Some.ensures.steps c.field_width-f.ensures)

pub put_field-requires-in-loop-e : goal.put_field-requires-in-loop-e
put_field-requires-in-loop-e c =
    let F = c.args.from.now.fates.fated in
    let W = c.args.from.now.writable in
    field-requires W.naming c.args.from.now.alike _ _ (parent-tree W (turn-below F W c.loop-e.invariant c.in-Some.ensures.steps) c.of-own.ensures.0 c.linked-parent.ensures) (omega (arith, turn-fields F W c.loop-e.invariant c.in-Some.ensures.steps c.field_width-f.ensures, c.field_width-f.ensures, c.put_field.auto.out, length-set c.loop-e.out c.loop-e.p c.class_at.result))

pub reference_site-end-requires : goal.reference_site-end-requires
reference_site-end-requires c =
    let F = c.args.from.now.fates.fated in
    let W = c.args.from.now.writable in
    let l = turn-low F W c.loop-e.invariant c.in-Some.ensures.steps in
    (omega (arith, l, fates-few F), (omega (arith, fate-room F l), reference-room W (turn-below F W c.loop-e.invariant c.in-Some.ensures.steps) (turn-alive F W c.loop-e.invariant c.in-Some.ensures.steps)))

pub overflow_add-p-in-loop-e-4 : goal.overflow_add-p-in-loop-e-4
overflow_add-p-in-loop-e-4 c = omega (arith, turn-fields c.args.from.now.fates.fated c.args.from.now.writable c.loop-e.invariant c.in-Some.ensures.steps c.field_width-f.ensures)

pub overflow_add-p-in-loop-e-5 : goal.overflow_add-p-in-loop-e-5
overflow_add-p-in-loop-e-5 c = omega (arith, turn-fields c.args.from.now.fates.fated c.args.from.now.writable c.loop-e.invariant c.in-Some.ensures.steps c.field_width-f.ensures)

pub put_field-requires-in-loop-e-2 : goal.put_field-requires-in-loop-e-2
put_field-requires-in-loop-e-2 c =
    let F = c.args.from.now.fates.fated in
    let W = c.args.from.now.writable in
    field-requires W.naming c.args.from.now.alike _ _ (reference-tree W (turn-below F W c.loop-e.invariant c.in-Some.ensures.steps) (turn-alive F W c.loop-e.invariant c.in-Some.ensures.steps) c.reference_site-end.ensures) (omega (arith, turn-fields F W c.loop-e.invariant c.in-Some.ensures.steps c.field_width-f.ensures, c.field_width-f.ensures, c.put_field.auto.out, length-set c.loop-e.out c.loop-e.p c.class_at.result, c.put_field-in-loop-e.auto.out))

pub overflow_add-p-in-loop-e-6 : goal.overflow_add-p-in-loop-e-6
overflow_add-p-in-loop-e-6 c = omega (arith, turn-room c.args.from.now.fates.fated c.args.from.now.writable c.loop-e.invariant c.in-Some.ensures.steps, c.record_width-row.ensures, c.loop-e.auto.out)

pub loop-e-preserved : goal.loop-e-preserved
loop-e-preserved c =
    let F = c.args.from.now.fates.fated in
    let W = c.args.from.now.writable in
    let l = (turn-below F W c.loop-e.invariant c.in-Some.ensures.steps) in
    let own = own-site F.row₇ W.elements c.in-Some.e l c.of-own.ensures.0 in
    let place = ap (λ (x : Site). x.place) c.of-own.ensures.0 in
    turn-on F W c.loop-e.invariant c.in-Some.ensures.steps c.record_width-row.ensures
    (record-written W l _ _ place c.class_at.ensures c.field_width-f.ensures own (parent-site W l c.of-own.ensures.0 c.linked-parent.ensures) (reference-site W l (turn-alive F W c.loop-e.invariant c.in-Some.ensures.steps) c.reference_site-end.ensures) (field-there c.args.from.now.alike _ _ _ c.put_field.ensures) (field-there c.args.from.now.alike _ _ _ c.put_field-in-loop-e.ensures) (field-there c.args.from.now.alike _ _ _ c.put_field-in-loop-e-2.ensures))

pub returns : goal.returns
returns c = flat-end c.args.from.now.fates.fated c.args.from.now.writable c.loop-e.invariant c.requires c.in-None.ensures.steps.0
