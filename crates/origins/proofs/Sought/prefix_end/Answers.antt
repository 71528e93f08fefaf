-- `Sought::prefix_end` meets its contract: the bytes of the submodel's name are compared, the underscores behind them counted, and only then the fewest asked for.
-- Assumes nothing.
use mathlib.Core.Path.{◌∙◌, ap}
use Prim.Native.Nat.{◌+◌}
use lib.ListN.{drop, length}
use native.Mathlib.Omega.{arith}
use Rattle.std.proofs.Common.{length-take}
use Rattle.names.specs.Names.{field_at}
use Rattle.names.proofs.Lists.{same-eq}
use Rattle.flat_names.specs.Underscores.{run_first}
use Rattle.origins.proofs.Fitting.{few-underscores, in_field, name-inside, narrow, no_name, prefix-there, run_room, submodel-room, two-at-least, whole_length}
use Rattle.origins.proofs.Sought.prefix_end.Goals as goal

pub name_length-n-requires : goal.name_length-n-requires
name_length-n-requires c =
    submodel-room c.args.self.now.composition.now.composed.targeted.planted.measured.linked c.requires

pub overflow_add-m : goal.overflow_add-m
overflow_add-m c =
    omega (arith, submodel-room c.args.self.now.composition.now.composed.targeted.planted.measured.linked c.requires)

pub field_at-requires : goal.field_at-requires
field_at-requires c =
    name-inside c.args.self.now.composition.now.composed.targeted.planted.measured.linked c.requires c.name_length-n.ensures

pub field_at-requires-2 : goal.field_at-requires-2
field_at-requires-2 c =
    in_field c.args.self.now.composition.now.composed.targeted.planted.measured.linked c.requires c.name_length-n.ensures c.args.self.now.name.now c.args.self.now.long

pub returns-then-not-is_same : goal.returns-then-not-is_same
returns-then-not-is_same c =
    no_name c.args.self.now.composition.now.composed.targeted.planted.measured.linked c.requires c.name_length-n.ensures c.args.self.now.name.now c.args.self.now.long (c.is_same.ensures ∙ same-eq c.field_at.ensures c.field_at-2.ensures) c.if-not-is_same.true

pub overflow_add-l : goal.overflow_add-l
overflow_add-l c =
    omega (arith, in_field c.args.self.now.composition.now.composed.targeted.planted.measured.linked c.requires c.name_length-n.ensures c.args.self.now.name.now c.args.self.now.long)

pub field_at-requires-3 : goal.field_at-requires-3
field_at-requires-3 c =
    run_room c.args.self.now.composition.now.composed.targeted.planted.measured.linked c.requires c.name_length-n.ensures c.args.self.now.name.now c.args.self.now.long

pub count_underscores-k-requires : goal.count_underscores-k-requires
unfolding field_at
count_underscores-k-requires c =
    let w = c.args.self.now.composition.now.tree.source.now.width in
    omega (arith, ap length c.field_at-3.ensures, length-take w (drop (c.args.l + c.name_length-n.result) c.args.self.now.name.now), narrow c.args.self.now.composition.now.composed.targeted.planted.measured.linked)

pub returns-then-k-u : goal.returns-then-k-u
unfolding field_at
returns-then-k-u c =
    let L = c.args.self.now.composition.now.composed.targeted.planted.measured.linked in
    few-underscores L c.requires c.name_length-n.ensures c.args.self.now.name.now c.args.self.now.long (c.is_same.ensures ∙ same-eq c.field_at.ensures c.field_at-2.ensures) c.if-not-is_same.false (c.count_underscores-k.ensures ∙ ap run_first c.field_at-3.ensures) c.fewest_underscores-u.ensures (omega (arith, two-at-least L c.requires c.fewest_underscores-u.ensures))

pub overflow_add-result : goal.overflow_add-result
overflow_add-result c =
    let L = c.args.self.now.composition.now.composed.targeted.planted.measured.linked in
    omega (arith, narrow L, whole_length L c.requires c.name_length-n.ensures c.fewest_underscores-u.ensures, c.requires.room)

pub overflow_add-result-2 : goal.overflow_add-result-2
overflow_add-result-2 c =
    let L = c.args.self.now.composition.now.composed.targeted.planted.measured.linked in
    omega (arith, narrow L, whole_length L c.requires c.name_length-n.ensures c.fewest_underscores-u.ensures, c.requires.room)

pub returns : goal.returns
unfolding field_at
returns c =
    prefix-there c.args.self.now.composition.now.composed.targeted.planted.measured.linked c.requires c.name_length-n.ensures c.args.self.now.name.now c.args.self.now.long (c.is_same.ensures ∙ same-eq c.field_at.ensures c.field_at-2.ensures) c.if-not-is_same.false (c.count_underscores-k.ensures ∙ ap run_first c.field_at-3.ensures) c.fewest_underscores-u.ensures c.if-k-u.false
