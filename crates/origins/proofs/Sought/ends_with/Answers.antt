-- `Sought::ends_with` meets its contract: the name's own field is compared, and the zeros behind it.
-- Assumes nothing.
use mathlib.Core.Path.{◌∙◌}
use native.Mathlib.Omega.{arith}
use Rattle.names.proofs.Lists.{same-eq}
use Rattle.flat_names.proofs.Filling.{naming}
use Rattle.origins.proofs.Finding.{in-name, name-inside, other_name, own_name}
use Rattle.origins.proofs.Sought.ends_with.Goals as goal

pub overflow_add-q : goal.overflow_add-q
overflow_add-q c = omega (arith, name-inside (naming c.args.self.now.composition.now.composed.targeted.planted) c.requires)

pub field_at-requires : goal.field_at-requires
field_at-requires c = omega (arith, name-inside (naming c.args.self.now.composition.now.composed.targeted.planted) c.requires)

pub field_at-requires-2 : goal.field_at-requires-2
field_at-requires-2 c = in-name (naming c.args.self.now.composition.now.composed.targeted.planted) c.requires c.args.self.now.name.now c.args.self.now.long

pub returns-then-not-is_same : goal.returns-then-not-is_same
returns-then-not-is_same c =
    other_name (naming c.args.self.now.composition.now.composed.targeted.planted) c.requires c.args.self.now.name.now c.args.self.now.long (c.is_same.ensures ∙ same-eq c.field_at.ensures c.field_at-2.ensures) c.if-not-is_same.true

pub slice_bounds-is_blank-count : goal.slice_bounds-is_blank-count
slice_bounds-is_blank-count c = omega (arith, in-name (naming c.args.self.now.composition.now.composed.targeted.planted) c.requires c.args.self.now.name.now c.args.self.now.long)

pub slice_bounds-is_blank-start : goal.slice_bounds-is_blank-start
slice_bounds-is_blank-start c = omega (arith, in-name (naming c.args.self.now.composition.now.composed.targeted.planted) c.requires c.args.self.now.name.now c.args.self.now.long)

pub returns : goal.returns
returns c =
    own_name (naming c.args.self.now.composition.now.composed.targeted.planted) c.requires c.args.self.now.name.now c.args.self.now.long (c.is_same.ensures ∙ same-eq c.field_at.ensures c.field_at-2.ensures) c.if-not-is_same.false c.is_blank.ensures
