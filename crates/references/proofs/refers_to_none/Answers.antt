-- `references::refers_to_none` meets its contract: the reference field is blank.
-- Assumes nothing.
use mathlib.Core.Path.{◌∙◌, ap}
use native.Mathlib.Omega.{arith}
use Rattle.names.specs.Names.{is_blank}
use Rattle.recipe.specs.Records.{field, recipe, reference_field}
use Rattle.references.proofs.References.{reference-low}
use Rattle.references.proofs.refers_to_none.Goals as goal

pub overflow_add-p : goal.overflow_add-p
overflow_add-p c = omega (arith, reference-low (recipe c.args.s.now) c.args.p c.requires.1.1.0 c.requires.1.1.1, c.requires.0, c.requires.1.0)

pub overflow_add-p-2 : goal.overflow_add-p-2
overflow_add-p-2 c = omega (arith, reference-low (recipe c.args.s.now) c.args.p c.requires.1.1.0 c.requires.1.1.1, c.requires.0, c.requires.1.0)

pub field_at-requires : goal.field_at-requires
field_at-requires c = omega (arith, reference-low (recipe c.args.s.now) c.args.p c.requires.1.1.0 c.requires.1.1.1)

pub returns : goal.returns
unfolding reference_field field
returns c = c.is_blank.ensures ∙ ap is_blank c.field_at.ensures
