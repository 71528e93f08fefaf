-- `recipe::name_at` meets its contract: by what the field reads as.
-- Assumes nothing.
use mathlib.Core.Path.{ap, sym, ◌∙◌}
use Rattle.names.specs.Names.{field_of}
use Rattle.names.proofs.Names.{is-no-name}
use Rattle.recipe.proofs.Fields.{name-given, name-none}
use Rattle.recipe.proofs.name_at.Goals as goal

pub returns-in_default : goal.returns-in_default
returns-in_default c = name-none _ (is-no-name _ (c.read_field.ensures ∙ ap field_of c.field_at.ensures) c.in_default.not-Name)

pub returns : goal.returns
returns c = name-given _ (sym c.in-Name.is ∙ (c.read_field.ensures ∙ ap field_of c.field_at.ensures))
