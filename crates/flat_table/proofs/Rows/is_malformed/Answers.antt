-- `Rows::is_malformed` meets its contract: from what each reader answers.
-- Assumes nothing.
use mathlib.Core.Path.{ap, ◌∙◌}
use Rattle.names.specs.Names.{is_name, is_name_or_blank}
use Rattle.flat_table.specs.Classes.{is_class}
use Rattle.flat_table.proofs.Places.{row-malformed}
use Rattle.flat_table.proofs.Rows.is_malformed.Goals as goal

pub returns : goal.returns
returns c =
    let r = c.row-row.ensures in
    row-malformed _ _ _ _ (c.is_class.ensures ∙ ap is_class r.class) (c.is_name.ensures ∙ ap is_name r.name) (c.is_optional.ensures ∙ ap is_name_or_blank r.parent) (c.is_optional-2.ensures ∙ ap is_name_or_blank r.reference)
