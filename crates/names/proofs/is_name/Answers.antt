-- `names::is_name` meets its contract: by the cases of `read_field`.
-- Assumes nothing.
use Rattle.names.proofs.Names.{is_name_lem, is-no-name}
use mathlib.Core.Path.{sym, ◌∙◌}
use Rattle.names.proofs.is_name.Goals as goal

pub returns-in-Name : goal.returns-in-Name
returns-in-Name c = sym (is_name_lem _ (sym c.in-Name.is ∙ c.read_field.ensures))

pub returns-in_default : goal.returns-in_default
returns-in_default c = sym (is-no-name _ c.read_field.ensures c.in_default.not-Name)
