-- `names::is_optional` meets its contract: by the cases of `read_field`.
-- Assumes nothing.
use Rattle.names.proofs.Names.{is-optional, is-not-optional}
use mathlib.Core.Path.{sym}
use borrow.Author.Rules.{rules}
use Rattle.names.proofs.is_optional.Goals as goal

pub returns-in_default : goal.returns-in_default
returns-in_default c = sym (is-optional _ c.read_field.ensures (search rules))

pub returns : goal.returns
returns c = sym (is-not-optional _ cc)
