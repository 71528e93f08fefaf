-- `names::field_at` meets its contract: the part between two offsets is the field.
-- Assumes nothing.
use Rattle.names.proofs.Names.{field_is}
use Rattle.names.proofs.field_at.Goals as goal

pub returns : goal.returns
returns c = let a = c.args in field_is a.w a.bytes.now a.at
