-- `Records::name` meets its contract: the name is a field of the record, which lies within the bytes.
-- Assumes nothing.
use Rattle.names.specs.Names.{field_at}
use Rattle.name_index.specs.Index.{name_of}
use Rattle.name_index.proofs.Positions.{inside-name, past-name}
use Rattle.name_index.proofs.Records.name.Goals as goal

pub returns-then-p-self : goal.returns-then-p-self
unfolding name_of field_at
returns-then-p-self c = inside-name _ _ c.if-p-self.true c.field_at.ensures

pub returns-else-p-self : goal.returns-else-p-self
returns-else-p-self c = past-name _ _ c.if-p-self.false
