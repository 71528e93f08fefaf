-- `flat_names::name_length` meets its contract: the part of the field before the padding.
-- Assumes nothing.
use Rattle.recipe.specs.Records.{recipe}
use Rattle.flat_names.proofs.Looking.{name-cut}
use Rattle.flat_names.proofs.name_length.Goals as goal

pub returns : goal.returns
returns c = name-cut (recipe c.args.s.now) c.args.p c.field_at.ensures c.unpadded.ensures
