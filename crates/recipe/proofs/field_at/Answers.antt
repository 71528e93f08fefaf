-- `recipe::field_at` meets its contract: the field there.
-- Assumes nothing.
use Rattle.recipe.specs.Records.{field}
use Rattle.recipe.proofs.field_at.Goals as goal

pub returns : goal.returns
unfolding field
returns c = c.field_at.ensures
