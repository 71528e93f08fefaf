-- `composer::put_field` meets its contract: zeros, or the flat name of the element at the site.
-- Assumes nothing.
use Rattle.recipe.specs.Records.{recipe}
use Rattle.composer.proofs.Fields.{blank-written, name-written}
use Rattle.composer.proofs.put_field.Goals as goal

pub returns-in-None : goal.returns-in-None
returns-in-None c = rw c.in-None.is (blank-written (recipe c.args.prefixes.now.source.now) _ _ c.field_width.ensures c.put_zeros.ensures)

pub returns-in-Some : goal.returns-in-Some
returns-in-Some c = rw c.in-Some.is (name-written (recipe c.args.prefixes.now.source.now) _ _ c.in-Some.x c.put_name.ensures)
