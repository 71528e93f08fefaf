-- `recipe::record_length` meets its contract: by the parts of the body.
-- Assumes nothing.
use native.Mathlib.Omega.{arith}
use Rattle.recipe.proofs.RecordLengths.{length-parts, names-fit}
use Rattle.recipe.proofs.record_length.Goals as goal

pub overflow_mul-result : goal.overflow_mul-result
overflow_mul-result c = omega (arith, names-fit c.name_fields-n.ensures.1 c.requires)

pub overflow_add-result : goal.overflow_add-result
overflow_add-result c = omega (arith, names-fit c.name_fields-n.ensures.1 c.requires)

pub overflow_add-result-2 : goal.overflow_add-result-2
overflow_add-result-2 c = omega (arith, names-fit c.name_fields-n.ensures.1 c.requires, c.single_bytes-b.ensures.1)

pub returns : goal.returns
returns c = length-parts _ _ c.name_fields-n.ensures.0 c.single_bytes-b.ensures.0
