-- `composer::flatten_and_check` meets its contract: what the promise of the check says of the bytes that the promise of flattening leaves.
-- Assumes nothing.
use Prim.Native.Nat.{◌-◌}
use native.Mathlib.Omega.{arith}
use Rattle.composer.specs.Verdicts.{name_width, recipe_of}
use Rattle.composer.proofs.Demand.{bytes_fit, check-answers, twelve}
use Rattle.composer.proofs.flatten_and_check.Goals as goal

pub slice_bounds-bandrolt_check_table-end : goal.slice_bounds-bandrolt_check_table-end
unfolding recipe_of name_width
slice_bounds-bandrolt_check_table-end c =
    omega (arith, bytes_fit (recipe_of c.args.recipe.now) twelve c.args.table.now _ c.flatten-a.result c.flatten-a.ensures.0 c.flatten-a.ensures.1)

pub returns : goal.returns
unfolding recipe_of name_width
returns c = (
  check-answers (recipe_of c.args.recipe.now) twelve c.args.table.now _ c.flatten-a.result c.flatten-a.ensures.0 c.flatten-a.ensures.1 _ (c.flatten-a.result.bytes - 0) (omega arith) c.bandrolt_check_table.ensures,
  c.flatten-a.ensures.1,
)
