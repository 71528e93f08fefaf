-- `flat_names::prefix_length` meets its contract: the name and its underscores.
-- Assumes nothing.
use native.Mathlib.Omega.{arith}
use Rattle.recipe.specs.Records.{recipe}
use Rattle.recipe.proofs.Definitions.{name-short}
use Rattle.flat_names.proofs.Filling.{row-length}
use Rattle.flat_names.proofs.Looking.{own_room}
use Rattle.flat_names.proofs.prefix_length.Goals as goal

pub name_length-requires : goal.name_length-requires
name_length-requires c = own_room c.requires.0 c.args.m c.requires.1

pub overflow_add-result : goal.overflow_add-result
overflow_add-result c =
    omega (arith, c.name_length.ensures, name-short (recipe c.args.s.now) c.args.m, c.requires.0.numbered.shadowed.narrow)

pub returns : goal.returns
returns c = row-length (recipe c.args.s.now) c.args.m _ _ c.name_length.ensures c.fewest_underscores.ensures
