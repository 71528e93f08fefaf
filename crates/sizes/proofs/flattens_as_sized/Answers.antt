-- `sizes::flattens_as_sized` meets its contract: what the promise of flattening says of the part that the promise of the size makes long enough.
-- Assumes nothing.
use mathlib.Core.Path.{refl}
use Rattle.composer.specs.Verdicts.{name_width, recipe_of}
use Rattle.composer.proofs.Demand.{twelve}
use Rattle.sizes.proofs.Asking.{answers-so, left-alone, part-is-all}
use Rattle.sizes.proofs.flattens_as_sized.Goals as goal

pub returns-then-r-table : goal.returns-then-r-table
returns-then-r-table c =
    (refl, left-alone (recipe_of c.args.recipe.now) c.bandrolt_table_size-r.result c.bandrolt_table_size-r.ensures c.args.table.now c.if-r-table.true)

pub returns : goal.returns
unfolding recipe_of name_width
returns c =
    let R = recipe_of c.args.recipe.now in
    let h = c.bandrolt_table_size-r.ensures in
    let e = c.if-r-table.false in
    (answers-so R c.bandrolt_table_size-r.result h c.args.table.now e c.flatten-a.ensures.0, part-is-all R c.bandrolt_table_size-r.result h c.args.table.now e twelve c.flatten-a.ensures.1)
