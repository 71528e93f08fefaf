-- `flat_names::fewest_underscores` meets its contract: the tries begin with two, and go on with the count that the outer names left.
-- Assumes nothing.
use native.Mathlib.Omega.{arith}
use Rattle.recipe.specs.Records.{recipe}
use Rattle.flat_names.proofs.Underscores.{last_some}
use Rattle.flat_names.proofs.Looking.{Both, own_room, stem, both-in}
use Rattle.flat_names.proofs.Counter.{both-looked}
use Rattle.flat_names.proofs.fewest_underscores.Goals.{After-cell-inner}
use Rattle.flat_names.proofs.fewest_underscores.Goals as goal

pub name_length-n-requires : goal.name_length-n-requires
name_length-n-requires c = own_room c.requires.0 c.args.m c.requires.1

pub cell-outer-requires : goal.cell-outer-requires
cell-outer-requires c = omega (arith, own_room c.requires.0 c.args.m c.requires.1, c.requires.0.numbered.shadowed.room)

pub cell-inner-requires : goal.cell-inner-requires
cell-inner-requires c =
    omega (arith, own_room c.requires.0 c.args.m c.requires.1, c.requires.0.numbered.shadowed.room, c.requires.0.numbered.shadowed.wide)

both : (c : After-cell-inner) → Both (recipe c.args.s.now) c.args.m c.cell-outer.result c.cell-inner.result
both c = both-in c.requires.0 c.args.m c.requires.1 c.cell-outer.ensures.0 c.cell-inner.ensures.0

pub raise_count-u-requires : goal.raise_count-u-requires
raise_count-u-requires c =
    let b = both (goal.at.raise_count-u-requires c).After-cell-inner in
    (c.requires.0.numbered, (b.outer-in, (stem c.requires.0 c.args.m c.requires.1 c.name_length-n.ensures, omega arith)))

pub raise_count-requires : goal.raise_count-requires
raise_count-requires c =
    let b = both (goal.at.raise_count-requires c).After-cell-inner in
    (c.requires.0.numbered, (search (b.outer-in, b.inner-in), (stem c.requires.0 c.args.m c.requires.1 c.name_length-n.ensures, omega (arith, last_some _ _ _ c.raise_count-u.ensures (omega arith)))))

pub returns : goal.returns
returns c = both-looked c.requires.0 c.args.m c.requires.1 (both (goal.at.returns c).After-cell-inner) c.raise_count-u.ensures c.raise_count.ensures
