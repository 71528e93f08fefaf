-- `flat_names::fill_lengths` meets its contract: the invariant: the lengths of the first i instances.
-- Assumes nothing.
use native.Mathlib.Omega.{arith}
use Rattle.recipe.specs.Records.{recipe}
use Rattle.flat_names.proofs.Filling.{Longer, lengthened, lengths-start, longer, some-instance}
use Rattle.flat_names.proofs.fill_lengths.Goals.{After-number_at-l}
use Rattle.flat_names.proofs.fill_lengths.Goals as goal

pub bounds-len-0 : goal.bounds-len-0
bounds-len-0 c = omega (arith, some-instance (recipe c.args.s.now), c.requires.0.rows.count, c.requires.1)

pub loop-i-init : goal.loop-i-init
loop-i-init c =
    record { lengths = lengths-start c.requires.0 c.args.len.now c.requires.1; below = omega (arith, some-instance (recipe c.args.s.now), c.requires.0.rows.count); above = omega arith }

-- the length of instance i, behind that of the instance around it
here : (c : After-number_at-l) → Longer (recipe c.args.s.now) c.loop-i.len c.loop-i.i c.cell-m.result c.cell.result c.number_at-l.result
here c = longer c.requires.0 c.loop-i.invariant.lengths c.loop-i-test.true c.loop-i.invariant.above c.cell-m.ensures.0 c.cell.ensures.0 c.number_at-l.ensures

pub prefix_length-k-requires : goal.prefix_length-k-requires
prefix_length-k-requires c =
    (c.requires.0.measured.linked, (here (goal.at.prefix_length-k-requires c).After-number_at-l).behind-is.submodel)

pub overflow_add-len : goal.overflow_add-len
overflow_add-len c =
    omega (arith, (here (goal.at.overflow_add-len c).After-number_at-l).fits, c.prefix_length-k.ensures, c.requires.0.measured.linked.numbered.shadowed.narrow)

pub overflow_cast-len : goal.overflow_cast-len
overflow_cast-len c =
    omega (arith, (here (goal.at.overflow_cast-len c).After-number_at-l).fits, c.prefix_length-k.ensures, c.requires.0.measured.linked.numbered.shadowed.narrow)

pub loop-i-preserved : goal.loop-i-preserved
loop-i-preserved c =
    let g = c.loop-i.invariant in
    record {
      lengths = lengthened c.requires.0 g.lengths c.loop-i-test.true g.above c.cell-m.ensures.0 c.cell.ensures.0 c.number_at-l.ensures (omega (arith, c.prefix_length-k.ensures));
      below = omega (arith, c.loop-i-test.true);
      above = omega arith;
    }
