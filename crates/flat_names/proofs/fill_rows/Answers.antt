-- `flat_names::fill_rows` meets its contract: the invariant: the rows of the first i instances.
-- Assumes nothing.
use native.Mathlib.Omega.{arith}
use Rattle.recipe.specs.Records.{recipe}
use Rattle.flat_names.proofs.Filling.{Turn, some-instance, rowed-start, turn, turned}
use Rattle.flat_names.proofs.fill_rows.Goals.{After-number_at-l}
use Rattle.flat_names.proofs.fill_rows.Goals as goal

pub bounds-len-0 : goal.bounds-len-0
bounds-len-0 c = omega (arith, some-instance (recipe c.args.s.now))

pub loop-i-init : goal.loop-i-init
loop-i-init c = rowed-start c.requires.0 _ c.args.len.now c.requires.1.0 c.requires.1.1

-- the row of instance i, behind that of the instance around it
here : (c : After-number_at-l) → Turn (recipe c.args.s.now) c.loop-i.pre c.loop-i.len c.loop-i.i c.cell-m.result c.cell-u.result c.number_at-l.result c.row_width-row.result
here c = turn c.requires.0 c.loop-i.invariant c.loop-i-test.true c.cell-m.ensures.0 c.cell-u.ensures.0 c.number_at-l.ensures c.row_width-row.ensures

pub put_row-r-requires : goal.put_row-r-requires
put_row-r-requires c =
    let g = here (goal.at.put_row-r-requires c).After-number_at-l in
    (c.requires.0.measured.linked, (g.longer-is.behind-is.submodel, (omega arith, omega arith)))

pub overflow_cast-len : goal.overflow_cast-len
overflow_cast-len c =
    let g = here (goal.at.overflow_cast-len c).After-number_at-l in
    omega arith

pub loop-i-preserved : goal.loop-i-preserved
loop-i-preserved c =
    turned c.requires.0 c.loop-i.invariant c.loop-i-test.true c.cell-m.ensures.0 c.cell-u.ensures.0 c.number_at-l.ensures c.row_width-row.ensures c.put_row-r.ensures.0 c.put_row-r.ensures.1
