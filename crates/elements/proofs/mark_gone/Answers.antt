-- `elements::mark_gone` meets its contract: the elements with numbers below e are marked.
-- Assumes nothing.
use native.Mathlib.Omega.{arith}
use Rattle.recipe.specs.Records.{recipe}
use Rattle.elements.proofs.Elements.{element-at, number-low, row-element, rows-over}
use Rattle.elements.proofs.mark_gone.Goals as goal

pub goes-gone-requires : goal.goes-gone-requires
goes-gone-requires c =
    let s = recipe c.args.aims.now.source.now in
    let h₇ = c.args.aims.now.fits in
    let rows = rows-over s c.loop-e.invariant.0 (omega arith) c.requires.1.1.0 in
    let e = element-at s h₇ c.loop-e.e (omega (arith, c.loop-e-test.true, c.requires.1.1.1)) in
    (c.requires.0, (c.requires.1.0, row-element h₇ rows e c.cell-q.ensures.0))

pub returns : goal.returns
returns c = (
  λ x i. c.loop-e.invariant.1 x i (omega (arith, number-low (recipe c.args.aims.now.source.now) c.args.aims.now.fits x i, c.requires.1.1.1, c.loop-e-test.false)),
  c.loop-e.invariant.0,
)
