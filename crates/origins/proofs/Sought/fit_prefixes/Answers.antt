-- `Sought::fit_prefixes` meets its contract: the fits of the first i instances are there.
-- Assumes nothing.
use native.Mathlib.Omega.{arith}
use Rattle.origins.proofs.Fitting.{behind-requires, cell-few, fit-room, fit-start, some-room}
use Rattle.origins.proofs.Sought.fit_prefixes.Goals as goal

pub set_numbered-requires : goal.set_numbered-requires
set_numbered-requires c =
    (some-room c.args.self.now.composition.now.composed.targeted.planted c.args.cells.now c.requires, omega arith)

pub loop-i-init : goal.loop-i-init
loop-i-init c =
    fit-start c.args.self.now.composition.now.composed.targeted.planted c.args.cells.now c.requires _ c.set_numbered.ensures

pub set_numbered-requires-in-loop-i : goal.set_numbered-requires-in-loop-i
set_numbered-requires-in-loop-i c =
    let P = c.args.self.now.composition.now.composed.targeted.planted in
    (fit-room P (behind-requires P c.loop-i.invariant c.loop-i-test.true), cell-few P c.loop-i.invariant c.loop-i-test.true c.fit_behind-end.ensures)
