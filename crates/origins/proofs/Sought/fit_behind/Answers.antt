-- `Sought::fit_behind` meets its contract: the prefixes of an instance are those of the instance around it, and its submodel's.
-- Assumes nothing.
use mathlib.Core.Path.{◌∙◌}
use Rattle.origins.proofs.Fitting.{prefix-requires, turn-fit, turn-unfit}
use Rattle.origins.proofs.Sought.fit_behind.Goals as goal

pub returns-in_err-l : goal.returns-in_err-l
returns-in_err-l c =
    rw c.from_residual.ensures (turn-unfit c.args.self.now.composition.now.composed.targeted.planted c.requires c.cell-m.ensures.0 c.cell-u.ensures.0 c.numbered.result c.numbered.ensures c.in_err-l.was)

pub prefix_end-requires : goal.prefix_end-requires
prefix_end-requires c =
    prefix-requires c.args.self.now.composition.now.composed.targeted.planted c.requires c.cell-m.ensures.0 c.cell-u.ensures.0 c.numbered.result c.numbered.ensures c.in_ok-l.was

pub returns : goal.returns
returns c =
    c.prefix_end.ensures ∙ turn-fit c.args.self.now.composition.now.composed.targeted.planted c.requires c.cell-m.ensures.0 c.cell-u.ensures.0 c.numbered.result c.numbered.ensures c.in_ok-l.was
