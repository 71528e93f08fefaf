-- `Records::sort_runs` meets its contract: each turn puts one run in order.
-- Assumes nothing.
use Rattle.name_index.proofs.Positions.{lower-key}
use Rattle.name_index.proofs.Runs.{running-start, running-step, running-one, running-end}
use Rattle.name_index.proofs.Records.sort_runs.Goals as goal

pub loop-i-init : goal.loop-i-init
loop-i-init c = running-start _ _ c.requires

pub loop-i-preserved-then-i-j : goal.loop-i-preserved-then-i-j
loop-i-preserved-then-i-j c =
    running-step _ _ c.run_end-j.ensures c.sort_run.ensures.moved (lower-key c.args.self.now) c.loop-i.invariant c.sort_run.ensures.sorted

pub loop-i-preserved : goal.loop-i-preserved
loop-i-preserved c = running-one _ _ (lower-key c.args.self.now) c.run_end-j.ensures c.if-i-j.false c.loop-i.invariant

pub returns-clause-moved : goal.returns-clause-moved
returns-clause-moved c = c.loop-i.invariant.moved

pub returns-clause-sorted : goal.returns-clause-sorted
returns-clause-sorted c = running-end _ _ c.loop-i.invariant c.loop-i-test.false
