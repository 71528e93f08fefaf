-- `names::judge` meets its contract: by what the option is.
-- Assumes nothing.
use Rattle.names.specs.Judging.{judged}
use Rattle.names.proofs.judge.Goals as goal

pub returns-in-Some : goal.returns-in-Some
unfolding judged
returns-in-Some c = rw c.in-Some.is

pub returns-in-None : goal.returns-in-None
unfolding judged
returns-in-None c = rw c.in-None.is
