-- `FactorsAnswer::from` gives a refusal's five numbers.
-- Assumes nothing.
use Rattle.factors.specs.Companion.{factors_refused}
use Rattle.factors.proofs.FactorsAnswerFromRefusal.from.Goals as goal

pub returns : goal.returns
unfolding factors_refused
returns c = rw c.number.ensures
