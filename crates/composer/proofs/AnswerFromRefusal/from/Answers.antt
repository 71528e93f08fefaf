-- `Answer::from` gives a refusal's four numbers.
-- Assumes nothing.
use Rattle.composer.specs.Verdicts.{refused}
use Rattle.composer.proofs.AnswerFromRefusal.from.Goals as goal

pub returns : goal.returns
unfolding refused
returns c = rw c.number.ensures
