-- `Records::sort` meets its contract: the invariant: the first p places have their own numbers.
-- Assumes nothing.
use Rattle.names.proofs.Tables.{Filled}
use Rattle.name_index.proofs.Records.sort.Given as goal

abbrev pub invariant-loop-p : goal.invariant-loop-p
invariant-loop-p l = Filled (λ p. p) l.initial.order l.order l.p
