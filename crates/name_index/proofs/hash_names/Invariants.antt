-- `name_index::hash_names` meets its contract: the invariant: the first p places are filled, the others as they were.
-- Assumes nothing.
use Rattle.name_index.specs.Hash.{hash_of}
use Rattle.name_index.specs.Index.{name_of}
use Rattle.names.proofs.Tables.{Filled}
use Rattle.name_index.proofs.hash_names.Given as goal

abbrev pub invariant-loop-p : goal.invariant-loop-p
invariant-loop-p l = Filled (λ p. hash_of (name_of l.bytes l.l p)) l.initial.keys l.keys l.p
