-- `name_index::hash` meets its contract: by the length of the name.
-- Assumes nothing.
use Rattle.name_index.proofs.Hashing.{hash-short, hash-long}
use Rattle.name_index.proofs.hash.Goals as goal

pub returns-in_default : goal.returns-in_default
returns-in_default c = hash-short _ c.in_default.ensures.cases

pub returns : goal.returns
returns c = hash-long _ c.in-Some.ensures.cases.0 c.mix_eights.ensures c.in-Some.ensures.cases.1.same c.mix.ensures
