-- `Fates::of` meets its contract: what composing leaves has a row for each element, and its fate.
-- Assumes nothing.
use Rattle.composer.proofs.Handed.{fated}
use Rattle.composer.proofs.Fates.of.Goals as goal

pub invariant_of-result : goal.invariant_of-result
invariant_of-result c = record { fated = fated c.args.c.now.composed }
