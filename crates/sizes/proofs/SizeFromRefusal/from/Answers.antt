-- `Size::from` gives a refusal's number and place, and zeros.
-- Assumes nothing.
use Rattle.sizes.specs.Size.{size_refused}
use Rattle.sizes.proofs.SizeFromRefusal.from.Goals as goal

pub returns : goal.returns
unfolding size_refused
returns c = rw c.number.ensures
