-- The sizes of Paper 4, by computation: all five numbers.
-- Assumes nothing.
use mathlib.Core.Path.{◌≡◌, refl}
use mathlib.Core.Bool.{true}
use Rattle.samples.specs.Sizes.{sizes_hold}
use Rattle.samples.proofs.Open.{open-specs}

pub sizes-hold : sizes_hold ≡ true
unfolding open-specs
sizes-hold = refl
