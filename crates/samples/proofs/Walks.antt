-- The walks of Paper 1, by computation: numbers, depth and every offset.
-- Assumes nothing.
use mathlib.Core.Path.{◌≡◌, refl}
use mathlib.Core.Bool.{true}
use Rattle.samples.specs.Walks.{walks_hold}
use Rattle.samples.proofs.Open.{open-specs}

pub walks-hold : walks_hold ≡ true
unfolding open-specs
walks-hold = refl
