-- The companions of Paper 2, by computation: numbers, and every byte of both outputs.
-- Assumes nothing.
use mathlib.Core.Path.{◌≡◌, refl}
use mathlib.Core.Bool.{true}
use Rattle.samples.specs.Companions.{companions_hold}
use Rattle.samples.proofs.Open.{open-specs}

pub companions-hold : companions_hold ≡ true
unfolding open-specs
companions-hold = refl
