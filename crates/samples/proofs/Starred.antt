-- The starred recipes of 01, by computation: answers, every byte of the output, the table check's line, and what the program prints of R.
-- Assumes nothing.
use mathlib.Core.Path.{◌≡◌, refl}
use mathlib.Core.Bool.{true}
use Rattle.samples.specs.Samples.{starred_hold, more_hold}
use Rattle.samples.proofs.Open.{open-specs}

-- "The starred recipes form one table, shown by one statement"
pub starred-hold : starred_hold ≡ true
unfolding open-specs
starred-hold = refl

-- more recipes, for the rules that those do not show
pub more-hold : more_hold ≡ true
unfolding open-specs
more-hold = refl
