-- What composing asks: a name width, and before row 4 room for the shadow.
-- Assumes nothing.
use Rattle.std.specs.Prelude.{ℕ, ◌≤◌, List, length}
use Rattle.names.specs.Judging.{NoneApplies}
use Rattle.recipe.specs.Records.{Recipe}
use Rattle.recipe.specs.Reading.{form_rows}

-- a name width that each floor takes
pub record Width (w : ℕ) : Type 0 where
  pub wide : 12 ≤ w
  pub narrow : w ≤ 64

-- rows 1 to 3 do not apply, and the shadow has its room
pub record NamesRequires (s : Recipe) (t : List ℕ) : Type 0 where
  pub width_is : Width s.width
  pub formed : NoneApplies (form_rows s)
  pub cells : 16384 ≤ length t
