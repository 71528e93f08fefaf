-- The submodels of a definition, one behind another: what an iteration over them requires, and which are left.
-- Assumes nothing.
use Rattle.std.specs.Prelude.{ℕ, ◌≤◌, ◌≡◌, List, ltb, length}
use Rattle.names.specs.Lists.{In, keep}
use Rattle.recipe.specs.Definitions.{holder, submodels}
use Rattle.recipe.specs.Records.{Recipe, places, recipe, stop}
use Rattle.shadow.specs.declared.SubmodelsOf.{SubmodelsOf}

-- a recipe that rows 1 and 2 do not refuse
pub record Walkable (s : Recipe) : Type 0 where
  pub narrow : s.width ≤ 64
  pub short : length s.bytes ≤ 16384
  pub whole : stop s ≡ length s.bytes

-- it stands at a record
abbrev pub Standing : SubmodelsOf → Type 0
Standing a = Walkable (recipe a.source.now) × In a.at (places (recipe a.source.now))

-- those left are the submodels of that record's definition that stand behind it
abbrev pub submodels_left : SubmodelsOf → List ℕ
submodels_left a = keep (ltb a.at) (submodels (recipe a.source.now) (holder (recipe a.source.now) a.at))
