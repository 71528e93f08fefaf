-- The shadow of a recipe: a table at least as long. The record at p owns its cells p .. p + 12, for no record is shorter than 13 bytes.
-- Assumes nothing.
use Rattle.std.specs.Prelude.{ℕ, ◌+◌, ◌≤◌, ◌<◌, ◌≡◌, false, List, length, get_or, Option, None, Some, cond, eqb}
use Rattle.names.specs.Lists.{In, among}
use Rattle.recipe.specs.Records.{Recipe, places, stop}

-- a recipe that rows 1 and 2 do not refuse, and a table that is its shadow
pub record Shadowed (s : Recipe) (t : List ℕ) : Type 0 where
  pub wide : 12 ≤ s.width
  pub narrow : s.width ≤ 64
  pub short : length s.bytes ≤ 16384
  pub whole : stop s ≡ length s.bytes
  pub room : length s.bytes ≤ length t

-- cell k of each of the records ps is what f gives for it
abbrev pub Cell : List ℕ → ℕ → (ℕ → ℕ) → List ℕ → Type 0
Cell ps k f t = (p : ℕ) → In p ps → get_or t (p + k) 0 ≡ f p

-- the table is as long as it was, and the cells of each record but those numbered ks are as they were
pub record Kept (s : Recipe) (ks t₀ t : List ℕ) : Type 0 where
  pub long : length t ≡ length t₀
  pub as-was : (p k : ℕ) → In p (places s) → k < 13 → among k ks ≡ false → get_or t (p + k) 0 ≡ get_or t₀ (p + k) 0

-- what a cell names: a record by its place, nothing by 0, for the first record is named by none
abbrev pub linked : ℕ → Option ℕ
linked x = cond (eqb x 0) None (Some x)
