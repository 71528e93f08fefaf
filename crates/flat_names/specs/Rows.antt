-- What writing a flat name asks of a recipe, and the tables of the prefixes of the instances, and of their lengths alone.
-- Assumes nothing.
use Rattle.std.specs.Prelude.{ℕ, ◌+◌, ◌*◌, ◌≤◌, ◌<◌, ◌≡◌, List, [], map, length, get_or, take, drop, None}
use Rattle.names.specs.Lists.{joined}
use Rattle.recipe.specs.Records.{Recipe, stop}
use Rattle.recipe.specs.Reading.{fault₃}
use Rattle.tree.specs.Tree.{instances}
use Rattle.tree.specs.Faults.{fault₇}
use Rattle.flat_names.specs.Prefixes.{prefix}

-- names of 12 to 64 bytes, and none of rows 1, 2, 3 and 7
pub record Naming (s : Recipe) : Type 0 where
  pub wide : 12 ≤ s.width
  pub narrow : s.width ≤ 64
  pub short : length s.bytes ≤ 16384
  pub whole : stop s ≡ length s.bytes
  pub formed : fault₃ s ≡ None
  pub small : fault₇ s ≡ None

-- "the prefixes from main downward", of the instance numbered i
unfoldable pub prefixes_of : Recipe → ℕ → List ℕ
prefixes_of s i = joined (map (prefix s) (get_or (instances s) i []))

-- the bytes of a row: four prefixes of w + 2
abbrev pub row_width : ℕ → ℕ
row_width w = 4 * w + 8

-- there is a number for each instance, and the first n are the lengths of their prefixes
pub record LengthsTo (s : Recipe) (len : List ℕ) (n : ℕ) : Type 0 where
  pub counted : length (instances s) ≤ length len
  pub each : (i : ℕ) → i < n → get_or len i 0 ≡ length (prefixes_of s i)

-- all are
abbrev pub AllLengths : Recipe → List ℕ → Type 0
AllLengths s len = LengthsTo s len (length (instances s))

-- there is a row for each instance, and the first n have in it their prefixes, and in the other table their length
pub record RowsTo (s : Recipe) (pre len : List ℕ) (n : ℕ) : Type 0 where
  pub room : length (instances s) * row_width s.width ≤ length pre
  pub lengths : LengthsTo s len n
  pub bytes : (i : ℕ) → i < n → take (length (prefixes_of s i)) (drop (i * row_width s.width) pre) ≡ prefixes_of s i

-- all instances have
abbrev pub Prefixed : Recipe → List ℕ → List ℕ → Type 0
Prefixed s pre len = RowsTo s pre len (length (instances s))
