-- How a name is looked for: the instances whose prefixes it begins with, and what then has to stand behind; and what each step of the search requires.
-- Assumes nothing.
use Rattle.std.specs.Prelude.{ℕ, ◌+◌, ◌-◌, ◌≤◌, ◌<◌, ◌≡◌, Bool, cond, not, ◌&&◌, List, length, get_or, drop, Option, None, Some}
use Rattle.names.specs.Lists.{In, begins, same, padded}
use Rattle.flat_table.specs.Table.{flat_width}
use Rattle.recipe.specs.Records.{Recipe, name}
use Rattle.recipe.specs.Definitions.{elements, holder, submodels}
use Rattle.tree.specs.Steps.{cell_of}
use Rattle.tree.specs.Tree.{Node, instances}
use Rattle.marks.specs.Marks.{is_gone}
use Rattle.flat_names.specs.Prefixes.{prefix}
use Rattle.flat_names.specs.Rows.{prefixes_of, row_width}
use Rattle.origins.specs.Origins.{is_named}

-- where the prefix of the submodel m ends in f, if it stands there from l on
unfoldable pub prefix_end : Recipe → List ℕ → ℕ → ℕ → Option ℕ
prefix_end s f m l = cond (begins (prefix s m) (drop l f)) (Some (l + length (prefix s m))) None

-- how many bytes the prefixes of instance i have, if f begins with them
unfoldable pub fit_of : Recipe → List ℕ → ℕ → Option ℕ
fit_of s f i = cond (begins (prefixes_of s i) f) (Some (length (prefixes_of s i))) None

-- the table has that of the first n instances, as one more, 0 for none
pub record FitsTo (s : Recipe) (f fit : List ℕ) (n : ℕ) : Type 0 where
  pub counted : length (instances s) ≤ length fit
  pub fits : (i : ℕ) → i < n → get_or fit i 0 ≡ cell_of (fit_of s f i)

-- and of all
abbrev pub PrefixFits : Recipe → List ℕ → List ℕ → Type 0
PrefixFits s f fit = FitsTo s f fit (length (instances s))

-- the name of the record q, with zeros behind it, is all of f from l on
unfoldable pub ends_with : Recipe → List ℕ → ℕ → ℕ → Bool
ends_with s f q l = same (padded (flat_width s.width - l) (name s q)) (drop l f)

-- x survives, and f is the field of its flat name
unfoldable pub is_origin : Recipe → List ℕ → Node → Bool
is_origin s f x = not (is_gone s x) && is_named s f x

-- ---- what the steps of the search require, beside that f has the length of a flat name's field
-- a submodel, whose prefix has room in f from l on
pub record PrefixRequires (s : Recipe) (m l : ℕ) : Type 0 where
  pub submodel : In m (submodels s (holder s m))
  pub room : l + length (prefix s m) ≤ row_width s.width

-- instance i behind main, and the fits of those before it
pub record BehindRequires (s : Recipe) (i : ℕ) (f fit : List ℕ) : Type 0 where
  pub fits : FitsTo s f fit i
  pub above : 0 < i
  pub low : i < length (instances s)

-- an element, whose name has room in f from l on
pub record NameRequires (s : Recipe) (q l : ℕ) : Type 0 where
  pub definition : ℕ
  pub element : In q (elements s definition)
  pub short : l ≤ row_width s.width
