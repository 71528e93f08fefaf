-- 01's "Prefixes and flat records": prefixes and flat names, at any name width.
-- Assumes nothing.
use Rattle.std.specs.Prelude.{ℕ, zero, suc, ◌-◌, Bool, true, false, List, ◌++◌, map, replicate}
use Rattle.names.specs.Lists.{keep, any, joined, begins}
use Rattle.names.specs.Names.{underscore}
use Rattle.recipe.specs.Records.{Recipe, name}
use Rattle.recipe.specs.Definitions.{records_of, holder, model_of, is_declared}
use Rattle.tree.specs.Tree.{Node}

-- the names of the "element or submodel declared in" definition d; "Gone elements count"
unfoldable pub declared_names : Recipe → ℕ → List (List ℕ)
declared_names s d = map (name s) (keep (is_declared s) (records_of s d))

-- "declared in the containing definition, nor in the instantiated one": the names that the prefix of the submodel m must not begin
unfoldable pub names_around : Recipe → ℕ → List (List ℕ)
names_around s m = declared_names s (holder s m) ++ declared_names s (model_of s m)

-- the name n and k underscores
unfoldable pub with_underscores : List ℕ → ℕ → List ℕ
with_underscores n k = n ++ replicate k underscore

-- one of the names begins with n and k underscores
unfoldable pub is_taken : List (List ℕ) → List ℕ → ℕ → Bool
is_taken names n k = any (begins (with_underscores n k)) names

-- the fewest underscores, k or more, that no name takes; after n tries the count is k + n
unfoldable pub fewest_from : ℕ → List (List ℕ) → List ℕ → ℕ → ℕ
fewest_from zero names n k = k
fewest_from (suc tries) names n k = elim (is_taken names n k) [ true ↦ fewest_from tries names n (suc k) | false ↦ k ]

-- "the fewest underscores, two or more"; "The count is at most 12", the width w
unfoldable pub fewest : ℕ → List (List ℕ) → List ℕ → ℕ
fewest w names n = fewest_from (w - 2) names n 2

-- "A submodel's prefix is its name and then the fewest underscores .."
unfoldable pub prefix : Recipe → ℕ → List ℕ
prefix s m = with_underscores (name s m) (fewest s.width (names_around s m) (name s m))

-- "A flat name is the prefixes from main downward, then the element's name"
unfoldable pub flat_name : Recipe → Node → List ℕ
flat_name s x = joined (map (prefix s) x.path) ++ name s x.place
