-- The end of a chain: by the column of steps, and from the reference of a survivor, column 4.
-- Assumes nothing.
use Rattle.std.specs.Prelude.{◌*◌, ◌+◌, ◌<◌, ◌≤◌, suc, zero, ℕ, get_or, length, List, ◌≡◌, None, Option, Some, option_map}
use Rattle.names.specs.Lists.{In}
use Rattle.recipe.specs.Records.{Recipe}
use Rattle.tree.specs.Numbers.{number}
use Rattle.tree.specs.Tree.{Node, reference_of}
use Rattle.marks.specs.Marks.{chain_end, survivors}
use Rattle.tree.specs.Steps.{cell_of, next_of}

-- the number that n steps at most lead to from the element of number z
unfoldable pub followed : List ℕ → ℕ → ℕ → ℕ
followed el zero z = z
followed el (suc n) z = elim (next_of (get_or el (5 * z + 3) 0)) [ None ↦ z | Some y ↦ followed el n y ]

-- e is one of so many elements, and each one's step leads to one of them
pub record Stepping (el : List ℕ) (e : ℕ) : Type 0 where
  pub elems : ℕ
  pub low : e < elems
  pub room : 5 * elems ≤ length el
  pub within : (z : ℕ) → z < elems → get_or el (5 * z + 3) 0 ≤ elems

-- the number of the end of the chain from the reference of x, if it has one
abbrev pub end_number : Recipe → Node → Option ℕ
end_number s x = option_map (λ y. number s (chain_end s y)) (reference_of s x)

-- what column 4 has of it
unfoldable pub end_of : Recipe → Node → ℕ
end_of s x = cell_of (end_number s x)

-- column 4, of the survivors
abbrev pub Ends : Recipe → List ℕ → Type 0
Ends s el = (x : Node) → In x (survivors s) → get_or el (5 * number s x + 4) 0 ≡ end_of s x
