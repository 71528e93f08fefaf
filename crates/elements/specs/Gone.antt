-- What is gone, in numbers.
-- Assumes nothing.
use Rattle.std.specs.Prelude.{ℕ, Bool, ◌≡◌}
use Rattle.names.specs.Lists.{In}
use Rattle.recipe.specs.Records.{Recipe}
use Rattle.tree.specs.Numbers.{number}
use Rattle.tree.specs.Tree.{Node, tree_elements}
use Rattle.marks.specs.Marks.{is_gone}

-- e is the number of an element of the tree
abbrev pub Numbers : Recipe → ℕ → Type 0
Numbers s e = (x : Node) × In x (tree_elements s) × (number s x ≡ e)

-- an element of the tree, by its number and its place
pub record Element (s : Recipe) (e q : ℕ) : Type 0 where
  pub it : Node
  pub tree : In it (tree_elements s)
  pub num : number s it ≡ e
  pub at : it.place ≡ q

-- b says whether the element of number e is gone
abbrev pub GoneAt : Recipe → ℕ → Bool → Type 0
GoneAt s e b = (x : Node) → In x (tree_elements s) → number s x ≡ e → b ≡ is_gone s x
