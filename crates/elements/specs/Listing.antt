-- The elements of the tree as rows of five: those listed so far, and that a pass writes one column only.
-- Assumes nothing.
use Rattle.std.specs.Prelude.{◌*◌, ◌+◌, ◌<◌, ℕ, get_or, length, List, [], ◌≡◌}
use Rattle.names.specs.Lists.{In}
use Rattle.recipe.specs.Records.{Recipe}
use Rattle.tree.specs.Numbers.{number}
use Rattle.tree.specs.Tree.{Node, instances, tree_elements}

-- the row of the element x: its record, the number of its instance, and as yet no step
pub record Entry (s : Recipe) (el : List ℕ) (x : Node) : Type 0 where
  pub at : get_or el (5 * number s x + 0) 0 ≡ x.place
  pub few : get_or el (5 * number s x + 1) 0 < length (instances s)
  pub path-is : get_or (instances s) (get_or el (5 * number s x + 1) 0) [] ≡ x.path
  pub no_step : get_or el (5 * number s x + 3) 0 ≡ 0

-- the table has those elements of the tree that D says
abbrev pub Listed : Recipe → (Node → Type 0) → List ℕ → Type 0
Listed s D el = (x : Node) → In x (tree_elements s) → D x → Entry s el x

-- as long as before, and all columns but k are as they were
pub record Only (k : ℕ) (a b : List ℕ) : Type 0 where
  pub long : length b ≡ length a
  pub as-was : (e j : ℕ) → j < 5 → (j ≡ k → ⊥) → get_or b (5 * e + j) 0 ≡ get_or a (5 * e + j) 0
