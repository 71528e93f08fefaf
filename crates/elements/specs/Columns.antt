-- Which column of an element's row means what; the rows are in the order of the tree. A pass fills its column and keeps those of the passes before it:
--
--      column          has                                                              filled by
--   0  record          its record                                                       list_elements
--   1  instance        the number of its instance                                       list_elements
--   2  gone            whether it is gone, 1 or 0                                        mark_gone
--   3  chain_next      one more than the number of the next of its chain, 0 for none     fill_steps
--   4  reference_end   one more than the number of the end of the chain from its         first_misreferred
--                      reference, 0 for none
--
-- Assumes nothing.
use Rattle.std.specs.Prelude.{◌*◌, ◌+◌, ◌<◌, ◌≤◌, ℕ, get_or, length, cond, List, [], ◌≡◌}
use Rattle.names.specs.Lists.{In}
use Rattle.recipe.specs.Records.{Recipe}
use Rattle.tree.specs.Numbers.{number}
use Rattle.tree.specs.Tree.{Node, instances, tree_elements}
use Rattle.marks.specs.Marks.{is_gone}
use Rattle.elements.specs.Steps.{step_of}

-- the columns 0 and 1: each element's record and instance
pub record ElementRows (s : Recipe) (el : List ℕ) : Type 0 where
  pub room : 5 * length (tree_elements s) ≤ length el
  pub records : (x : Node) → In x (tree_elements s) → get_or el (5 * number s x + 0) 0 ≡ x.place
  pub within : (x : Node) → In x (tree_elements s) → get_or el (5 * number s x + 1) 0 < length (instances s)
  pub paths : (x : Node) → In x (tree_elements s) → get_or (instances s) (get_or el (5 * number s x + 1) 0) [] ≡ x.path

-- column 2
abbrev pub Gones : Recipe → List ℕ → Type 0
Gones s el = (x : Node) → In x (tree_elements s) → get_or el (5 * number s x + 2) 0 ≡ cond (is_gone s x) 1 0

-- column 3
abbrev pub Nexts : Recipe → List ℕ → Type 0
Nexts s el = (x : Node) → In x (tree_elements s) → get_or el (5 * number s x + 3) 0 ≡ step_of s x
