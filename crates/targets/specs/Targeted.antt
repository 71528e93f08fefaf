-- The targets of ports and marks, in the cells 9 and 10 of the shadow.
-- Assumes nothing.
use Rattle.std.specs.Prelude.{◌+◌, ℕ, get_or, length, true, List, ◌≡◌, None, Some}
use Rattle.names.specs.Lists.{In}
use Rattle.recipe.specs.Records.{Recipe, is_pointer, places}
use Rattle.shadow.specs.Columns.{Measured}
use Rattle.tree.specs.Faults.{fault₈}
use Rattle.tree.specs.Numbers.{reach}
use Rattle.tree.specs.Tree.{Node, instances, nodes, target}
use Rattle.tree.specs.Planted.{Planted}

-- rows 1 to 6, 19 and 8 do not apply: the place of each port's and mark's target
pub record Aimed (s : Recipe) (t : List ℕ) : Type 0 where
  pub measured : Measured s t
  pub row₈ : fault₈ s ≡ None
  pub targets : (r : ℕ) → In r (places s) → is_pointer s r ≡ true → (x : Node) → target s r ≡ Some x → get_or t (r + 10) 0 ≡ x.place

-- rows 1 to 8 do not apply: and in the tree its number, counted from the first element of its instance
pub record Targeted (s : Recipe) (t inst : List ℕ) (n : ℕ) : Type 0 where
  pub planted : Planted s t inst n
  pub aimed : Aimed s t
  pub numbers : (x : Node) → In x (nodes s (is_pointer s)) → get_or t (x.place + 9) 0 ≡ reach s x.place

-- and it is of all instances of the tree
abbrev pub TreeRequires : Recipe → List ℕ → List ℕ → Type 0
TreeRequires s t inst = Targeted s t inst (length (instances s))
