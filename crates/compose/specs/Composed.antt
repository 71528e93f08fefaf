-- What a recipe that no row refuses leaves to a call's ending: the shadow, the instances, and the elements of the tree with all their columns.
-- Assumes nothing.
use Rattle.std.specs.Prelude.{ℕ, length, List, ◌≡◌, None}
use Rattle.recipe.specs.Records.{Recipe}
use Rattle.tree.specs.Faults.{fault₁₀}
use Rattle.tree.specs.Tree.{tree_elements}
use Rattle.targets.specs.Targeted.{Targeted}
use Rattle.marks.specs.Faults.{fault₉, fault₁₁, fault₁₂, fault₂₀}
use Rattle.elements.specs.Columns.{ElementRows, Gones, Nexts}
use Rattle.references.specs.Ends.{Ends}

-- what each floor leaves, rows 9 to 12 and 20 being none, and the columns of the elements
pub record Composed (s : Recipe) (t inst el : List ℕ) (insts elems : ℕ) : Type 0 where
  pub targeted : Targeted s t inst insts
  pub row₉ : fault₉ s ≡ None
  pub row₁₀ : fault₁₀ s ≡ None
  pub row₁₁ : fault₁₁ s ≡ None
  pub row₁₂ : fault₁₂ s ≡ None
  pub row₂₀ : fault₂₀ s ≡ None
  pub count : elems ≡ length (tree_elements s)
  pub elements : ElementRows s el
  pub gones : Gones s el
  pub nexts : Nexts s el
  pub ends : Ends s el
