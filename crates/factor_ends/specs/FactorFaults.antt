-- Row 20 by the numbers of its elements: whether an end does, and whether a factor is at fault.
-- Assumes nothing.
use Rattle.std.specs.Prelude.{ℕ, ◌+◌, ◌≤◌, ◌≡◌, Bool, length, Option}
use Rattle.names.specs.Lists.{In}
use Rattle.names.specs.Names.{field_at}
use Rattle.recipe.specs.Definitions.{element_in}
use Rattle.recipe.specs.Records.{Recipe, is_factors}
use Rattle.tree.specs.Numbers.{first_at, number}
use Rattle.tree.specs.Tree.{Node, nodes, tree_elements}
use Rattle.marks.specs.Faults.{is_factor, is_factor_fault}

-- b says whether the element of number z can be a factor
abbrev pub FactorTold : Recipe → ℕ → Bool → Type 0
FactorTold s z b = (v : Node) → In v (tree_elements s) → number s v ≡ z → b ≡ is_factor s v

-- the field at `at`, in the recipe, is a factor of the kind 8 x: f is the number of the first element of its instance, o the element that it names
pub record FactorField (s : Recipe) (f : ℕ) (o : Option ℕ) (at : ℕ) (x : Node) : Type 0 where
  pub inside : In x (nodes s (is_factors s))
  pub first : f ≡ first_at s x.path
  pub low : at + s.width ≤ length s.bytes
  pub is : o ≡ element_in s x.place (field_at s.width s.bytes at)

-- b says whether it is at fault
abbrev pub FactorFaultAt : Recipe → ℕ → Option ℕ → ℕ → Bool → Type 0
FactorFaultAt s f o at b = (x : Node) → FactorField s f o at x → b ≡ is_factor_fault s x (field_at s.width s.bytes at)
