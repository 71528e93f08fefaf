-- 02's Paper 2, "Factors follow the chain as references do": the end of the chain from what a factor names, in numbers.
-- Assumes nothing.
use Rattle.std.specs.Prelude.{ℕ, ◌≡◌, List, Option, Some, option_map}
use Rattle.names.specs.Lists.{In}
use Rattle.recipe.specs.Records.{Recipe}
use Rattle.tree.specs.Numbers.{first_at, number}
use Rattle.tree.specs.Tree.{instances, node, tree_elements}
use Rattle.targets.specs.Targeted.{TreeRequires}
use Rattle.marks.specs.Marks.{chain_end}
use Rattle.elements.specs.Columns.{ElementRows, Gones, Nexts}

-- the number of the end of the chain from the element o of the instance at the path; none for none
abbrev pub end_from : Recipe → List ℕ → Option ℕ → Option ℕ
end_from s path o = option_map (λ e. number s (chain_end s (node path e))) o

-- what it takes to follow a chain: the columns 0, 1 and 3 of the elements
pub record ChainsRequires (s : Recipe) (el : List ℕ) : Type 0 where
  pub rows : ElementRows s el
  pub nexts : Nexts s el

-- o is an element of the instance at the path, whose first element has the number f; or none
pub record Factor (s : Recipe) (f : ℕ) (path : List ℕ) (o : Option ℕ) : Type 0 where
  pub inside : In path (instances s)
  pub first : f ≡ first_at s path
  pub tree : (e : ℕ) → o ≡ Some e → In (node path e) (tree_elements s)

-- it is one of some instance
pub record FactorAt (s : Recipe) (f : ℕ) (o : Option ℕ) : Type 0 where
  pub path : List ℕ
  pub is : Factor s f path o

-- z is the number of the end of its chain, in whichever instance
abbrev pub FactorEnd : Recipe → ℕ → Option ℕ → Option ℕ → Type 0
FactorEnd s f o z = (path : List ℕ) → Factor s f path o → z ≡ end_from s path o

-- what row 20 takes besides: the rows of the instances, and column 2 of the elements
pub record FactorsRequires (s : Recipe) (t inst el : List ℕ) : Type 0 where
  pub targeted : TreeRequires s t inst
  pub gones : Gones s el
