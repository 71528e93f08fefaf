-- The tree in numbers: how many elements come before each.
-- Assumes nothing.
use Rattle.std.specs.Prelude.{◌+◌, suc, zero, ℕ, length, List, [], ◌∷◌, None, Some}
use Rattle.recipe.specs.Definitions.{elements, holder, main, model_of, submodels}
use Rattle.recipe.specs.Records.{Recipe}
use Rattle.shadow.specs.Columns.{order, up_to}
use Rattle.tree.specs.Tree.{Node, definition_at, definition_below, most_depth, target}

-- f of each, added
abbrev pub total : (ℕ → ℕ) → List ℕ → ℕ
total f [] = 0
total f (x ∷ xs) = f x + total f xs

-- n numbers from k on
abbrev pub run : ℕ → ℕ → List ℕ
run k zero = []
run k (suc n) = k ∷ run (suc k) n

-- the elements of the tree below an instance of d, looked at n deep
unfoldable pub weight_in : ℕ → Recipe → ℕ → ℕ
weight_in zero s d = length (elements s d)
weight_in (suc n) s d = length (elements s d) + total (λ m. weight_in n s (model_of s m)) (submodels s d)

-- all of them, of a definition of the tree
unfoldable pub weight : Recipe → ℕ → ℕ
weight s d = weight_in (suc most_depth) s d

-- the elements that come, in an instance of d, before the subtree of its submodel m
unfoldable pub ahead : Recipe → ℕ → ℕ → ℕ
ahead s d m = length (elements s d) + up_to (λ k. weight s (model_of s k)) m (submodels s d)

-- the elements that come before those of the instance at the path, from an instance of d
unfoldable pub first_below : Recipe → ℕ → List ℕ → ℕ
first_below s d [] = 0
first_below s d (m ∷ path) = ahead s d m + first_below s (model_of s m) path

-- the number of the first element of an instance
unfoldable pub first_at : Recipe → List ℕ → ℕ
first_at s path = first_below s main path

-- an element's number in the tree
unfoldable pub number : Recipe → Node → ℕ
number s x = first_at s x.path + order s (definition_at s x.path) x.place

-- an element's number, counted from the first element of the instance of d from which it is seen
unfoldable pub number_in : Recipe → ℕ → Node → ℕ
number_in s d x = first_below s d x.path + order s (definition_below s d x.path) x.place

-- the number of a port's or mark's target, counted from its instance's first element
unfoldable pub reach : Recipe → ℕ → ℕ
reach s p = elim (target s p) [ None ↦ 0 | Some t ↦ number_in s (holder s p) t ]
