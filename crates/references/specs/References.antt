-- Row 12 by the numbers of its elements: the class of one, whether an end does, and whether a reference is at fault.
-- Assumes nothing.
use Rattle.std.specs.Prelude.{ℕ, Bool, ◌||◌, not, ◌≡◌, Option, Some}
use Rattle.names.specs.Lists.{In}
use Rattle.flat_table.specs.Classes.{reference_allowed}
use Rattle.recipe.specs.Records.{Recipe, class}
use Rattle.tree.specs.Numbers.{number}
use Rattle.tree.specs.Tree.{Node, tree_elements}
use Rattle.references.specs.Ends.{end_number}
use Rattle.marks.specs.Faults.{is_reference_fault}
use Rattle.marks.specs.Marks.{is_gone}

-- k is the class of the element of number z
abbrev pub ClassAt : Recipe → ℕ → ℕ → Type 0
ClassAt s z k = (v : Node) → In v (tree_elements s) → number s v ≡ z → k ≡ class s v.place

-- b says whether the element of number z is no fit end of a chain, for a reference of class c
abbrev pub UnfitAt : Recipe → ℕ → ℕ → Bool → Type 0
UnfitAt s c z b = (v : Node) → In v (tree_elements s) → number s v ≡ z → b ≡ is_gone s v || not (reference_allowed c (Some (class s v.place)))

-- b says whether the reference of the element of number e is at fault
abbrev pub FaultAt : Recipe → ℕ → Bool → Type 0
FaultAt s e b = (x : Node) → In x (tree_elements s) → number s x ≡ e → b ≡ is_reference_fault s x

-- o is the number of the end of the chain from the reference of the element of number e, if it has one
abbrev pub EndAt : Recipe → ℕ → Option ℕ → Type 0
EndAt s e o = (x : Node) → In x (tree_elements s) → number s x ≡ e → o ≡ end_number s x
