-- 01's "Verdicts", rows 7, 8 and 10: of each row the lowest place where it applies, if any.
-- Assumes nothing.
use Rattle.names.specs.declared.Reason.TheVariants.{TooLarge, Untargeted}
use Rattle.std.specs.Prelude.{ℕ, Bool, not, ◌&&◌, ◌||◌, List, [], ◌∷◌, length, ltb, eqb, Option, is_some}
use Rattle.names.specs.Lists.{any, first, holds}
use Rattle.names.specs.Judging.{Row, row}
use Rattle.recipe.specs.Records.{Recipe, is_owned, is_pointer, places, class}
use Rattle.recipe.specs.Definitions.{owner_of}
use Rattle.recipe.specs.Reading.{at_start}
use Rattle.tree.specs.Tree.{most_depth, instances, tree_elements, target}

-- row 7, "over 64 instances": the most instances
unfoldable pub most_instances : ℕ
most_instances = 64

-- row 7, "over 1,024 elements": the most elements
unfoldable pub most_elements : ℕ
most_elements = 1024

-- row 7: "over 64 instances with main, depth over 4, or over 1,024 elements in the tree"
unfoldable pub is_too_large : Recipe → Bool
is_too_large s =
    ltb most_instances (length (instances s))
    || any (λ path. ltb most_depth (length path)) (instances s)
    || ltb most_elements (length (tree_elements s))

-- row 7, at place 0
unfoldable pub fault₇ : Recipe → Option ℕ
fault₇ s = at_start (is_too_large s)

-- row 8, of the port or mark at p: "target doesn't exist"
unfoldable pub is_target_fault : Recipe → ℕ → Bool
is_target_fault s p = is_pointer s p && not (is_some (target s p))

-- row 8: "target doesn't exist, in any definition"
unfoldable pub fault₈ : Recipe → Option ℕ
fault₈ s = first (is_target_fault s) (places s)

-- row 10, of the mark at r: "owner's and target's class differ"; a deletion has no owner
unfoldable pub is_class_fault : Recipe → ℕ → Bool
is_class_fault s r =
    is_owned s r && holds (λ x. not (eqb (class s (owner_of s r)) (class s x.place))) (target s r)

-- row 10: "owner's and target's class differ, in any definition"
unfoldable pub fault₁₀ : Recipe → Option ℕ
fault₁₀ s = first (is_class_fault s) (places s)

-- row 7, alone in the order of judging
abbrev pub tree_rows : Recipe → List Row
tree_rows s = row TooLarge (fault₇ s) ∷ []

-- and row 8; row 10 comes behind row 9, with the marks
abbrev pub target_rows : Recipe → List Row
target_rows s = row Untargeted (fault₈ s) ∷ []
