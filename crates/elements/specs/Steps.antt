-- The chain's steps in numbers: of each element one more than the number of the next, or 0; and the marks that give them.
-- Assumes nothing.
use Rattle.std.specs.Prelude.{◌*◌, ◌+◌, ℕ, get_or, set, cond, true, List, ◌≡◌, None, Some}
use Rattle.names.specs.Lists.{In}
use Rattle.recipe.specs.Records.{Recipe, is_owned, is_replaced_by, replaced_by_kind}
use Rattle.tree.specs.Numbers.{number}
use Rattle.tree.specs.Tree.{Node, tree_elements}
use Rattle.marks.specs.Cells.{aim_number}
use Rattle.marks.specs.Marks.{owner, step, tree_marks}

-- from which element a replacement or replaced-by steps, and to which (one more than its number)
unfoldable pub from_of : Recipe → Node → ℕ
from_of s r = cond (is_replaced_by s r.place) (number s (owner s r)) (aim_number s r)

unfoldable pub to_of : Recipe → Node → ℕ
to_of s r = cond (is_replaced_by s r.place) (aim_number s r + 1) (number s (owner s r) + 1)

-- the table has the steps of those marks that D says, and no other
pub record Went (s : Recipe) (D : Node → Type 0) (el : List ℕ) : Type 0 where
  pub has : (r : Node) → In r (tree_marks s) → is_owned s r.place ≡ true → D r → get_or el (5 * from_of s r + 3) 0 ≡ to_of s r
  pub others : (x : Node) → In x (tree_elements s) → ((r : Node) → In r (tree_marks s) → is_owned s r.place ≡ true → D r → from_of s r ≡ number s x → ⊥)
      → get_or el (5 * number s x + 3) 0 ≡ 0

-- the entry for an element
unfoldable pub step_of : Recipe → Node → ℕ
step_of s x = elim (step s x) [ None ↦ 0 | Some y ↦ number s y + 1 ]

-- no element has one as yet
abbrev pub NoSteps : Recipe → List ℕ → Type 0
NoSteps s el = (x : Node) → In x (tree_elements s) → get_or el (5 * number s x + 3) 0 ≡ 0

-- what a replacement or replaced-by of kind k stores: a its target's number, b its owner's
abbrev pub stepped : List ℕ → ℕ → ℕ → ℕ → List ℕ
stepped el k a b = cond (replaced_by_kind k) (set el (5 * b + 3) (a + 1)) (set el (5 * a + 3) (b + 1))
