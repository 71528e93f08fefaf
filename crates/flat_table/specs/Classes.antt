-- 01's class table. Assumes nothing.
use Rattle.std.specs.Prelude.{ℕ, Bool, not, ◌&&◌, List, [], ◌∷◌, get_or, leb, eqb, None, Option, Some}
use Rattle.names.specs.Lists.{among}

-- a class of the table
unfoldable pub is_class : ℕ → Bool
is_class c = leb 1 c && leb c 7

-- column Parent: class 5 and class 7 have a parent, the others a blank
unfoldable pub has_parent : ℕ → Bool
has_parent c = among c (5 ∷ 7 ∷ [])

-- column Parent: the parent of class c may be a blank, or of class k
unfoldable pub parent_allowed : ℕ → Option ℕ → Bool
parent_allowed c None = not (has_parent c)
parent_allowed c (Some k) = has_parent c && eqb k 4

-- column Reference: the classes that the reference of class 0 (which is none), 1, 2 .. 7 may have
unfoldable pub reference_table : List (List ℕ)
reference_table = [] ∷ [] ∷ (1 ∷ []) ∷ [] ∷ (1 ∷ []) ∷ (2 ∷ []) ∷ (1 ∷ 2 ∷ 3 ∷ []) ∷ [] ∷ []

-- column Reference: the reference of class c may be a blank, or of class k
unfoldable pub reference_allowed : ℕ → Option ℕ → Bool
reference_allowed c None = among c (1 ∷ 3 ∷ 4 ∷ 7 ∷ [])
reference_allowed c (Some k) = among k (get_or reference_table c [])
