-- The index of the names of records that stand one after the other, each as long as the next: their positions, in order of
-- their keys, then of their names, then of the positions. Assumes nothing.
use Rattle.std.specs.Prelude.{ℕ, zero, suc, ◌+◌, ◌*◌, ◌≤◌, ◌<◌, ◌≡◌, Bool, cond, List, [], ◌∷◌, length, take, drop, get_or, is_some}
use Rattle.names.specs.Lists.{same}
use Rattle.names.specs.Scans.{scan}
use Rattle.names.specs.Order.{before}
use Rattle.name_index.specs.declared.Layout.{Layout}
use Rattle.name_index.specs.Hash.{hash_of}

-- the name of the record at position p
unfoldable pub name_of : List ℕ → Layout → ℕ → List ℕ
name_of s l p = take l.width (drop (p * l.stride + l.first) s)

-- the same behind the record's key, so that the order of lists looks at the key first; where all keys are 0 it is the order of names
abbrev pub keyed_name : List ℕ → List ℕ → Layout → ℕ → List ℕ
keyed_name keys s l p = get_or keys p 0 ∷ name_of s l p

-- the bytes have n whole records, and the name stands inside its record
pub record Whole (s : List ℕ) (l : Layout) (n : ℕ) : Type 0 where
  pub inside : l.first + l.width ≤ l.stride
  pub room : n * l.stride ≤ length s

module _ (name : ℕ → List ℕ) where
  -- position p put in, after each whose name does not come after p's
  unfoldable pub insert : ℕ → List ℕ → List ℕ
  insert p [] = p ∷ []
  insert p (q ∷ qs) = let rest = insert p qs in cond (before (name p) (name q)) (p ∷ q ∷ qs) (q ∷ rest)

  -- the n positions from `from` on, in order
  unfoldable pub ordered : ℕ → ℕ → List ℕ
  ordered from zero = []
  ordered from (suc n) = insert (from + n) (ordered from n)

-- the name of position p stands at an earlier one too
unfoldable pub is_repeat : (ℕ → List ℕ) → ℕ → Bool
is_repeat name p = is_some (scan (λ q. same (name q) (name p)) p)

-- each key is the number of its record's name
abbrev pub Hashed : List ℕ → (ℕ → List ℕ) → ℕ → Type 0
Hashed keys name n = (p : ℕ) → p < n → get_or keys p 0 ≡ hash_of (name p)
