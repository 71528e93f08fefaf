-- The records of an index by their positions. Assumes nothing.
use Rattle.std.specs.Prelude.{ℕ, Bool, cond, not, ◌&&◌, ◌||◌, List, [], ◌∷◌, length, get_or, ltb}
use Rattle.names.specs.Order.{before}
use Rattle.name_index.specs.declared.Records.{Records}
use Rattle.name_index.specs.Index.{name_of, keyed_name}

-- how many there are
abbrev pub count : Records → ℕ
count r = length r.keys.now

-- the key and the name of the record at position p
abbrev pub entry : Records → ℕ → List ℕ
entry r p = keyed_name r.keys.now r.bytes.now r.layout p

-- the same, and behind the last record the key 0 and no name, so that any two positions compare
unfoldable pub total_entry : Records → ℕ → List ℕ
total_entry r p = get_or r.keys.now p 0 ∷ cond (ltb p (count r)) (name_of r.bytes.now r.layout p) []

-- p stands before q: by name, and of one name by position
unfoldable pub stands : (ℕ → List ℕ) → ℕ → ℕ → Bool
stands name p q = before (name p) (name q) || not (before (name q) (name p)) && ltb p q
