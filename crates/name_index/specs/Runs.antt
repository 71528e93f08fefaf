-- Positions in order of their keys, and the runs of one key among them. Assumes nothing.
use Rattle.std.specs.Prelude.{ℕ, ◌+◌, ◌≤◌, ◌<◌, ◌≡◌, List, length, get_or}
use Rattle.name_index.specs.declared.Records.{Records}

-- the key of the record at position p
abbrev pub key_at : Records → ℕ → ℕ
key_at r p = get_or r.keys.now p 0

module _ (key : ℕ → ℕ) (ys : List ℕ) where
  -- no key is less than the one before
  abbrev pub Rises : Type 0
  Rises = (k : ℕ) → k + 1 < length ys → key (get_or ys k 0) ≤ key (get_or ys (k + 1) 0)

  -- the places of the key at place i, up to place j
  pub record Run (i j : ℕ) : Type 0 where
    pub from : i < j
    pub to : j ≤ length ys
    pub same : (k d : ℕ) → i ≤ k → k < j → key (get_or ys k d) ≡ key (get_or ys i 0)
    pub ends : j < length ys → key (get_or ys j 0) ≡ key (get_or ys i 0) → ⊥
