-- Marks by definition, and a queue of what is marked: as many as there are marks, and each in it.
-- Assumes nothing.
use Rattle.std.specs.Prelude.{◌≡◌, Bool, true, false, cond, ◌||◌, List, [], ◌∷◌, ℕ, zero, suc, ◌+◌, ◌/◌, length, get_or, eqb}

-- how many are marked
abbrev pub many : List Bool → ℕ
many [] = 0
many (b ∷ bs) = cond b 1 0 + many bs

-- one of the first n in the queue has the mark j
abbrev pub is_queued : List ℕ → ℕ → ℕ → Bool
is_queued queue zero j = false
is_queued queue (suc n) j = eqb (get_or queue n 0 / 13) j || is_queued queue n j

-- the queue has what is marked, as many as there are marks. Definitions lie 13 bytes apart at least, so e / 13 is the mark of e alone
pub record Marks (mark : List Bool) (queue : List ℕ) (tail : ℕ) : Type 0 where
  pub marks : length mark ≡ 1261
  pub queues : length queue ≡ 1261
  pub counted : tail ≡ many mark
  pub queued : (j : ℕ) → get_or mark j false ≡ true → is_queued queue tail j ≡ true
