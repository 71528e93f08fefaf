-- Two runs in order as one, by any order of two positions. No public promise cites it. Assumes nothing.
use Rattle.std.specs.Prelude.{ℕ, Bool, true, false, cond, List, [], ◌∷◌}

module _ (lt : ℕ → ℕ → Bool) where
  -- a and what f makes of the ys left, and those ys before it that come before a
  unfoldable pub between : ℕ → (List ℕ → List ℕ) → List ℕ → List ℕ
  between a f [] = a ∷ f []
  between a f (b ∷ ys) = let rest = between a f ys in let last = f (b ∷ ys) in cond (lt b a) (b ∷ rest) (a ∷ last)

  -- two runs in order as one
  unfoldable pub merged : List ℕ → List ℕ → List ℕ
  merged [] ys = ys
  merged (a ∷ xs) ys = between a (merged xs) ys

  -- the next of two runs is the second run's
  unfoldable pub next_right : List ℕ → List ℕ → Bool
  next_right [] ys = true
  next_right (a ∷ xs) [] = false
  next_right (a ∷ xs) (b ∷ ys) = lt b a
