-- The order of names: unsigned bytes, the first difference decides. Assumes nothing.
use Rattle.std.specs.Prelude.{ℕ, Bool, true, false, cond, List, [], ◌∷◌, ltb, eqb}

-- xs comes before ys; a list comes before each longer one that begins with it
unfoldable pub before : List ℕ → List ℕ → Bool
before [] [] = false
before [] (y ∷ ys) = true
before (x ∷ xs) [] = false
before (x ∷ xs) (y ∷ ys) = cond (eqb x y) (before xs ys) (ltb x y)
