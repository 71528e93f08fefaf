-- The numbers below n: what a scan of them gives, and a table of what each has. Assumes nothing.
use Rattle.std.specs.Prelude.{ℕ, zero, suc, Bool, cond, List, [], ◌∷◌, None, Option, Some}

-- the first of the n numbers from p on that passes the test
unfoldable pub first_from : (ℕ → Bool) → ℕ → ℕ → Option ℕ
first_from t p zero = None
first_from t p (suc n) = let rest = first_from t (suc p) n in cond (t p) (Some p) rest

-- the first of the numbers below n that passes the test
unfoldable pub scan : (ℕ → Bool) → ℕ → Option ℕ
scan t n = first_from t 0 n

-- what f gives for the n numbers from p on, in order
unfoldable pub table_from : (ℕ → ℕ) → ℕ → ℕ → List ℕ
table_from f p zero = []
table_from f p (suc n) = f p ∷ table_from f (suc p) n

-- a table of n places: what f gives for each number below n
unfoldable pub table : (ℕ → ℕ) → ℕ → List ℕ
table f n = table_from f 0 n
