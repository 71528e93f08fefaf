-- The count of underscores that is tried for a prefix, while the names around are looked at one after the other: it begins with two, and a name that takes it raises it.
-- Assumes nothing.
use Rattle.std.specs.Prelude.{ℕ, ◌+◌, ◌≤◌, ◌≡◌, cond, List, [], ◌∷◌, length, drop, eqb}
use Rattle.names.specs.Lists.{keep_while, last_or, begins}
use Rattle.names.specs.Names.{underscore}
use Rattle.recipe.specs.Records.{Recipe, name}
use Rattle.flat_names.specs.Prefixes.{with_underscores}

-- the underscores that a list begins with
unfoldable pub run_first : List ℕ → ℕ
run_first xs = length (keep_while (eqb underscore) xs)

-- the underscores behind n, in a name that begins with it; none in another
unfoldable pub run_behind : List ℕ → List ℕ → ℕ
run_behind n x = cond (begins n x) (run_first (drop (length n) x)) 0

-- the count after the name x was looked at: x takes it if it begins with n and u underscores, and raises it to one more than it has behind n
unfoldable pub raised : List ℕ → List ℕ → ℕ → ℕ
raised n x u = cond (begins (with_underscores n u) x) (run_behind n x + 1) u

-- the counts to which the names raise u, in order
unfoldable pub raises : List ℕ → List (List ℕ) → ℕ → List ℕ
raises n [] u = []
raises n (x ∷ names) u = cond (begins (with_underscores n u) x) (raised n x u ∷ raises n names (raised n x u)) (raises n names u)

-- the last of them, or u if no name takes it
abbrev pub last_try : List ℕ → List (List ℕ) → ℕ → ℕ
last_try n names u = last_or u (raises n names u)

-- the counts from the first try, "two or more", to the last, in order
unfoldable pub tries : List ℕ → List (List ℕ) → List ℕ
tries n names = 2 ∷ raises n names 2

-- the record at m has a name, of n bytes
pub record Stem (s : Recipe) (m n : ℕ) : Type 0 where
  pub inside : m + 1 + s.width ≤ length s.bytes
  pub long : n ≡ length (name s m)
  pub some : 1 ≤ n
  pub fits : n ≤ s.width
