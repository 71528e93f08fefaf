-- The survivors by their numbers: an iteration over those that are left.
-- Assumes nothing.
use Rattle.std.specs.Prelude.{ℕ, ◌+◌, ◌*◌, ◌-◌, ◌/◌, eqb, get_or, length, List}
use Rattle.names.specs.Lists.{keep}
use Rattle.tree.specs.Numbers.{run}
use Rattle.composer.specs.declared.Survivors.{Survivors}

-- the numbers from e to n, less those whose rows say that the element is gone
abbrev pub surviving : List ℕ → ℕ → ℕ → List ℕ
surviving el e n = keep (λ k. eqb (get_or el (5 * k + 2) 0) 0) (run e (n - e))

-- those left are the survivors from `at` on, of so many elements as there are rows
abbrev pub survivors_left : Survivors → List ℕ
survivors_left a = surviving a.rows.now a.at (length a.rows.now / 5)
