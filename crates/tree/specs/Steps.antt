-- How an iteration goes along the instances of one definition: a step gives the number of the one where it stands, and goes on to the next.
-- Assumes nothing.
use Rattle.std.specs.Prelude.{ℕ, ◌*◌, ◌+◌, ◌-◌, ◌≡◌, ◌≤◌, ◌<◌, List, length, eqb, get_or, cond, Option, None, Some, IfSome}
use Rattle.std.specs.Iterator.{Count, at_most}
use Rattle.tree.specs.declared.InstancesOf.{InstancesOf}

-- what a cell names by one more than its number; nothing by 0
unfoldable pub next_of : ℕ → Option ℕ
next_of c = cond (eqb c 0) None (Some (c - 1))

-- what the cell has that names it so
abbrev pub cell_of : Option ℕ → ℕ
cell_of None = 0
cell_of (Some i) = i + 1

-- the threads of the first n rows go upward: the next instance that a row names is behind it, or none
pub record Rising (rows : List ℕ) (n : ℕ) : Type 0 where
  pub room : 6 * n ≤ length rows
  pub upward : (i : ℕ) → i < n → IfSome (next_of (get_or rows (6 * i + 5) 0)) (λ j. (i < j) × (j < n))

-- a step stays within such rows
abbrev pub StepFits : InstancesOf → Type 0
StepFits a = (n : ℕ) × (Rising a.rows.now n × IfSome a.next (λ i. i < n))

-- what one step gives, and where the iteration stands then
abbrev pub StepsTo : InstancesOf → Option ℕ → InstancesOf → Type 0
StepsTo a None b = (a.next ≡ None) × (b ≡ a)
StepsTo a (Some i) b = (a.next ≡ Some i) × (b.next ≡ next_of (get_or a.rows.now (6 * i + 5) 0)) × (b.rows ≡ a.rows)

-- each step goes on by one row at least
abbrev pub instances_left : InstancesOf → Count
instances_left a = at_most (elim a.next [ None ↦ 0 | Some i ↦ length a.rows.now - i ])
