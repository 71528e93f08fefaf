-- What a cell names by one more than its number, as `numbered` answers it.
-- Assumes nothing.
use Rattle.std.specs.Prelude.{None, Option, Some, SomeIff}
use Prim.Native.Nat.{◌+◌, ◌-◌, ◌≤◌, ℕ}
use borrow.Author.Tests.{eq-eqb, eqb-false, eqb-true, ne_eqb}
use lib.Dec.{eqb}
use mathlib.Core.Path.{◌∙◌, ◌≡◌, ap, refl, sym}
use native.Mathlib.Omega.{arith}
use Rattle.names.proofs.Tests.{by_cases, not_none, the-some}
use Rattle.tree.specs.Steps.{cell_of, next_of}

-- what `checked_sub` gives
pub next-is : (c : ℕ) (o : Option ℕ) → SomeIff o (1 ≤ c) (c - 1) → o ≡ next_of c
unfolding next_of
next-is c None h = rw (eq-eqb c 0 (omega arith))
next-is c (Some y) h = rw (ne_eqb c 0 (λ z. omega (arith, h.0))) (ap Some h.1)

pub next-some : {c y : ℕ} → next_of c ≡ Some y → c ≡ y + 1
unfolding next_of
next-some {c} {y} h =
    by_cases (eqb c 0)
    (λ b. not_none (rw b at h))
    (λ b. let e : c - 1 ≡ y = the-some (rw b at h) in omega (arith, eqb-false c 0 b))

pub next-suc : (n : ℕ) → next_of (n + 1) ≡ Some n
unfolding next_of
next-suc n = rw (ne_eqb (n + 1) 0 (λ z. omega arith)) (ap Some (omega arith))

pub next-cell : (o : Option ℕ) → next_of (cell_of o) ≡ o
unfolding next_of
next-cell None = refl
next-cell (Some i) = next-suc i

pub cell-next : {c : ℕ} {o : Option ℕ} → o ≡ next_of c → cell_of o ≡ c
unfolding next_of
cell-next {c} e =
    by_cases (eqb c 0)
    (λ b. ap cell_of (rw b at e) ∙ sym (eqb-true c 0 b))
    (λ b. ap cell_of (rw b at e) ∙ omega (arith, eqb-false c 0 b))
