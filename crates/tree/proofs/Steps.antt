-- A `for` over the instances of a definition: what holds of its iterator, at the start, at each step and at the end.
-- Assumes nothing.
use Rattle.std.specs.Prelude.{IfSome, None, Option, Some}
use Prim.Native.Nat.{◌*◌, ◌+◌, ◌-◌, ◌<◌, ◌≤◌, suc, ℕ}
use borrow.Author.Tests.{eqb-false}
use lib.Dec.{eqb}
use lib.ListN.{drop, get_or, length, length-drop}
use mathlib.Core.List.{List, [], ◌∷◌}
use mathlib.Core.Path.{◌∙◌, ◌≡◌, ap, refl}
use native.Mathlib.Omega.{arith}
use Rattle.names.specs.Lists.{In}
use Rattle.names.proofs.Tests.{by_cases}
use Rattle.recipe.specs.Records.{Recipe, places}
use Rattle.recipe.specs.Definitions.{holder}
use Rattle.recipe.proofs.Definitions.{holder_in}
use Rattle.recipe.proofs.Spans.{definition-place}
use Rattle.shadow.proofs.Cells.{row_room}
use Rattle.tree.specs.declared.InstancesOf.{InstancesOf}
use Rattle.tree.specs.Planted.{InstanceRows, Planted, instance_from}
use Rattle.tree.specs.Steps.{Rising, StepFits, StepsTo, cell_of, next_of}
use Rattle.tree.specs.Tree.{definition_at, instances}
use Rattle.tree.proofs.Nexts.{cell-next}

-- ---- the threads go upward
from-within : (s : Recipe) (d i : ℕ) (paths : List (List ℕ)) → instance_from s d i paths ≤ i + length paths
from-within s d i [] = omega arith
from-within s d i (path ∷ paths) =
    by_cases (eqb (definition_at s path) d) (λ e. rw e (omega arith)) (λ e. rw e (omega (arith, from-within s d (suc i) paths)))

from-upward : (s : Recipe) (d i : ℕ) (paths : List (List ℕ)) → (instance_from s d i paths ≡ 0 → ⊥) → i < instance_from s d i paths
from-upward s d i [] h = absurd (h refl)
from-upward s d i (path ∷ paths) h =
    by_cases (eqb (definition_at s path) d) (λ e. rw e (omega arith)) (λ e. rw e (omega (arith, from-upward s d (suc i) paths (rw e at h))))

-- what a cell names, where it is 0 or above suc i, and no more than n
next-between : {c i n : ℕ} → c ≤ n → ((c ≡ 0 → ⊥) → suc i < c) → IfSome (next_of c) (λ j. (i < j) × (j < n))
unfolding next_of
next-between {c} l h = by_cases (eqb c 0) (λ b. rw b tt) (λ b. rw b (omega (arith, h (eqb-false c 0 b)), omega (arith, l, eqb-false c 0 b)))

rising : {s : Recipe} {inst : List ℕ} {n : ℕ} → InstanceRows s inst n → Rising inst n
rising {s} {inst} {n} R = record {
  room = R.room;
  upward = λ i l.
      let d = definition_at s (get_or (instances s) i []) in
      let rest = drop (suc i) (instances s) in
      rw (R.same i l)
      (next-between (omega (arith, from-within s d (suc i) rest, length-drop (suc i) (instances s), R.count)) (λ h. omega (arith, from-upward s d (suc i) rest h)));
}

-- ---- the loop
-- the iterator goes along the rows inst
pub record Follows (inst : List ℕ) (a : InstancesOf) : Type 0 where
  pub rows : a.rows.now ≡ inst

-- what `InstancesOf::record` requires
pub follow-room : {s : Recipe} {t inst : List ℕ} {n : ℕ} → Planted s t inst n → (p : ℕ) → In p (places s) → (p < length t) × (get_or t (p + 0) 0 + 8 < length t)
follow-room {s} {t} P p here =
    let room = row_room P.measured.linked.numbered.shadowed in
    (omega (arith, room p here), omega (arith, P.measured.linked.numbered.held p here, room (holder s p) (definition-place s (holder s p) (holder_in s p here)).0))

pub follow-start : {inst : List ℕ} {v : ℕ} {made a : InstancesOf} → (made.rows.now ≡ inst) × (made.next ≡ next_of v) → a ≡ made → Follows inst a × (cell_of a.next ≡ v)
follow-start m e = (record { rows = ap (λ (x : InstancesOf). x.rows.now) e ∙ m.0 }, cell-next (ap (λ (x : InstancesOf). x.next) e ∙ m.1))

pub follow-fits : {s : Recipe} {t inst : List ℕ} {n : ℕ} → Planted s t inst n → (p : ℕ) → In p (places s) → {a : InstancesOf}
    → Follows inst a × (cell_of a.next ≡ get_or t (get_or t (p + 0) 0 + 8) 0) → StepFits a
follow-fits {s} {t} {inst} {n} P p here {a} o =
    let first = P.firsts (holder s p) (holder_in s p here) in
    (n, (rw o.0.rows (rising P.rows), cell-few a.next (omega (arith, o.1, ap (λ (d : ℕ). get_or t (d + 8) 0) (P.measured.linked.numbered.held p here), first, from-within s (holder s p) 0 (instances s), P.rows.count))))
  where
    cell-few : (o : Option ℕ) → cell_of o ≤ n → IfSome o (λ i. i < n)
    cell-few None l = tt
    cell-few (Some i) l = omega arith

-- a step to the row of instance i, and on; where the iteration stands is told by the cell that names it
pub record AtRow (inst : List ℕ) (a : InstancesOf) (i : ℕ) (b : InstancesOf) : Type 0 where
  pub some : cell_of a.next ≡ 0 → ⊥
  pub number : i ≡ cell_of a.next - 1
  pub on : cell_of b.next ≡ get_or inst (6 * (cell_of a.next - 1) + 5) 0
  pub follows : Follows inst b

pub follow-step : {inst : List ℕ} {a b : InstancesOf} {i : ℕ} → Follows inst a → StepsTo a (Some i) b → AtRow inst a i b
follow-step {inst} {a} {b} {i} o t =
    let at : cell_of a.next ≡ i + 1 = ap cell_of t.0 in
    let number : i ≡ cell_of a.next - 1 = omega (arith, at) in
    record {
      some = λ z. omega (arith, at);
      number = number;
      on = cell-next t.1 ∙ (ap (λ (l : List ℕ). get_or l (6 * i + 5) 0) o.rows ∙ ap (λ (k : ℕ). get_or inst (6 * k + 5) 0) number);
      follows = record { rows = ap (λ z. z.now) t.2 ∙ o.rows };
    }

-- no instance is left
pub follow-end : {a b : InstancesOf} → StepsTo a None b → cell_of a.next ≡ 0
follow-end t = ap cell_of t.0
