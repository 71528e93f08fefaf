-- A definition's submodels, one after the other: what holds of those that a loop has passed, and what the shadow has of each.
-- Assumes nothing.
use mathlib.Core.Path.{◌≡◌, refl}
use mathlib.Core.Logic.{◌⊎◌, inl, inr, ⊎_elim}
use Prim.Native.Nat.{ℕ, ◌+◌, ◌≤◌, ◌<◌}
use mathlib.Core.List.{List, [], ◌∷◌}
use lib.ListN.{length, get_or}
use Rattle.names.specs.Lists.{In}
use Rattle.recipe.specs.Records.{Recipe, places}
use Rattle.recipe.specs.Definitions.{definitions, submodels, model_of}
use Rattle.recipe.proofs.Reading.{place-low}
use Rattle.recipe.proofs.Definitions.{in-submodels, model_in, holder_in}
use Rattle.recipe.proofs.Spans.{definition-place}
use Rattle.shadow.specs.Columns.{Linked}
use Rattle.shadow.proofs.Submodels.{submodel-behind}
use Rattle.shadow.proofs.Cells.{row_room}

module _ (s : Recipe) where
  -- a submodel lies behind its definition, which is one
  pub submodel-after : (d m : ℕ) → In m (submodels s d) → In d (definitions s) × (d < m)
  submodel-after d m i =
      let h = in-submodels s d m i in
      let def : In d (definitions s) = rw h.held at (holder_in s m h.placed) in
      (def, submodel-behind s d m def i)

  pub definition-low : (d : ℕ) → In d (definitions s) → d < length s.bytes
  definition-low d i = place-low s d (definition-place s d i).0

module _ {s : Recipe} {t : List ℕ} (g : Linked s t) where
  -- a record, and the room of its cells
  pub linked-room : (p : ℕ) → In p (places s) → p + 13 ≤ length t
  linked-room p i = row_room g.numbered.shadowed p i

-- ---- a loop over the submodels ms, of which rs are left: P holds of the others
pub record Through (ms : List ℕ) (P : ℕ → Type 0) (rs : List ℕ) : Type 0 where
  pub inside : (m : ℕ) → In m rs → In m ms
  pub others : (m : ℕ) → In m ms → In m rs ⊎ P m

pub through-start : {ms rs : List ℕ} (P : ℕ → Type 0) → rs ≡ ms → Through ms P rs
through-start P e = rw e (record { inside = λ m i. i; others = λ m i. inl i })

module _ {ms rs : List ℕ} {P : ℕ → Type 0} (u : Through ms P rs) where
  pub through-one : {p : ℕ} {ts : List ℕ} → rs ≡ p ∷ ts → In p ms
  through-one {p} e = u.inside p (rw e (inl refl))

  pub through-on : (Q : ℕ → Type 0) {p : ℕ} {ts : List ℕ} → rs ≡ p ∷ ts → ((m : ℕ) → In m ms → P m → Q m) → Q p → Through ms Q ts
  through-on Q {p} {ts} e f x = record {
    inside = λ m i. u.inside m (rw e (inr i));
    others = λ m i.
        ⊎_elim
        (λ (j : In m rs). ⊎_elim (λ (q : m ≡ p). inr (rw q x)) (λ (k : In m ts). inl k) (rw e at j))
        (λ (h : P m). inr (f m i h))
        (u.others m i);
  }

  pub through-end : rs ≡ [] → (m : ℕ) → In m ms → P m
  through-end e m i = ⊎_elim (λ (j : In m rs). absurd (rw e at j)) (λ (h : P m). h) (u.others m i)

-- ---- a submodel m of d, and its model
module _ {s : Recipe} {t : List ℕ} (g : Linked s t) (d m : ℕ) (i : In m (submodels s d)) where
  pub submodel-place : In m (places s)
  submodel-place = (in-submodels s d m i).placed

  pub submodel-room : m + 13 ≤ length t
  submodel-room = linked-room g m submodel-place

  pub submodel-model : get_or t (m + 3) 0 ≡ model_of s m
  submodel-model = g.models m submodel-place (in-submodels s d m i).passes

  -- it is a definition
  pub submodel-in : In (get_or t (m + 3) 0) (definitions s)
  submodel-in = rw submodel-model (model_in s d m i)
