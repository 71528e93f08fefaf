-- The instances of each definition, threaded from the last to the first: one turn of the loop.
-- Assumes nothing.
use Prim.Native.Nat.{◌*◌, ◌+◌, ◌<◌, ◌≤◌, suc, zero, ℕ}
use borrow.Author.Tests.{eqb-false, eqb-true}
use lib.Dec.{eqb}
use lib.ListN.{drop, get_or, length, length-set, set}
use lib.Seq.{drop-cons, get_or-set_other, get_or-set_same}
use mathlib.Core.Bool.{cond}
use mathlib.Core.List.{List, [], ◌∷◌}
use mathlib.Core.Path.{◌∙◌, ◌≡◌, ap, refl, sym}
use native.Mathlib.Omega.{arith}
use Rattle.names.specs.Lists.{In}
use Rattle.names.proofs.Lists.{get_or-in}
use Rattle.names.proofs.Tests.{by_cases}
use Rattle.recipe.specs.Definitions.{definitions, main, model_of}
use Rattle.recipe.specs.Records.{Recipe, places}
use Rattle.recipe.proofs.Definitions.{model_in}
use Rattle.recipe.proofs.Spans.{definition-place}
use Rattle.shadow.specs.Shadow.{Cell, Kept}
use Rattle.shadow.proofs.Cells.{cell-kept, cell_set, kept-all, kept_set, row_room}
use Rattle.tree.specs.Planted.{ThreadRequires, instance_from}
use Rattle.tree.specs.Tree.{Submodels, definition_at, definition_below, instances}
use Rattle.tree.proofs.Instances.{instance-path}

-- the definition at the end of a path is one
definition-below : (s : Recipe) (d : ℕ) (path : List ℕ) → In d (definitions s) → Submodels s d path → In (definition_below s d path) (definitions s)
unfolding definition_below
definition-below s d [] i h = i
definition-below s d (m ∷ path) i h = definition-below s (model_of s m) path (model_in s d m h.0) h.1

-- the rows from i on are threaded
pub record ThreadLoop (s : Recipe) (t₀ inst₀ t inst : List ℕ) (n i : ℕ) : Type 0 where
  pub within : i ≤ n
  pub kept : Kept s (8 ∷ []) t₀ t
  pub long : length inst ≡ length inst₀
  pub others : (j k : ℕ) → k < 5 → get_or inst (6 * j + k) 0 ≡ get_or inst₀ (6 * j + k) 0
  pub same : (j : ℕ) → i ≤ j → j < n
      → get_or inst (6 * j + 5) 0 ≡ instance_from s (definition_at s (get_or (instances s) j [])) (suc j) (drop (suc j) (instances s))
  pub firsts : Cell (definitions s) 8 (λ d. instance_from s d i (drop i (instances s))) t

module _ {s : Recipe} {t₀ inst₀ : List ℕ} {n : ℕ} (R : ThreadRequires s t₀ inst₀ n) where
  pub thread-start : ThreadLoop s t₀ inst₀ t₀ inst₀ n n
  thread-start = record {
    within = omega arith;
    kept = kept-all s _ t₀;
    long = refl;
    others = λ j k l. refl;
    same = λ j l u. absurd (omega arith);
    firsts = λ d i. R.clear d (definition-place s d i).0 ∙ sym (ap (instance_from s d n) (drop_all (instances s) n R.count));
  }
    where
      drop_all : {A : Type 0} (l : List A) (k : ℕ) → k ≡ length l → drop k l ≡ []
      drop_all [] zero e = refl
      drop_all [] (suc k) e = refl
      drop_all (x ∷ l) zero e = absurd (omega arith)
      drop_all (x ∷ l) (suc k) e = drop_all l k (omega arith)

  -- row i, the one before those that are threaded
  module _ {t inst : List ℕ} {k : ℕ} (i : ℕ) (g : ThreadLoop s t₀ inst₀ t inst n k) (q : k ≡ suc i) where
    abbrev D : ℕ
    D = definition_at s (get_or (instances s) i [])

    row_low : i < n
    row_low = omega (arith, g.within)

    D-in : In D (definitions s)
    unfolding definition_at
    D-in = definition-below s main (get_or (instances s) i []) R.some (instance-path s _ (get_or-in (instances s) i [] (omega (arith, row_low, R.count))))

    D-place : In D (places s)
    D-place = (definition-place s D D-in).0

    row-room' : 6 * i + 6 ≤ length inst
    row-room' = omega (arith, row_low, R.room, g.long)

    definition-is : {d : ℕ} → d ≡ get_or inst (6 * i + 0) 0 → d ≡ D
    definition-is e = e ∙ g.others i 0 (omega arith) ∙ R.model i row_low

    pub first-room : {d : ℕ} → d ≡ get_or inst (6 * i + 0) 0 → d + 8 < length t
    first-room e = rw (definition-is e) (omega (arith, row_room R.shadowed D D-place, g.kept.long))

    pub thread-one : {d x : ℕ} {t' inst' : List ℕ} → d ≡ get_or inst (6 * i + 0) 0 → x ≡ get_or t (d + 8) 0 → inst' ≡ set inst (6 * i + 5) x → t' ≡ set t (d + 8) (i + 1)
        → ThreadLoop s t₀ inst₀ t' inst' n i
    thread-one {d} {x} {t'} {inst'} e h a b =
        let E = definition-is e in
        let B : t' ≡ set t (D + 8) (i + 1) = b ∙ ap (λ (z : ℕ). set t (z + 8) (i + 1)) E in
        let G : Cell (definitions s) 8 (λ d. instance_from s d (suc i) (drop (suc i) (instances s))) t = rw q at g.firsts in
        let X : x ≡ instance_from s D (suc i) (drop (suc i) (instances s)) = h ∙ ap (λ (z : ℕ). get_or t (z + 8) 0) E ∙ G D D-in in
        let S : (c : ℕ) → instance_from s c i (drop i (instances s)) ≡ cond (eqb D c) (suc i) (instance_from s c (suc i) (drop (suc i) (instances s))) =
        λ c. ap (instance_from s c i) (drop-cons (instances s) i [] (omega (arith, row_low, R.count))) in
        let K : Kept s (8 ∷ []) t₀ t' = rw B (kept_set D 8 (i + 1) R.shadowed g.kept D-place (omega arith) refl) in
        record {
          within = omega (arith, row_low);
          kept = K;
          long = ap length a ∙ length-set inst (6 * i + 5) x ∙ g.long;
          others = λ j c l. ap (λ (z : List ℕ). get_or z (6 * j + c) 0) a ∙ get_or-set_other inst (6 * i + 5) (6 * j + c) x 0 (λ y. omega arith) ∙ g.others j c l;
          same = λ j l u.
              by_cases (eqb j i)
              (λ y.
              rw (eqb-true j i y)
              (ap (λ (z : List ℕ). get_or z (6 * i + 5) 0) a ∙ get_or-set_same inst (6 * i + 5) x 0 (omega (arith, row-room')) ∙ X))
              (λ y.
              let n' = eqb-false j i y in
              ap (λ (z : List ℕ). get_or z (6 * j + 5) 0) a ∙ get_or-set_other inst (6 * i + 5) (6 * j + 5) x 0 (λ v. n' (omega arith))
              ∙ g.same j (omega arith) u);
          firsts = λ c i'.
              by_cases (eqb D c)
              (λ y.
              let v = eqb-true D c y in
              ap (λ (z : List ℕ). get_or z (c + 8) 0) B ∙ ap (λ (z : ℕ). get_or (set t (D + 8) (i + 1)) (z + 8) 0) (sym v)
              ∙ cell_set R.shadowed t D 8 (i + 1) D-place (omega arith) g.kept.long
              ∙ sym (S c ∙ rw y (omega arith)))
              (λ y.
              let v = eqb-false D c y in
              ap (λ (z : List ℕ). get_or z (c + 8) 0) B
              ∙ cell-kept R.shadowed t D 8 (i + 1) c 8 D-place (definition-place s c i').0 (omega arith) (omega arith) (λ z w. v z)
              ∙ G c i' ∙ sym (S c ∙ rw y));
        }
