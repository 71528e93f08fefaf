-- The tree over later writes of the shadow; and the targets' numbers of all ports and marks of the tree.
-- Assumes nothing.
use Rattle.std.specs.Prelude.{None, Some}
use Prim.Native.Nat.{◌+◌, ◌<◌, ℕ}
use lib.Dec.{leb}
use mathlib.Core.Bool.{true}
use mathlib.Core.List.{List, [], ◌++◌, ◌∷◌}
use mathlib.Core.Path.{◌∙◌, ◌≡◌, ap, refl}
use native.Mathlib.Omega.{arith}
use Rattle.names.specs.Lists.{In, every}
use Rattle.recipe.specs.Definitions.{holder, main}
use Rattle.recipe.specs.Records.{Recipe, is_pointer}
use Rattle.recipe.proofs.Definitions.{in-submodels}
use Rattle.recipe.proofs.Spans.{definition-place}
use Rattle.shadow.specs.Columns.{order}
use Rattle.shadow.specs.Shadow.{Kept}
use Rattle.shadow.proofs.Columns.{below-kept, measured-over}
use Rattle.tree.specs.Faults.{fault₇}
use Rattle.tree.specs.Numbers.{first_at, number, number_in, reach}
use Rattle.tree.specs.Planted.{Planted}
use Rattle.targets.specs.Targeted.{Aimed, Targeted}
use Rattle.targets.specs.Resolve.{TargetNumbers}
use Rattle.tree.specs.Tree.{Node, definition_at, instances, target, tree_elements}
use Rattle.tree.specs.Walk.{OffsetsKnown}
use Rattle.tree.proofs.Instances.{below-append, instance-path, is-instance, submodels-append}
use Rattle.tree.proofs.Nodes.{Placed, in-nodes, node-holder, node-place, tree-in}
use Rattle.tree.proofs.Numbering.{number-few}
use Rattle.tree.proofs.Rows.{target-exists}
use Rattle.tree.proofs.Targets.{target-walk, walk-element, walk-submodels}
use Rattle.tree.proofs.Trees.{first-append}

-- a pass that writes only cells from 9 on leaves the tree as it is
pub planted-over : {s : Recipe} {ks t₀ t inst : List ℕ} {n : ℕ} → Kept s ks t₀ t → every (leb 9) ks ≡ true → every (leb 7) ks ≡ true → every (leb 6) ks ≡ true → every (leb 3) ks ≡ true
    → Planted s t₀ inst n → Planted s t inst n
planted-over {s} o e e₇ e₆ e₃ P = record {
  measured = measured-over o e₇ e₆ e₃ P.measured;
  row₇ = P.row₇;
  rows = P.rows;
  offsets = λ path i m j. below-kept o 9 (omega arith) e m 7 (in-submodels s (definition_at s path) m j).placed (omega arith) ∙ P.offsets path i m j;
  firsts = λ d i. below-kept o 9 (omega arith) e d 8 (definition-place s d i).0 (omega arith) ∙ P.firsts d i;
}

module _ (s : Recipe) where
  -- the offsets of all submodels of the tree are those below each instance
  known_at : {t inst : List ℕ} {n : ℕ} → Planted s t inst n → (path : List ℕ) → In path (instances s) → OffsetsKnown s t (definition_at s path)
  unfolding definition_at
  known_at P path i q p m j =
      P.offsets (path ++ q) (is-instance s P.row₇ (path ++ q) (submodels-append s main path q (instance-path s path i) p)) m
      (rw (below-append s main path q) j)

  module _ (h₇ : fault₇ s ≡ None) (x y : Node) (P : Placed s (is_pointer s) x) (e : target s x.place ≡ Some y) where
    -- with the path of its instance in front a target is an element of the tree
    abbrev from-here : Node
    from-here = record { path = x.path ++ y.path; place = y.place }

    target-in : In from-here (tree_elements s)
    unfolding definition_at
    target-in =
        let w = rw (node-holder s P) at (target-walk s x.place y e) in
        tree-in s from-here
        (is-instance s h₇ (x.path ++ y.path)
        (submodels-append s main x.path y.path (instance-path s x.path P.instance) (walk-submodels s (definition_at s x.path) y.path y.place w)))
        (rw (below-append s main x.path y.path) (walk-element s (definition_at s x.path) y.path y.place w))

    number_is : number s from-here ≡ first_at s x.path + number_in s (definition_at s x.path) y
    unfolding number number_in first_at definition_at
    number_is =
        omega (
          arith,
          first-append s main x.path y.path,
          ap (λ (d : ℕ). order s d y.place) (below-append s main x.path y.path),
        )

    -- its number is small
    reach_few : reach s x.place < 1024
    unfolding reach
    reach_few =
        let v : reach s x.place ≡ number_in s (holder s x.place) y = rw (e, reach) in
        omega (arith, number-few s h₇ from-here target-in, number_is, ap (λ (d : ℕ). number_in s d y) (node-holder s P))

-- what row 8's pass leaves of the tree
pub targeted : {s : Recipe} {t₀ t inst : List ℕ} {n : ℕ} → Planted s t₀ inst n → Kept s (9 ∷ 10 ∷ []) t₀ t → Aimed s t → TargetNumbers s t → Targeted s t inst n
targeted {s} P₀ o A T =
    let P = planted-over o refl refl refl refl P₀ in record {
      planted = P;
      aimed = A;
      numbers = λ x i.
          let q = in-nodes s (is_pointer s) x i in
          let y = target-exists s A.row₈ x.place (node-place s q) q.passes in
          T x.place (node-place s q) q.passes (rw (node-holder s q) (known_at s P x.path q.instance)) (omega (arith, reach_few s P.row₇ x y.0 q y.1));
    }
