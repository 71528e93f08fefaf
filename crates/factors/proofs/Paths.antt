-- The factors along a path: those of the instance around, and those of the last submodel; each ends at an element of the tree.
-- Assumes nothing.
use Rattle.std.specs.Prelude.{None, Some, option_map, unwrap_or}
use mathlib.Core.Path.{◌≡◌, sym, ap, ◌∙◌}
use Prim.Native.Nat.{ℕ, zero, suc, ◌+◌, ◌-◌, ◌≤◌, ◌<◌}
use native.Mathlib.Omega.{arith}
use mathlib.Core.Bool.{true, false, ◌&&◌}
use mathlib.Core.List.{List, [], ◌∷◌, ◌++◌}
use lib.Dec.{eqb, ltb}
use lib.ListN.{length, get_or, take, length-append, get_or-append}
use lib.Seq.{take-append-le, take-append_seam, get_or-append_seam}
use borrow.Author.Tests.{eqb-true, le-ltb, lt-ltb, ltb-true, ltb-false}
use Rattle.names.specs.Lists.{In, same}
use Rattle.names.specs.Names.{text}
use Rattle.names.proofs.Lists.{some_first}
use Rattle.names.proofs.Tests.{and_left, and_right, by_cases, by-option, not_none, some-map, three}
use Rattle.recipe.specs.Definitions.{element_in, factors_of, holder, main, model_of, scales, submodels}
use Rattle.recipe.specs.Reading.{fault₅}
use Rattle.recipe.specs.Records.{Recipe, extent_field, first_field, is_factors, is_model, kind, name, places, time_field}
use Rattle.recipe.proofs.Definitions.{element-in, in-submodels}
use Rattle.tree.specs.Faults.{fault₇}
use Rattle.tree.specs.Tree.{Node, Submodels, definition_at, definition_below, instances, most_depth, node, nodes, tree_elements}
use Rattle.tree.proofs.ByRecord.{node_in}
use Rattle.tree.proofs.Instances.{instance-path, is-instance}
use Rattle.tree.proofs.Nodes.{in-nodes, tree-in}
use Rattle.targets.proofs.Resolving.{not-zero}
use Rattle.marks.specs.Faults.{factor_named}
use Rattle.marks.specs.Marks.{chain_end}
use Rattle.marks.proofs.Chain.{chain-in}
use Rattle.factors.specs.Companion.{factor_at, factor_for}
use Rattle.factors.specs.Sites.{factor_field}

-- ---- a path and one submodel more
module _ (s : Recipe) (field : Recipe → ℕ → List ℕ) where
  pub beyond : (p : List ℕ) (k : ℕ) → length p ≤ k → factor_at s field p (suc k) ≡ None
  unfolding factor_at
  beyond p k h = rw (le-ltb k (length p) h)

  pub own-factor : (p : List ℕ) (m : ℕ) → factor_at s field (p ++ (m ∷ [])) (suc (length p)) ≡ factor_for s field p m
  unfolding factor_at
  own-factor p m =
      rw (lt-ltb (length p) (length (p ++ (m ∷ []))) (omega (arith, length-append p (m ∷ []))), take-append_seam p (m ∷ []), get_or-append_seam p m [] 0)

  pub outer-factor : (p : List ℕ) (m k : ℕ) → (k ≡ length p → ⊥) → factor_at s field (p ++ (m ∷ [])) (suc k) ≡ factor_at s field p (suc k)
  unfolding factor_at
  outer-factor p m k n =
      three k (length p)
      (λ l.
      rw (
        lt-ltb k (length (p ++ (m ∷ []))) (omega (arith, length-append p (m ∷ []))),
        lt-ltb k (length p) l,
        take-append-le k p (m ∷ []) (omega arith),
        get_or-append p (m ∷ []) 0 k l,
      ))
      (λ e. absurd (n e))
      (λ l. beyond (p ++ (m ∷ [])) k (omega (arith, length-append p (m ∷ []))) ∙ sym (beyond p k (omega arith)))

-- ---- so too the eight fields
module _ (s : Recipe) (p : List ℕ) (m : ℕ) where
  pub outer-field : (j : ℕ) → (j ≡ length p → ⊥) → (j ≡ 4 + length p → ⊥) → factor_field s (p ++ (m ∷ [])) j ≡ factor_field s p j
  unfolding factor_field most_depth
  outer-field j a b =
      by_cases (ltb j 4)
      (λ t. rw t (outer-factor s time_field p m j a))
      (λ t. let h = ltb-false j 4 t in rw t (outer-factor s extent_field p m (j - 4) (λ e. b (omega arith))))

  pub time-field : length p < 4 → factor_field s (p ++ (m ∷ [])) (length p) ≡ factor_for s time_field p m
  unfolding factor_field most_depth
  time-field h = rw (lt-ltb (length p) 4 h) (own-factor s time_field p m)

  pub extent-field : factor_field s (p ++ (m ∷ [])) (4 + length p) ≡ factor_for s extent_field p m
  unfolding factor_field most_depth
  extent-field =
      let e : 4 + length p - 4 ≡ length p = omega arith in
      rw (le-ltb (4 + length p) 4 (omega arith), e) (own-factor s extent_field p m)

-- those of the path without it are blank
module _ (s : Recipe) (p : List ℕ) where
  pub time-beyond : length p < 4 → factor_field s p (length p) ≡ None
  unfolding factor_field most_depth
  time-beyond h = rw (lt-ltb (length p) 4 h) (beyond s time_field p (length p) (omega arith))

  pub extent-beyond : factor_field s p (4 + length p) ≡ None
  unfolding factor_field most_depth
  extent-beyond = rw (le-ltb (4 + length p) 4 (omega arith)) (beyond s extent_field p (4 + length p - 4) (omega arith))

-- main has none
pub main-fields : (s : Recipe) (j : ℕ) → factor_field s [] j ≡ None
unfolding factor_field most_depth
main-fields s j =
    by_cases (ltb j 4)
    (λ t. rw t (beyond s time_field [] j (omega arith)))
    (λ t. rw t (beyond s extent_field [] (j - 4) (omega arith)))

-- ---- the kind 8 of a submodel
module _ (s : Recipe) (m : ℕ) where
  -- it is a record of the same definition
  pub record Scaling (f : ℕ) : Type 0 where
    pub placed : In f (places s)
    pub passes : is_factors s f ≡ true
    pub held : holder s f ≡ holder s m
    pub no-model : is_model s f ≡ false

  pub scaling : (f : ℕ) → factors_of s m ≡ Some f → Scaling f
  unfolding factors_of scales is_factors is_model
  scaling f e =
      let h = some_first (scales s m) (places s) f e in
      let a = and_left (is_factors s f && eqb (holder s f) (holder s m)) (same (text (first_field s f)) (name s m)) h.1 in
      let b = and_left (is_factors s f) (eqb (holder s f) (holder s m)) a in
      record {
        placed = h.0;
        passes = b;
        held = eqb-true (holder s f) (holder s m) (and_right (is_factors s f) (eqb (holder s f) (holder s m)) a);
        no-model = rw (eqb-true (kind s f) 8 b);
      }

  module _ (path : List ℕ) (i : In path (instances s)) (k : In m (submodels s (definition_at s path))) where
    definition-is : {f : ℕ} → Scaling f → definition_at s path ≡ holder s f
    definition-is h = sym (h.held ∙ (in-submodels s (definition_at s path) m k).held)

    pub factors-node : (f : ℕ) → factors_of s m ≡ Some f → In (node path f) (nodes s (is_factors s))
    factors-node f e = let h = scaling f e in node_in s (is_factors s) f path h.placed h.no-model h.passes i (definition-is h)

    pub factors-some : {c : ℕ} → c ≡ unwrap_or (factors_of s m) 0 → (c ≡ 0 → ⊥) → factors_of s m ≡ Some c
    factors-some {c} e z =
        by-option (factors_of s m)
        (λ n. absurd (z (e ∙ rw n)))
        (λ f n. n ∙ ap Some (sym (e ∙ rw n)))

    pub factors-none : {c : ℕ} → c ≡ unwrap_or (factors_of s m) 0 → c ≡ 0 → factors_of s m ≡ None
    unfolding node
    factors-none {c} e z =
        by-option (factors_of s m)
        (λ n. n)
        (λ f n.
        let p = in-nodes s (is_factors s) (node path f) (factors-node f n) in
        absurd (not-zero s (definition_at s path) f p.inside (sym (e ∙ rw n) ∙ z)))

    -- what it names is an element of that instance
    pub named-tree : (f : ℕ) (x : List ℕ) (e : ℕ) → factors_of s m ≡ Some f → element_in s f x ≡ Some e → In (node path e) (tree_elements s)
    unfolding node
    named-tree f x e n h = tree-in s (node path e) i (rw (definition-is (scaling f n)) (element-in s f x e h).2)

    module _ (h₅ : fault₅ s ≡ None) (h₇ : fault₇ s ≡ None) (field : Recipe → ℕ → List ℕ) where
      pub factor-for-in : (y : Node) → factor_for s field path m ≡ Some y → In y (tree_elements s)
      unfolding factor_for factor_named chain_end node
      factor-for-in y e =
          by-option (factors_of s m)
          (λ n. not_none (sym (rw (n, factor_for)) ∙ e))
          (λ f n.
          let g : option_map (chain_end s) (option_map (node path) (element_in s f (field s f))) ≡ Some y = sym (rw (n, factor_for)) ∙ e in
          let a = some-map (chain_end s) (option_map (node path) (element_in s f (field s f))) y g in
          let b = some-map (node path) (element_in s f (field s f)) a.0 a.1 in
          rw a.2 (chain-in s h₅ h₇ 5 a.0 (rw b.2 (named-tree f (field s f) b.0 n b.1))))

-- ---- along the path of an instance
module _ (s : Recipe) where
  -- a submodel on the way, and what is before it
  split : (d : ℕ) (p : List ℕ) (k : ℕ) → Submodels s d p → k < length p → Submodels s d (take k p) × In (get_or p k 0) (submodels s (definition_below s d (take k p)))
  unfolding definition_below
  split d [] k h l = absurd (omega arith)
  split d (m ∷ p) zero h l = (tt, h.0)
  split d (m ∷ p) (suc k) h l = let r = split (model_of s m) p k h.1 (omega arith) in ((h.0, r.0), r.1)

  pub split-last : (d : ℕ) (p : List ℕ) (m : ℕ) → Submodels s d (p ++ (m ∷ [])) → In m (submodels s (definition_below s d p))
  unfolding definition_below
  split-last d [] m h = h.0
  split-last d (k ∷ p) m h = split-last (model_of s k) p m h.1

  module _ (h₇ : fault₇ s ≡ None) (p : List ℕ) (i : In p (instances s)) (k : ℕ) (l : k < length p) where
    pub around-in : In (take k p) (instances s)
    around-in = is-instance s h₇ (take k p) (split main p k (instance-path s p i) l).0

    pub around-submodel : In (get_or p k 0) (submodels s (definition_at s (take k p)))
    unfolding definition_at
    around-submodel = (split main p k (instance-path s p i) l).1

  module _ (h₅ : fault₅ s ≡ None) (h₇ : fault₇ s ≡ None) (p : List ℕ) (i : In p (instances s)) where
    pub factor-in : (field : Recipe → ℕ → List ℕ) (k : ℕ) (y : Node) → factor_at s field p k ≡ Some y → In y (tree_elements s)
    unfolding factor_at
    factor-in field zero y e = not_none e
    factor-in field (suc k) y e =
        by_cases (ltb k (length p))
        (λ t.
        let l = ltb-true k (length p) t in
        factor-for-in s (get_or p k 0) (take k p) (around-in h₇ p i k l) (around-submodel h₇ p i k l) h₅ h₇ field y (rw t at e))
        (λ t. not_none (rw t at e))

    pub field_in : (j : ℕ) (y : Node) → factor_field s p j ≡ Some y → In y (tree_elements s)
    unfolding factor_field
    field_in j y e =
        by_cases (ltb j most_depth)
        (λ t. factor-in time_field (suc j) y (rw t at e))
        (λ t. factor-in extent_field (suc (j - most_depth)) y (rw t at e))
