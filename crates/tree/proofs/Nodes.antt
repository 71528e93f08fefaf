-- The nodes of the tree: which they are, and how two compare.
-- Assumes nothing.
use Rattle.std.specs.Prelude.{Some}
use mathlib.Core.Path.{◌≡◌, refl}
use Prim.Native.Nat.{ℕ}
use mathlib.Core.Bool.{Bool, true}
use mathlib.Core.List.{List, map}
use borrow.Author.Tests.{eqb-true, eq-eqb}
use Rattle.names.specs.Lists.{In, keep, same}
use Rattle.names.proofs.Tests.{and_left, and_right, both, some-map}
use Rattle.names.proofs.Lists.{in-keep, keep-in, in_map, map-in, in-joined, joined_in, same_refl, same_true}
use Rattle.recipe.specs.Records.{Recipe, places, is_element, parent_field, reference_field}
use Rattle.recipe.specs.Definitions.{holder, records_of, elements, element_in}
use Rattle.recipe.proofs.Definitions.{in-records, element-in}
use Rattle.tree.specs.Tree.{Node, node, same_node, instances, definition_at, nodes, tree_elements, parent_of, reference_of}

-- ---- one node, by the test
pub same-node : (x y : Node) → same_node x y ≡ true → x ≡ y
unfolding same_node
same-node x y e =
    let p : x.path ≡ y.path = same_true x.path y.path (and_left (same x.path y.path) _ e) in
    let q : x.place ≡ y.place = eqb-true x.place y.place (and_right (same x.path y.path) _ e) in
    λ i. record { path = p i; place = q i }

pub node-same : (x : Node) → same_node x x ≡ true
unfolding same_node
node-same x = both (same_refl x.path) (eq-eqb x.place x.place refl)

pub node-eq : {x y : Node} → x.path ≡ y.path → x.place ≡ y.place → x ≡ y
node-eq {x} {y} p q = λ i. record { path = p i; place = q i }

module _ (s : Recipe) where
  -- the nodes of one instance
  abbrev at : (ℕ → Bool) → List ℕ → List Node
  at t path = map (node path) (keep t (records_of s (definition_at s path)))

  -- a node of the tree is a record of the definition at its path, and passes the test
  pub record Placed (t : ℕ → Bool) (x : Node) : Type 0 where
    pub instance : In x.path (instances s)
    pub inside : In x.place (records_of s (definition_at s x.path))
    pub passes : t x.place ≡ true

  pub in-nodes : (t : ℕ → Bool) (x : Node) → In x (nodes s t) → Placed t x
  unfolding nodes node
  in-nodes t x i =
      let l = in-joined (map (at t) (instances s)) x i in
      let p = in_map (at t) (instances s) l.0 l.1 in
      let e = in_map (node p.0) (keep t (records_of s (definition_at s p.0))) x (rw p.2 at l.2) in
      let k = in-keep t (records_of s (definition_at s p.0)) e.0 e.1 in
      rw e.2 (record { instance = p.1; inside = k.0; passes = k.1 })

  pub nodes-in : (t : ℕ → Bool) (x : Node) → Placed t x → In x (nodes s t)
  unfolding nodes node
  nodes-in t x h =
      joined_in (map (at t) (instances s)) (at t x.path) x
      (map-in (at t) (instances s) x.path h.instance)
      (map-in (node x.path) (keep t (records_of s (definition_at s x.path))) x.place
      (keep-in t (records_of s (definition_at s x.path)) x.place h.inside h.passes))

  -- its record has a place, and is held by the definition of its instance
  pub node-place : {t : ℕ → Bool} {x : Node} → Placed t x → In x.place (places s)
  node-place {t} {x} h = (in-records s (definition_at s x.path) x.place h.inside).0

  pub node-holder : {t : ℕ → Bool} {x : Node} → Placed t x → holder s x.place ≡ definition_at s x.path
  node-holder {t} {x} h = (in-records s (definition_at s x.path) x.place h.inside).1

  -- ---- elements of the tree: an instance, and an element of its definition
  pub in_tree : (x : Node) → In x (tree_elements s) → In x.path (instances s) × In x.place (elements s (definition_at s x.path))
  unfolding tree_elements elements
  in_tree x i =
      let h = in-nodes (is_element s) x i in
      (h.instance, keep-in (is_element s) (records_of s (definition_at s x.path)) x.place h.inside h.passes)

  pub tree-in : (x : Node) → In x.path (instances s) → In x.place (elements s (definition_at s x.path)) → In x (tree_elements s)
  unfolding tree_elements elements
  tree-in x i j =
      let k = in-keep (is_element s) (records_of s (definition_at s x.path)) x.place j in
      nodes-in (is_element s) x (record { instance = i; inside = k.0; passes = k.1 })

  pub element-holder : (x : Node) → In x (tree_elements s) → holder s x.place ≡ definition_at s x.path
  unfolding tree_elements
  element-holder x i = node-holder (in-nodes (is_element s) x i)

  -- what a field of an element names is an element of the same instance
  of-instance : (x y : Node) (q : ℕ) (f : List ℕ) → In x (tree_elements s) → element_in s x.place f ≡ Some q → y ≡ node x.path q → In y (tree_elements s)
  unfolding node
  of-instance x y q f i e h =
      rw h
      (tree-in (record { path = x.path; place = q }) (in_tree x i).0
      (rw (element-holder x i) at (element-in s x.place f q e).2))

  pub parent_in : (x y : Node) → In x (tree_elements s) → parent_of s x ≡ Some y → In y (tree_elements s)
  unfolding parent_of
  parent_in x y i e =
      let r = some-map (node x.path) (element_in s x.place (parent_field s x.place)) y e in
      of-instance x y r.0 (parent_field s x.place) i r.1 r.2

  pub reference-in : (x y : Node) → In x (tree_elements s) → reference_of s x ≡ Some y → In y (tree_elements s)
  unfolding reference_of
  reference-in x y i e =
      let r = some-map (node x.path) (element_in s x.place (reference_field s x.place)) y e in
      of-instance x y r.0 (reference_field s x.place) i r.1 r.2
