-- The marks and ports of the tree and their targets.
-- Assumes nothing.
use Rattle.std.specs.Prelude.{None, Some, option_map}
use Prim.Native.Nat.{◌<◌, ◌≤◌, ℕ}
use lib.ListN.{length, length-append}
use mathlib.Core.Bool.{◌&&◌, ◌||◌, false≢true, true}
use mathlib.Core.List.{List, ◌++◌}
use mathlib.Core.Logic.{◌⊎◌, inl}
use mathlib.Core.Path.{◌∙◌, ◌≡◌, ap, sym}
use native.Mathlib.Omega.{arith}
use Rattle.names.specs.Lists.{In, begins, first}
use Rattle.names.proofs.Lists.{some_first, begins-rest}
use Rattle.names.proofs.Tests.{and_left, and_right, by-option, not_none, or_left, some-map, the-some}
use Rattle.recipe.specs.Definitions.{holder, main, owner_of}
use Rattle.recipe.specs.Reading.{fault₃, fault₅}
use Rattle.recipe.specs.Records.{Recipe, is_mark, is_port, is_replaced_by, is_replacement, places}
use Rattle.recipe.proofs.Rows.{mark-submodel, owner-element}
use Rattle.tree.specs.Faults.{fault₇, fault₈}
use Rattle.tree.specs.Tree.{Node, definition_at, node, target, tree_elements}
use Rattle.tree.proofs.Instances.{below-append, instance-path, is-instance, submodels-append}
use Rattle.tree.proofs.Nodes.{Placed, in-nodes, node-holder, node-place, node-same, nodes-in, same-node, tree-in}
use Rattle.tree.proofs.Rows.{target-exists}
use Rattle.tree.proofs.Targets.{target_below_lem, target-walk, walk-element, walk-submodels}
use Rattle.marks.specs.Marks.{aim, aims_at, from, is_at_or_below, owner, owns_by, port_clash, replaces, step, step_down, tree_marks, tree_pointers}

module _ (s : Recipe) where
  -- ---- a mark of the tree is one of its marks and ports, and its record has a place
  pub mark-placed : (r : Node) → In r (tree_marks s) → Placed s (is_mark s) r
  unfolding tree_marks
  mark-placed r i = in-nodes s (is_mark s) r i

  pub mark-pointer : (r : Node) → In r (tree_marks s) → In r (tree_pointers s)
  unfolding tree_pointers
  mark-pointer r i =
      let h = mark-placed r i in
      nodes-in s (λ p. is_mark s p || is_port s p) r
      (record { instance = h.instance; inside = h.inside; passes = or_left (is_mark s r.place) (is_port s r.place) h.passes })

  pub pointer-placed : (r : Node) → In r (tree_pointers s) → Placed s (λ p. is_mark s p || is_port s p) r
  unfolding tree_pointers
  pointer-placed r i = in-nodes s (λ p. is_mark s p || is_port s p) r i

  pub pointer-place : (r : Node) → In r (tree_pointers s) → In r.place (places s)
  pointer-place r i = node-place s (pointer-placed r i)

  pub pointer-holder : (r : Node) → In r (tree_pointers s) → holder s r.place ≡ definition_at s r.path
  pointer-holder r i = node-holder s (pointer-placed r i)

  pub mark-place : (r : Node) → In r (tree_marks s) → In r.place (places s)
  mark-place r i = node-place s (mark-placed r i)

  pub is-mark : (r : Node) → In r (tree_marks s) → is_mark s r.place ≡ true
  is-mark r i = (mark-placed r i).passes

  -- ---- the target of a mark or port of the tree
  pub aim-target : (r x : Node) → aim s r ≡ Some x → (t : Node) × (target s r.place ≡ Some t) × (x ≡ from r.path t)
  unfolding aim
  aim-target r x e = some-map (from r.path) (target s r.place) x e

  pub aims : (r x : Node) → aims_at s r x ≡ true → aim s r ≡ Some x
  unfolding aims_at
  aims r x e =
      by-option (aim s r)
      (λ p. absurd (false≢true (rw p at e)))
      (λ y p. p ∙ ap Some (sym (same-node x y (rw p at e))))

  pub aimed : (r x : Node) → aim s r ≡ Some x → aims_at s r x ≡ true
  unfolding aims_at
  aimed r x e = rw e (node-same x)

  -- a mark's target lies below its instance, where row 3 does not apply
  pub above : fault₃ s ≡ None → (x r : Node) → In r (tree_marks s) → aims_at s r x ≡ true → length r.path < length x.path
  unfolding from node
  above h₃ x r i e =
      let t = aim-target r x (aims r x e) in
      let l : 1 ≤ length t.0.path = target_below_lem s r.place t.0 (mark-submodel s h₃ r.place (mark-place r i) (is-mark r i)) t.1 in
      rw t.2 (omega (arith, length-append r.path t.0.path))

  -- "the mark's instance is the port's or lies below it": the mark's path is the port's and what leads further down
  pub at-or-below : (q r : Node) → port_clash s q r ≡ true → (rest : List ℕ) × (q.path ≡ r.path ++ rest)
  unfolding port_clash is_at_or_below
  at-or-below q r e =
      begins-rest r.path q.path
      (and_right (is_mark s q.place && is_port s r.place) _
      (and_left (is_mark s q.place && is_port s r.place && begins r.path q.path) _ e))

  -- ---- where row 7 does not apply, a mark's or port's target and a mark's owner are elements of the tree
  pub aim-in : fault₇ s ≡ None → (r x : Node) → In r (tree_pointers s) → aim s r ≡ Some x → In x (tree_elements s)
  unfolding from node definition_at
  aim-in h₇ r x i e =
      let t = aim-target r x e in
      let held : holder s r.place ≡ definition_at s r.path = pointer-holder r i in
      let w = rw held at (target-walk s r.place t.0 t.1) in
      rw t.2
      (tree-in s (record { path = r.path ++ t.0.path; place = t.0.place })
      (is-instance s h₇ (r.path ++ t.0.path)
      (submodels-append s main r.path t.0.path (instance-path s r.path (pointer-placed r i).instance)
      (walk-submodels s (definition_at s r.path) t.0.path t.0.place w)))
      (rw (below-append s main r.path t.0.path) (walk-element s (definition_at s r.path) t.0.path t.0.place w)))

  pub owner-in : fault₅ s ≡ None → (r : Node) → In r (tree_pointers s) → (is_replacement s r.place ≡ true) ⊎ (is_replaced_by s r.place ≡ true)
      → In (owner s r) (tree_elements s)
  unfolding owner node
  owner-in h₅ r i k =
      tree-in s (record { path = r.path; place = owner_of s r.place }) (pointer-placed r i).instance
      (rw (pointer-holder r i) at (owner-element s h₅ r.place (pointer-place r i) k))

  -- row 8: each mark or port of the tree has a target
  pub aim-some : fault₈ s ≡ None → (r : Node) → In r (tree_pointers s) → (t : Node) × (aim s r ≡ Some (from r.path t))
  unfolding aim
  aim-some h₈ r i =
      let t = target-exists s h₈ r.place (pointer-place r i) (pointer-placed r i).passes in
      (t.0, ap (option_map (from r.path)) t.1)

  -- so a step of the chain leads to an element of the tree
  pub step_in : fault₅ s ≡ None → fault₇ s ≡ None → (x y : Node) → step s x ≡ Some y → In y (tree_elements s)
  unfolding step step_down replaces
  step_in h₅ h₇ x y e =
      by-option (first (replaces s x) (tree_marks s))
      (λ p. by-option (first (owns_by s x) (tree_marks s))
      (λ p'. not_none (rw (p, step, p', step_down) at e))
      (λ r p'. aim-in h₇ r y (mark-pointer r (some_first (owns_by s x) (tree_marks s) r p').0) (rw (p, step, p', step_down) at e)))
      (λ r p.
      let q : owner s r ≡ y = the-some (rw (p, step) at e) in
      let f = some_first (replaces s x) (tree_marks s) r p in
      rw (sym q) (owner-in h₅ r (mark-pointer r f.0) (inl (and_left (is_replacement s r.place) _ f.1))))
