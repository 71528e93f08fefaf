-- The elements of the tree by their numbers: which element has the number e, and what its row says of it.
-- Assumes nothing.
use Rattle.std.specs.Prelude.{None}
use Prim.Native.Nat.{◌*◌, ◌+◌, ◌<◌, ◌≤◌, ℕ}
use native.Mathlib.Omega.{arith}
use lib.ListN.{get_or, length}
use mathlib.Core.List.{List, []}
use mathlib.Core.Path.{◌≡◌, ◌∙◌, ap, sym}
use Rattle.names.specs.Lists.{In}
use Rattle.names.proofs.Lists.{get_or-in}
use Rattle.recipe.specs.Records.{Recipe}
use Rattle.tree.specs.Faults.{fault₇}
use Rattle.tree.specs.Numbers.{number}
use Rattle.tree.specs.Tree.{Node, instances, node, tree_elements}
use Rattle.tree.proofs.Nodes.{node-eq}
use Rattle.elements.specs.Columns.{ElementRows}
use Rattle.tree.proofs.Numbering.{number-inj}
use Rattle.elements.proofs.Elements.{element-number as number_at, number-low}
use Rattle.composer.specs.Writing.{element_at}

module _ (s : Recipe) (h₇ : fault₇ s ≡ None) where
  pub element-in : (e : ℕ) → e < length (tree_elements s) → In (element_at s e) (tree_elements s)
  unfolding element_at
  element-in e l = get_or-in (tree_elements s) e (node [] 0) l

  pub element-number : (e : ℕ) → e < length (tree_elements s) → number s (element_at s e) ≡ e
  unfolding element_at
  element-number e l = number_at s h₇ e l

  pub element-is : (x : Node) → In x (tree_elements s) → (number s x < length (tree_elements s)) × (element_at s (number s x) ≡ x)
  element-is x i =
      let l = number-low s h₇ x i in
      (l, number-inj s h₇ (element_at s (number s x)) x (element-in (number s x) l) i (element-number (number s x) l))

-- the row of the element of number k
module _ {s : Recipe} {el : List ℕ} (h₇ : fault₇ s ≡ None) (R : ElementRows s el) (k : ℕ) (l : k < length (tree_elements s)) where
  pub at-number : (j : ℕ) → get_or el (5 * number s (element_at s k) + j) 0 ≡ get_or el (5 * k + j) 0
  at-number j = ap (λ (n : ℕ). get_or el (5 * n + j) 0) (element-number s h₇ k l)

  pub row_room : 5 * k + 5 ≤ length el
  row_room = omega (arith, R.room)

  pub record_is : {q : ℕ} → q ≡ get_or el (5 * k + 0) 0 → q ≡ (element_at s k).place
  record_is h = h ∙ sym (at-number 0) ∙ R.records (element_at s k) (element-in s h₇ k l)

  pub instance-low : {i : ℕ} → i ≡ get_or el (5 * k + 1) 0 → i < length (instances s)
  instance-low {i} h = omega (arith, h, at-number 1, R.within (element_at s k) (element-in s h₇ k l))

  pub path-is : {i : ℕ} → i ≡ get_or el (5 * k + 1) 0 → get_or (instances s) i [] ≡ (element_at s k).path
  path-is {i} h = ap (λ (j : ℕ). get_or (instances s) j []) (h ∙ sym (at-number 1)) ∙ R.paths (element_at s k) (element-in s h₇ k l)

  pub site-is : {i q : ℕ} → i ≡ get_or el (5 * k + 1) 0 → q ≡ get_or el (5 * k + 0) 0 → node (get_or (instances s) i []) q ≡ element_at s k
  unfolding node
  site-is h r = node-eq (path-is h) (record_is r)
