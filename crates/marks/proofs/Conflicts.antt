-- What rows 3, 5, 6 and 9 give of the steps of a chain, and so the five-step limit.
-- Assumes nothing.
use Rattle.std.specs.Prelude.{None, Some}
use mathlib.Core.Path.{◌≡◌, refl, sym, ap, ◌∙◌}
use mathlib.Core.Logic.{inr}
use Prim.Native.Nat.{ℕ, ◌+◌, ◌≤◌, ◌<◌}
use native.Mathlib.Omega.{arith}
use mathlib.Core.Bool.{Bool, true, false, ◌&&◌, ◌||◌}
use mathlib.Core.List.{List, [], ◌∷◌}
use lib.ListN.{length}
use lib.Dec.{eqb, ltb}
use borrow.Author.Tests.{lt-ltb, eq-eqb}
use Rattle.names.specs.Lists.{In, any}
use Rattle.names.proofs.Tests.{not-both, three, and_left, and_right, and_none, both, or_left, or_right}
use Rattle.names.proofs.Lists.{none_first, not-any}
use Rattle.recipe.specs.Records.{Recipe, places, is_replacement, is_replaced_by}
use Rattle.recipe.specs.Definitions.{definitions, holder, owner_of}
use Rattle.recipe.specs.Reading.{fault₃, fault₅, fault₆}
use Rattle.recipe.proofs.Definitions.{in-elements, holder_in}
use Rattle.recipe.proofs.Rows.{replaced-by-mark, two_records, mark-submodel, owner-element, no-cycle}
use Rattle.tree.specs.Tree.{Node, node, target, definition_below, tree_elements}
use Rattle.tree.specs.Faults.{fault₇}
use Rattle.tree.proofs.Nodes.{same-node, in_tree}
use Rattle.tree.proofs.Instances.{depth}
use Rattle.tree.proofs.Targets.{Walk, walk-holder, walk-reach, target-walk, target_below_lem}
use Rattle.marks.specs.Marks.{tree_marks, tree_pointers, from, aim, aims_at, same_aim, owner, owns_by, replaces, step, Chain, chain_within, chain_end, marks_clash, owner_clash, conflict}
use Rattle.marks.specs.Faults.{conflicts_with_earlier, fault₉}
use Rattle.marks.proofs.Marks.{mark-pointer, mark-place, is-mark, aim-target, aims, aimed, above}
use Rattle.marks.proofs.Chain.{Steps, chain-ends, chain_more, chain-is, chain-of}

module _ (s : Recipe) where
  -- ---- clashes are conflicts
  pub marks-conflict : (q r : Node) → marks_clash s q r ≡ true → conflict s q r ≡ true
  unfolding conflict
  marks-conflict q r e = or_left _ _ (or_left _ _ (or_left _ _ (or_left _ _ (or_left (marks_clash s q r) _ e))))

  pub owner-conflict : (q r : Node) → owner_clash s q r ≡ true → conflict s q r ≡ true
  unfolding conflict
  owner-conflict q r e = or_left _ _ (or_left _ _ (or_left _ _ (or_left _ _ (or_right (marks_clash s q r) (owner_clash s q r) e))))

  pub owner-conflict' : (q r : Node) → owner_clash s q r ≡ true → conflict s r q ≡ true
  unfolding conflict
  owner-conflict' q r e = or_left _ _ (or_left _ _ (or_left _ _ (or_right (marks_clash s r q || owner_clash s r q) (owner_clash s q r) e)))

  -- ---- row 9
  module _ (h₉ : fault₉ s ≡ None) where
    -- no conflict with an earlier record
    pub no-conflict : (q r : Node) → In q (tree_pointers s) → In r (tree_pointers s) → In r.place (places s) → q.place < r.place → conflict s q r ≡ false
    unfolding fault₉ conflicts_with_earlier
    no-conflict q r i j k l =
        let inner : Node → Node → Bool = λ r' q'. ltb q'.place r.place && conflict s q' r' in
        let one = not-any (λ r'. eqb r'.place r.place && any (inner r') (tree_pointers s)) (tree_pointers s) r
        (none_first (conflicts_with_earlier s) (places s) r.place h₉ k) j in
        let two = and_none (eqb r.place r.place) (any (inner r) (tree_pointers s)) (eq-eqb r.place r.place refl) one in
        and_none (ltb q.place r.place) (conflict s q r) (lt-ltb q.place r.place l) (not-any (inner r) (tree_pointers s) q two i)

    -- of two marks
    apart_marks : (q r : Node) → In q (tree_marks s) → In r (tree_marks s) → q.place < r.place → conflict s q r ≡ true → ⊥
    apart_marks q r i j l e = not-both e (no-conflict q r (mark-pointer s q i) (mark-pointer s r j) (mark-place s r j) l)

    -- the target of a replaced-by is no replacement's
    no-replacement : (y q r : Node) → In q (tree_marks s) → In r (tree_marks s) → is_replaced_by s r.place ≡ true → aim s r ≡ Some y
        → replaces s y q ≡ true → ⊥
    unfolding replaces marks_clash same_aim
    no-replacement y q r i j k e f =
        let rep : is_replacement s q.place ≡ true = and_left (is_replacement s q.place) _ f in
        let a : aims_at s q y ≡ true = and_right (is_replacement s q.place) _ f in
        let qr : same_aim s q r ≡ true = rw e a in
        let rq : same_aim s r q ≡ true = rw (aims s q y a) (aimed s r y e) in
        three q.place r.place
        (λ l. apart_marks q r i j l (marks-conflict q r (both (both (is-mark s q i) (is-mark s r j)) qr)))
        (λ l. two_records s q.place r.place rep k l)
        (λ l. apart_marks r q j i l (marks-conflict r q (both (both (is-mark s r j) (is-mark s q i)) rq)))

    module _ (h₃ : fault₃ s ≡ None) (h₅ : fault₅ s ≡ None) (h₆ : fault₆ s ≡ None) where
      -- row 6: no walk leads from a definition to itself
      no_loop : (d : ℕ) (path : List ℕ) (e : ℕ) → Walk s d path e → 1 ≤ length path → In d (definitions s) → definition_below s d path ≡ d → ⊥
      no_loop d [] e w l i h = omega arith
      no_loop d (k ∷ path) e w l i h = no-cycle s h₆ d i (rw h at (walk-reach s d k path e w))

      -- so a replaced-by's owner is not its own target in another instance
      not_own : (p : ℕ) (t : Node) → In p (places s) → is_replaced_by s p ≡ true → target s p ≡ Some t → owner_of s p ≡ t.place → ⊥
      not_own p t i b e o =
          let w = target-walk s p t e in
          let n = target_below_lem s p t (mark-submodel s h₃ p i (replaced-by-mark s p b)) e in
          let held : holder s t.place ≡ holder s p =
          ap (holder s) (sym o) ∙ (in-elements s (holder s p) (owner_of s p) (owner-element s h₅ p i (inr b))).held in
          no_loop (holder s p) t.path t.place w n (holder_in s p i) (sym (walk-holder s (holder s p) t.path t.place w) ∙ held)

      -- the target of a replaced-by owns none
      no-replaced-by : (y q r : Node) → In q (tree_marks s) → In r (tree_marks s) → is_replaced_by s r.place ≡ true → aim s r ≡ Some y
          → owns_by s y q ≡ true → ⊥
      unfolding owns_by owner_clash owner from node
      no-replaced-by y q r i j k e f =
          let by : is_replaced_by s q.place ≡ true = and_left (is_replaced_by s q.place) _ f in
          let o : y ≡ owner s q = same-node y (owner s q) (and_right (is_replaced_by s q.place) _ f) in
          let c : owner_clash s q r ≡ true = both by (aimed s r (owner s q) (e ∙ ap Some o)) in
          three q.place r.place
          (λ l. apart_marks q r i j l (owner-conflict q r c))
          (λ p.
          let t = aim-target s r y e in
          not_own r.place t.0 (mark-place s r j) k t.1
          (ap (owner_of s) (sym p) ∙ (sym (ap (λ (n : Node). n.place) o) ∙ ap (λ (n : Node). n.place) t.2)))
          (λ l. apart_marks r q j i l (owner-conflict' q r c))

      pub steps : Steps s
      steps = record { above = above s h₃; no-replacement = no-replacement; no-replaced-by = no-replaced-by }

      -- "no chain from any element of the tree has more than five steps": after five it has ended
      pub five-steps : fault₇ s ≡ None → (x : Node) → In x (tree_elements s) → step s (chain_end s x) ≡ None
      five-steps h₇ x i = chain-ends s steps x (depth s h₇ x.path (in_tree s x i).0)

      -- in other words: each chain from an element of the tree has at most five steps, and ends at its `chain_end`
      pub chain_length : fault₇ s ≡ None → (k : ℕ) (x z : Node) → In x (tree_elements s) → Chain s k x z → (k ≤ 5) × (z ≡ chain_end s x)
      unfolding chain_end
      chain_length h₇ k x z i c = chain-is s 5 k x z (five-steps h₇ x i) c

      pub chain-exists : fault₇ s ≡ None → (x : Node) → In x (tree_elements s) → (k : ℕ) × Chain s k x (chain_end s x)
      unfolding chain_end
      chain-exists h₇ x i = chain-of s 5 x (five-steps h₇ x i)

      -- so more steps change nothing
      pub chain-suffices : fault₇ s ≡ None → (k : ℕ) (x : Node) → In x (tree_elements s) → chain_within (5 + k) s x ≡ chain_end s x
      unfolding chain_end
      chain-suffices h₇ k x i = chain_more s 5 (5 + k) x (omega arith) (five-steps h₇ x i)
