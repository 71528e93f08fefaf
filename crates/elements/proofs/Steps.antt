-- Where rows 4, 5 and 9 are clear, an element's step in the chain is given by one mark: so a table of steps may be filled mark by mark.
-- Assumes nothing.
use Rattle.std.specs.Prelude.{None, Some}
use Prim.Native.Nat.{◌<◌, suc, ℕ}
use borrow.Author.Tests.{eq-eqb, lt-ltb}
use mathlib.Core.Bool.{◌&&◌, ◌||◌, false, true}
use mathlib.Core.List.{◌++◌, append_cancel_right}
use mathlib.Core.Path.{◌∙◌, ◌≡◌, ap, sym}
use native.Mathlib.Decide.{dec_le}
use native.Mathlib.Omega.{arith}
use Rattle.names.specs.Lists.{In, any, first}
use Rattle.names.specs.Names.{text}
use Rattle.names.proofs.Lists.{none_first, not-any, same_refl, some_first}
use Rattle.names.proofs.Tests.{and_left, and_right, both, by-option, not-both, or_right, the-some}
use Rattle.recipe.specs.Definitions.{holder, is_declared, owner_of}
use Rattle.recipe.specs.Reading.{fault₄, fault₅, repeats, share_names}
use Rattle.recipe.specs.Records.{Recipe, first_field, is_model, is_port, is_replaced_by, is_replacement, name, places}
use Rattle.recipe.proofs.Rows.{owner-name, two_records}
use Rattle.tree.specs.Tree.{Node, definition_at, node, target}
use Rattle.tree.proofs.Nodes.{node-eq, node-same, same-node}
use Rattle.marks.specs.Faults.{fault₉}
use Rattle.marks.specs.Marks.{aim, from, marks_clash, owner, owner_clash, owns_by, replaces, same_aim, step, step_down, tree_marks}
use Rattle.marks.proofs.Conflicts.{marks-conflict, no-conflict, owner-conflict, owner-conflict'}
use Rattle.marks.proofs.Marks.{aim-target, aimed, aims, is-mark, mark-place, mark-pointer, pointer-holder}

module _ (s : Recipe) (h₄ : fault₄ s ≡ None) (h₅ : fault₅ s ≡ None) (h₉ : fault₉ s ≡ None) where
  -- two marks with one target are one
  pub one-mark : (q r x : Node) → In q (tree_marks s) → In r (tree_marks s) → aim s q ≡ Some x → aim s r ≡ Some x → q ≡ r
  unfolding marks_clash same_aim from node
  one-mark q r x i j a b =
      let qr : same_aim s q r ≡ true = rw b (aimed s q x a) in
      let rq : same_aim s r q ≡ true = rw a (aimed s r x b) in
      let place : q.place ≡ r.place = elim (dec_le (suc q.place) r.place) [
        | yes l ↦ absurd (not-both (marks-conflict s q r (both (both (is-mark s q i) (is-mark s r j)) qr))
            (no-conflict s h₉ q r (mark-pointer s q i) (mark-pointer s r j) (mark-place s r j) l))
        | no l ↦ elim (dec_le (suc r.place) q.place) [
          | yes l' ↦ absurd (not-both (marks-conflict s r q (both (both (is-mark s r j) (is-mark s q i)) rq))
              (no-conflict s h₉ r q (mark-pointer s r j) (mark-pointer s q i) (mark-place s q i) l'))
          | no l' ↦ omega arith
        ]
      ] in
      let t = aim-target s q x a in
      let u = aim-target s r x b in
      let v : t.0 ≡ u.0 = the-some (sym t.1 ∙ ap (target s) place ∙ u.1) in
      let w : q.path ++ t.0.path ≡ r.path ++ t.0.path =
      ap (λ (n : Node). n.path) (sym t.2 ∙ u.2) ∙ ap (λ (n : Node). r.path ++ n.path) (sym v) in
      node-eq {x = q} {y = r} (append_cancel_right q.path r.path t.0.path w) place

  -- a replaced-by's owner is no mark's target
  pub owner-free : (q r x : Node) → In q (tree_marks s) → In r (tree_marks s) → is_replacement s q.place ≡ true → is_replaced_by s r.place ≡ true
      → aim s q ≡ Some (owner s r) → ⊥
  unfolding owner_clash
  owner-free q r x i j k b a =
      let c : owner_clash s r q ≡ true = both b (aimed s q (owner s r) a) in
      elim (dec_le (suc q.place) r.place) [
        | yes l ↦ not-both (owner-conflict' s r q c) (no-conflict s h₉ q r (mark-pointer s q i) (mark-pointer s r j) (mark-place s r j) l)
        | no l ↦ elim (dec_le (suc r.place) q.place) [
          | yes l' ↦ not-both (owner-conflict s r q c) (no-conflict s h₉ r q (mark-pointer s r j) (mark-pointer s q i) (mark-place s q i) l')
          | no l' ↦ two_records s q.place r.place k b (omega arith)
        ]
      ]

  -- a replacement gives its target's step
  pub step-up : (r x : Node) → In r (tree_marks s) → is_replacement s r.place ≡ true → aim s r ≡ Some x → step s x ≡ Some (owner s r)
  unfolding step replaces
  step-up r x i k a =
      by-option (first (replaces s x) (tree_marks s))
      (λ p. absurd (not-both (both k (aimed s r x a)) (none_first (replaces s x) (tree_marks s) r p i)))
      (λ q p.
      let f = some_first (replaces s x) (tree_marks s) q p in
      let e : q ≡ r = one-mark q r x f.0 i (aims s q x (and_right (is_replacement s q.place) _ f.1)) a in
      rw (p, step) (ap (λ (n : Node). Some (owner s n)) e))

  -- no mark, no step
  pub step-none : (x : Node) → ((r : Node) → In r (tree_marks s) → replaces s x r ≡ false) → ((r : Node) → In r (tree_marks s) → owns_by s x r ≡ false) → step s x ≡ None
  unfolding step step_down
  step-none x a b =
      by-option (first (replaces s x) (tree_marks s))
      (λ p. by-option (first (owns_by s x) (tree_marks s))
      (λ p'. rw (p, step, p', step_down))
      (λ q p'. let f = some_first (owns_by s x) (tree_marks s) q p' in absurd (not-both f.1 (b q f.0))))
      (λ q p. let f = some_first (replaces s x) (tree_marks s) q p in absurd (not-both f.1 (a q f.0)))

  -- row 4: two replaced-bys of one definition with one owner are one record
  no-repeat : (p q : ℕ) → In p (places s) → In q (places s) → is_replaced_by s p ≡ true → is_replaced_by s q ≡ true → holder s q ≡ holder s p → text (first_field s q) ≡ text (first_field s p)
      → q < p → ⊥
  unfolding fault₄ repeats share_names name
  no-repeat p q i j a b h n l =
      let one = none_first (λ z. any (repeats s z) (places s)) (places s) p h₄ i in
      let two = not-any (repeats s p) (places s) q one j in
      not-both
      (both (both (lt-ltb q p l) (rw n (same_refl (text (first_field s p)))))
      (or_right (is_model s q && is_model s p) _ (both (eq-eqb (holder s q) (holder s p) h) (or_right (is_declared s q && is_declared s p || is_port s q && is_port s p) _ (both b a)))))
      two

  pub one-owner : (q r : Node) → In q (tree_marks s) → In r (tree_marks s) → is_replaced_by s q.place ≡ true → is_replaced_by s r.place ≡ true → owner s q ≡ owner s r → q ≡ r
  unfolding owner node
  one-owner q r i j a b e =
      let path : q.path ≡ r.path = ap (λ (n : Node). n.path) e in
      let o : owner_of s q.place ≡ owner_of s r.place = ap (λ (n : Node). n.place) e in
      let h : holder s q.place ≡ holder s r.place = pointer-holder s q (mark-pointer s q i) ∙ ap (definition_at s) path ∙ sym (pointer-holder s r (mark-pointer s r j)) in
      let n : text (first_field s q.place) ≡ text (first_field s r.place) =
      sym (owner-name s h₅ q.place (mark-place s q i) a) ∙ ap (name s) o ∙ owner-name s h₅ r.place (mark-place s r j) b in
      node-eq {x = q} {y = r} path (elim (dec_le (suc q.place) r.place) [
        | yes l ↦ absurd (no-repeat r.place q.place (mark-place s r j) (mark-place s q i) b a h n l)
        | no l ↦ elim (dec_le (suc r.place) q.place) [
          | yes l' ↦ absurd (no-repeat q.place r.place (mark-place s q i) (mark-place s r j) a b (sym h) (sym n) l')
          | no l' ↦ omega arith
        ]
      ])

  -- a replaced-by gives its owner's step
  pub step_down_lem : (r : Node) → In r (tree_marks s) → is_replaced_by s r.place ≡ true → step s (owner s r) ≡ aim s r
  unfolding step step_down replaces owns_by
  step_down_lem r i b =
      by-option (first (replaces s (owner s r)) (tree_marks s))
      (λ p. by-option (first (owns_by s (owner s r)) (tree_marks s))
      (λ p'. absurd (not-both (both b (node-same (owner s r))) (none_first (owns_by s (owner s r)) (tree_marks s) r p' i)))
      (λ q p'.
      let f = some_first (owns_by s (owner s r)) (tree_marks s) q p' in
      let c : is_replaced_by s q.place ≡ true = and_left (is_replaced_by s q.place) _ f.1 in
      let e : owner s q ≡ owner s r = sym (same-node (owner s r) (owner s q) (and_right (is_replaced_by s q.place) _ f.1)) in
      rw (p, step, p', step_down) (ap (aim s) (one-owner q r f.0 i c b e))))
      (λ q p.
      let f = some_first (replaces s (owner s r)) (tree_marks s) q p in
      let k : is_replacement s q.place ≡ true = and_left (is_replacement s q.place) _ f.1 in
      absurd (owner-free q r r f.0 i k b (aims s q (owner s r) (and_right (is_replacement s q.place) _ f.1))))
