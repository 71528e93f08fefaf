-- A chain followed by the column of steps: where it is after some of its five steps.
-- Assumes nothing.
use Rattle.std.specs.Prelude.{None, Some}
use Prim.Native.Nat.{◌*◌, ◌+◌, ◌≤◌, suc, zero, ℕ}
use lib.ListN.{get_or, length}
use mathlib.Core.List.{List}
use mathlib.Core.Path.{◌∙◌, ◌≡◌, ap, refl, sym}
use native.Mathlib.Omega.{arith}
use Rattle.names.specs.Lists.{In}
use Rattle.names.proofs.Tests.{by-option}
use Rattle.recipe.specs.Reading.{fault₅}
use Rattle.recipe.specs.Records.{Recipe}
use Rattle.tree.specs.Faults.{fault₇}
use Rattle.tree.specs.Numbers.{number}
use Rattle.tree.specs.Tree.{Node, tree_elements}
use Rattle.elements.specs.Columns.{Nexts}
use Rattle.marks.specs.Marks.{chain_end, chain_within, step}
use Rattle.tree.specs.Steps.{next_of}
use Rattle.elements.specs.Steps.{step_of}
use Rattle.tree.proofs.Nexts.{next-some, next-suc}
use Rattle.references.specs.Ends.{Stepping, followed}
use Rattle.elements.proofs.Elements.{element-at, number-low}
use Rattle.marks.proofs.Marks.{step_in}

-- ---- what the code needs of each step
pub follow-end : (el : List ℕ) (n : ℕ) {z : ℕ} → next_of (get_or el (5 * z + 3) 0) ≡ None → followed el n z ≡ z
unfolding followed
follow-end el zero h = refl
follow-end el (suc n) h = rw (followed, h)

pub follow-more : (el : List ℕ) (z : ℕ) {n m y : ℕ} → n ≡ suc m → next_of (get_or el (5 * z + 3) 0) ≡ Some y → followed el n z ≡ followed el m y
unfolding followed
follow-more el z q h = rw (q, followed, h)

pub follow-last : (el : List ℕ) (n : ℕ) {z : ℕ} → n ≤ 0 → followed el n z ≡ z
unfolding followed
follow-last el zero l = refl
follow-last el (suc n) l = absurd (omega arith)

pub stepping-on : {el : List ℕ} {z y : ℕ} → Stepping el z → next_of (get_or el (5 * z + 3) 0) ≡ Some y → Stepping el y
stepping-on {z = z} S h = let n = next-some h in record { elems = S.elems; low = omega (arith, S.within z S.low, n); room = S.room; within = S.within }

-- ---- it is the chain
module _ (s : Recipe) (h₅ : fault₅ s ≡ None) (h₇ : fault₇ s ≡ None) (el : List ℕ) (G : Nexts s el) where
  chain-law : (n : ℕ) (x : Node) → In x (tree_elements s) → followed el n (number s x) ≡ number s (chain_within n s x)
  unfolding followed next_of chain_within step_of
  chain-law zero x i = refl
  chain-law (suc n) x i =
      by-option (step s x)
      (λ p.
      let g : get_or el (5 * number s x + 3) 0 ≡ 0 = G x i ∙ rw (p, step_of) in
      let k : chain_within (suc n) s x ≡ x = rw (p, chain_within) in
      follow-end el (suc n) (rw g) ∙ ap (number s) (sym k))
      (λ y p.
      let g : get_or el (5 * number s x + 3) 0 ≡ number s y + 1 = G x i ∙ rw (p, step_of) in
      let k : chain_within (suc n) s x ≡ chain_within n s y = rw (p, chain_within) in
      follow-more el (number s x) refl (ap next_of g ∙ next-suc (number s y)) ∙ chain-law n y (step_in s h₅ h₇ x y p) ∙ ap (number s) (sym k))

  pub end-law : (x : Node) → In x (tree_elements s) → followed el 5 (number s x) ≡ number s (chain_end s x)
  unfolding chain_end
  end-law x i = chain-law 5 x i

  -- what `chain_end` requires
  pub stepping : (x : Node) → In x (tree_elements s) → 5 * length (tree_elements s) ≤ length el → Stepping el (number s x)
  unfolding step_of
  stepping x i l = record {
    elems = length (tree_elements s);
    low = number-low s h₇ x i;
    room = l;
    within = λ z h.
        let v = element-at s h₇ z h in
        by-option (step s v.0)
        (λ p. let g : get_or el (5 * number s v.0 + 3) 0 ≡ 0 = G v.0 v.1 ∙ rw (p, step_of) in omega (arith, rw v.2 at g))
        (λ y p.
        let g : get_or el (5 * number s v.0 + 3) 0 ≡ number s y + 1 = G v.0 v.1 ∙ rw (p, step_of) in
        omega (arith, rw v.2 at g, number-low s h₇ y (step_in s h₅ h₇ v.0 y p)));
  }
