-- A chain has at most five steps and stays in the tree, where the steps are as rows 3 to 9 leave them; more steps allowed change nothing.
-- Assumes nothing.
use Rattle.std.specs.Prelude.{None, Some}
use mathlib.Core.Path.{◌≡◌, refl, sym, ◌∙◌}
use mathlib.Core.Logic.{◌⊎◌, inl, inr, ⊎_elim}
use Prim.Native.Nat.{ℕ, zero, suc, ◌≤◌, ◌<◌}
use native.Mathlib.Omega.{arith}
use mathlib.Core.Bool.{true}
use lib.ListN.{length}
use Rattle.names.specs.Lists.{In, first}
use Rattle.names.proofs.Tests.{by-option, and_left, and_right, not_none}
use Rattle.names.proofs.Lists.{some_first}
use Rattle.recipe.specs.Records.{Recipe, is_replacement, is_replaced_by}
use Rattle.recipe.specs.Reading.{fault₅}
use Rattle.tree.specs.Tree.{Node, node, tree_elements}
use Rattle.tree.specs.Faults.{fault₇}
use Rattle.marks.specs.Marks.{tree_marks, aim, aims_at, owner, owns_by, replaces, step_down, step, Chain, end, then, chain_within, chain_end}
use Rattle.marks.proofs.Marks.{step_in}

-- where the chain is at an element with no step, it stays
pub chain-done : (s : Recipe) (n : ℕ) (x : Node) → step s x ≡ None → chain_within n s x ≡ x
unfolding chain_within
chain-done s zero x e = refl
chain-done s (suc n) x e = rw (e, chain_within)

-- once it has ended, more steps change nothing
pub chain_more : (s : Recipe) (n k : ℕ) (x : Node) → n ≤ k → step s (chain_within n s x) ≡ None → chain_within k s x ≡ chain_within n s x
unfolding chain_within
chain_more s zero k x l e = chain-done s k x e
chain_more s (suc n) zero x l e = absurd (omega arith)
chain_more s (suc n) (suc k) x l e =
    by-option (step s x)
    (λ p. rw (p, chain_within))
    (λ y p. rw (p, chain_within) (chain_more s n k y (omega arith) (rw (p, chain_within) at e)))

-- where it has ended after n steps, the chain has at most n, and ends there
pub chain-is : (s : Recipe) (n k : ℕ) (x z : Node) → step s (chain_within n s x) ≡ None → Chain s k x z → (k ≤ n) × (z ≡ chain_within n s x)
unfolding chain_within
chain-is s n zero x z e (end p) = (omega arith, sym (chain-done s n x p))
chain-is s zero (suc k) x z e (then p c) = not_none (sym e ∙ p)
chain-is s (suc n) (suc k) x z e (then {y = y} p c) =
    let r = chain-is s n k y z (rw (p, chain_within) at e) c in
    (omega (arith, r.0), rw (p, chain_within) r.1)

-- and there is such a chain
pub chain-of : (s : Recipe) (n : ℕ) (x : Node) → step s (chain_within n s x) ≡ None → (k : ℕ) × Chain s k x (chain_within n s x)
unfolding chain_within
chain-of s zero x e = (0, end e)
chain-of s (suc n) x e =
    by-option (step s x)
    (λ p. (0, rw (p, chain_within) (end p)))
    (λ y p. let r = chain-of s n y (rw (p, chain_within) at e) in (suc r.0, rw (p, chain_within) (then p r.1)))

-- each element on a chain from one of the tree is one of the tree
pub chain-in : (s : Recipe) → fault₅ s ≡ None → fault₇ s ≡ None → (n : ℕ) (x : Node) → In x (tree_elements s) → In (chain_within n s x) (tree_elements s)
unfolding chain_within
chain-in s h₅ h₇ zero x i = i
chain-in s h₅ h₇ (suc n) x i =
    by-option (step s x)
    (λ p. rw (p, chain_within) i)
    (λ y p. rw (p, chain_within) (chain-in s h₅ h₇ n y (step_in s h₅ h₇ x y p)))

-- What the absence of conflicts says of the steps: a mark's target lies below its owner's instance, and the target of a replaced-by has no step.
pub record Steps (s : Recipe) : Type 0 where
  pub above : (x r : Node) → In r (tree_marks s) → aims_at s r x ≡ true → length r.path < length x.path
  pub no-replacement : (y q r : Node) → In q (tree_marks s) → In r (tree_marks s) → is_replaced_by s r.place ≡ true → aim s r ≡ Some y
      → replaces s y q ≡ true → ⊥
  pub no-replaced-by : (y q r : Node) → In q (tree_marks s) → In r (tree_marks s) → is_replaced_by s r.place ≡ true → aim s r ≡ Some y
      → owns_by s y q ≡ true → ⊥

module _ (s : Recipe) (h : Steps s) where
  -- a step up
  abbrev Up : Node → Type 0
  Up x = (y : Node) × (step s x ≡ Some y) × (length y.path < length x.path)

  -- a step down, which is the last
  abbrev Down : Node → Type 0
  Down x = (y : Node) × (step s x ≡ Some y) × (step s y ≡ None)

  -- the target of a replaced-by has no step
  at_target : (y r : Node) → In r (tree_marks s) → is_replaced_by s r.place ≡ true → aim s r ≡ Some y → step s y ≡ None
  unfolding step step_down
  at_target y r i k e =
      by-option (first (replaces s y) (tree_marks s))
      (λ p. by-option (first (owns_by s y) (tree_marks s))
      (λ p'. rw (p, step, p', step_down))
      (λ q p'. let f = some_first (owns_by s y) (tree_marks s) q p' in absurd (h.no-replaced-by y q r f.0 i k e f.1)))
      (λ q p. let f = some_first (replaces s y) (tree_marks s) q p in absurd (h.no-replacement y q r f.0 i k e f.1))

  cases : (x : Node) → (step s x ≡ None) ⊎ (Up x ⊎ Down x)
  unfolding step step_down owner node replaces owns_by
  cases x =
      by-option (first (replaces s x) (tree_marks s))
      (λ p. by-option (first (owns_by s x) (tree_marks s))
      (λ p'. inl (rw (p, step, p', step_down)))
      (λ r p'.
      let f = some_first (owns_by s x) (tree_marks s) r p' in
      let k : is_replaced_by s r.place ≡ true = and_left (is_replaced_by s r.place) _ f.1 in
      by-option (aim s r)
      (λ e. inl (rw (p, step, p', step_down) e))
      (λ y e. inr (inr (y, rw (p, step, p', step_down) e, at_target y r f.0 k e)))))
      (λ r p.
      let f = some_first (replaces s x) (tree_marks s) r p in
      inr (inl (owner s r, rw (p, step), h.above x r f.0 (and_right (is_replacement s r.place) _ f.1))))

  -- "A chain's length is the number of its steps": at most one more than the depth
  pub ends : (n : ℕ) (x : Node) → length x.path ≤ n → step s (chain_within (suc n) s x) ≡ None
  unfolding chain_within
  ends zero x l =
      ⊎_elim (λ (e : step s x ≡ None). rw (e, chain_within) e)
      (⊎_elim (λ (c : Up x). absurd (omega (arith, c.2))) (λ (c : Down x). rw (c.1, chain_within) c.2))
      (cases x)
  ends (suc n) x l =
      ⊎_elim (λ (e : step s x ≡ None). rw (e, chain_within) e)
      (⊎_elim (λ (c : Up x). rw (c.1, chain_within) (ends n c.0 (omega (arith, c.2))))
      (λ (c : Down x). rw (c.1, chain_within) (rw (chain-done s (suc n) c.0 c.2) c.2)))
      (cases x)

  -- the chain from an element at most four deep has ended after five steps
  pub chain-ends : (x : Node) → length x.path ≤ 4 → step s (chain_end s x) ≡ None
  unfolding chain_end
  chain-ends x l = ends 4 x l
