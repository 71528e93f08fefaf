-- What is gone by 01's sentence and what is gone by the test are the same elements of the tree, where row 5 does not apply.
-- Assumes nothing.
use Rattle.std.specs.Prelude.{None}
use mathlib.Core.Path.{◌≡◌}
use mathlib.Core.Logic.{⊎_elim}
use mathlib.Core.Bool.{true, false, ◌||◌, false≢true}
use Rattle.names.specs.Lists.{In, holds}
use Rattle.names.proofs.Tests.{by-option, not-both, or_left, or_right, or_cases}
use Rattle.names.proofs.Lists.{any-in, any_some}
use Rattle.recipe.specs.Records.{Recipe}
use Rattle.recipe.specs.Reading.{fault₅}
use Rattle.tree.specs.Tree.{Node, tree_elements, parent_of}
use Rattle.tree.proofs.Nodes.{parent_in}
use Rattle.marks.specs.Marks.{tree_marks, owns_by, removes, Gone, removed, owns, child, is_marked_gone, is_gone}
use Rattle.marks.proofs.Survivors.{gone-child}

module _ (s : Recipe) where
  -- by a mark of its own
  marked-gone : (x : Node) → is_marked_gone s x ≡ true → Gone s x
  unfolding is_marked_gone
  marked-gone x e =
      let m = any_some (λ r. removes s x r || owns_by s x r) (tree_marks s) e in
      ⊎_elim
      (λ (h : removes s x m.0 ≡ true). removed m.0 m.1 h)
      (λ (h : owns_by s x m.0 ≡ true). owns m.0 m.1 h)
      (or_cases (removes s x m.0) _ m.2)

  mark-gone : (x r : Node) → In r (tree_marks s) → removes s x r || owns_by s x r ≡ true → is_gone s x ≡ true
  unfolding is_gone is_marked_gone
  mark-gone x r i e = or_left (is_marked_gone s x) _ (any-in (λ q. removes s x q || owns_by s x q) (tree_marks s) r i e)

  -- what the test finds is gone
  pub found-gone : (x : Node) → is_gone s x ≡ true → Gone s x
  unfolding is_gone
  found-gone x g =
      ⊎_elim
      (marked-gone x)
      (λ (h : holds (is_marked_gone s) (parent_of s x) ≡ true).
      by-option (parent_of s x) (λ e. absurd (false≢true (rw e at h))) (λ y e. child e (marked-gone y (rw e at h))))
      (or_cases (is_marked_gone s x) _ g)

  module _ (h₅ : fault₅ s ≡ None) where
    -- what is gone is found by the test: a reaction has no parent, so no child lies deeper
    pub gone-found : (x : Node) → In x (tree_elements s) → Gone s x → is_gone s x ≡ true
    gone-found x i (removed r j e) = mark-gone x r j (or_left (removes s x r) _ e)
    gone-found x i (owns r j e) = mark-gone x r j (or_right (removes s x r) _ e)
    gone-found x i (child {y = y} e g) = gone-child s h₅ x y i e (gone-found y (parent_in s x y i e) g)

    -- "The others survive"
    pub not-gone : (x : Node) → In x (tree_elements s) → is_gone s x ≡ false → Gone s x → ⊥
    not-gone x i e g = not-both (gone-found x i g) e
