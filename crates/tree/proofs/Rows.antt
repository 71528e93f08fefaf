-- What row 8 says of a recipe that it does not refuse: each target exists, in every definition.
-- Assumes nothing.
use Rattle.std.specs.Prelude.{None, Some, is_some}
use mathlib.Core.Path.{◌≡◌}
use Prim.Native.Nat.{ℕ}
use mathlib.Core.Bool.{true, ◌||◌}
use borrow.Author.Tests.{not-false}
use Rattle.names.specs.Lists.{In}
use Rattle.names.proofs.Tests.{and_none, is-some}
use Rattle.names.proofs.Lists.{none_first}
use Rattle.recipe.specs.Records.{Recipe, places, is_port, is_mark}
use Rattle.tree.specs.Tree.{Node, target}
use Rattle.tree.specs.Faults.{is_target_fault, fault₈}

module _ (s : Recipe) where
  -- row 8: "target doesn't exist, in any definition" does not apply
  pub target-exists : fault₈ s ≡ None → (p : ℕ) → In p (places s) → is_mark s p || is_port s p ≡ true → (t : Node) × (target s p ≡ Some t)
  unfolding fault₈ is_target_fault
  target-exists h₈ p i k =
      is-some (target s p) (not-false (is_some (target s p)) (and_none (is_mark s p || is_port s p) _ k (none_first (is_target_fault s) (places s) p h₈ i)))
