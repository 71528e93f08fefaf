-- The height of a definition is enough: no more records than it lead from a port or mark of the definition to its target.
-- Assumes nothing.
use Prim.Native.Nat.{◌+◌, ◌<◌, ◌≤◌, suc, zero, ℕ}
use lib.ListN.{get_or, length}
use mathlib.Core.List.{List}
use mathlib.Core.Path.{◌∙◌, ◌≡◌, ap, sym}
use native.Mathlib.Omega.{arith}
use Rattle.names.specs.Lists.{In}
use Rattle.recipe.specs.Definitions.{definitions, holder}
use Rattle.recipe.specs.Reaching.{Reach, direct, onward}
use Rattle.recipe.specs.Records.{Recipe, places}
use Rattle.recipe.proofs.Definitions.{holder_in, in-ports}
use Rattle.recipe.proofs.Reaching.{reach-in}
use Rattle.shadow.specs.Columns.{Measured}
use Rattle.tree.specs.Tree.{target, target_within}
use Rattle.tree.proofs.Targets.{by-same, target-suffices}

module _ {s : Recipe} {t : List ℕ} (M : Measured s t) where
  reach-falls : {d e : ℕ} → Reach s d e → get_or t (e + 6) 0 < get_or t (d + 6) 0
  reach-falls {d} {e} (direct m i q) = rw q at (M.heights.falls d m i)
  reach-falls {d} {e} (onward m i r) = omega (arith, reach-falls r, M.heights.falls d m i)

  -- a port below stands in a definition that is reached, whose height is smaller
  enough : (a b r : ℕ) → In (holder s r) (definitions s) → get_or t (holder s r + 6) 0 ≤ a → get_or t (holder s r + 6) 0 ≤ b → target_within a s r ≡ target_within b s r
  unfolding target_within
  enough zero b r i l k = absurd (omega (arith, M.heights.some (holder s r) i))
  enough (suc a) zero r i l k = absurd (omega (arith, M.heights.some (holder s r) i))
  enough (suc a) (suc b) r i l k =
      by-same s (target_within a s) (target_within b s) r
      (λ e c q u.
      let held : e ≡ holder s q = sym (in-ports s e q u).held in
      let fall = reach-falls c in
      let same : get_or t (e + 6) 0 ≡ get_or t (holder s q + 6) 0 = ap (λ (d : ℕ). get_or t (d + 6) 0) held in
      enough a b q (rw held at (reach-in s c)) (omega arith) (omega arith))

  -- more records than its definition is high change nothing
  pub target-by-height : (n r : ℕ) → In r (places s) → get_or t (holder s r + 6) 0 ≤ n → target s r ≡ target_within n s r
  target-by-height n r i l =
      sym (target-suffices s M.row₆ n r i) ∙ enough (length (definitions s) + n) n r (holder_in s r i) (omega arith) l
