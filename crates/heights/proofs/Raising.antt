-- Heights that fall along submodel records: where there are some, no definition reaches itself.
-- Assumes nothing.
use Rattle.std.specs.Prelude.{None}
use mathlib.Core.Path.{◌≡◌, refl}
use Prim.Native.Nat.{ℕ, ◌+◌, ◌<◌}
use native.Mathlib.Omega.{arith}
use mathlib.Core.Bool.{false}
use mathlib.Core.List.{List, [], ◌∷◌}
use lib.ListN.{get_or}
use Rattle.names.proofs.Tests.{by_cases}
use Rattle.names.proofs.Lists.{first-none}
use Rattle.recipe.specs.Records.{Recipe}
use Rattle.recipe.specs.Definitions.{definitions}
use Rattle.recipe.specs.Reaching.{Reach, direct, onward, reaches}
use Rattle.recipe.specs.Reading.{fault₆}
use Rattle.recipe.proofs.Reaching.{reaches-plain}
use Rattle.shadow.specs.Shadow.{Kept}
use Rattle.shadow.specs.Columns.{Linked, Paired, Heights, Measured}
use Rattle.shadow.proofs.Columns.{paired-over}
use Rattle.heights.proofs.Settling.{linked-heights}

module _ (s : Recipe) {t : List ℕ} (h : Heights s t) where
  -- ---- heights fall along all that is reached, so none reaches itself
  pub reach-falls : {d e : ℕ} → Reach s d e → get_or t (e + 6) 0 < get_or t (d + 6) 0
  reach-falls {d} {e} (direct m i q) = rw q at (h.falls d m i)
  reach-falls {d} {e} (onward m i r) = omega (arith, reach-falls r, h.falls d m i)

  no_loop : (d : ℕ) → reaches s d d ≡ false
  no_loop d = by_cases (reaches s d d) (λ e. absurd (omega (arith, reach-falls (reaches-plain s d d e)))) (λ e. e)

  pub none-6 : fault₆ s ≡ None
  unfolding fault₆
  none-6 = first-none (λ d. reaches s d d) (definitions s) (λ d i. no_loop d)

-- ---- the heights besides what was known
pub measured : {s : Recipe} {t₀ t : List ℕ} → Linked s t₀ → Paired s t₀ → Kept s (6 ∷ []) t₀ t → Heights s t → Measured s t
measured {s} g q k h = record { linked = linked-heights k g; paired = paired-over k refl q; row₆ = none-6 s h; heights = h }
