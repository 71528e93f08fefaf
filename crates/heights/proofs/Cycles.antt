-- Row 6 as a loop over the records finds it: the first model that reaches itself.
-- Assumes nothing.
use mathlib.Core.Path.{◌≡◌}
use Prim.Native.Nat.{ℕ}
use mathlib.Core.Bool.{Bool, false, ◌&&◌}
use lib.ListN.{get_or}
use borrow.Author.Tests.{eq-eqb, ne_eqb}
use Rattle.names.specs.Lists.{In, first}
use Rattle.recipe.specs.Records.{Recipe, kind, places, is_model}
use Rattle.recipe.specs.Definitions.{definitions}
use Rattle.recipe.specs.Reaching.{reaches}
use Rattle.recipe.specs.Reading.{fault₆}
use Rattle.names.proofs.Lists.{first-keep}
use Rattle.recipe.proofs.Spans.{in-definitions}

module _ (s : Recipe) where
  -- a definition that reaches itself
  abbrev pub is_cycle : ℕ → Bool
  is_cycle p = is_model s p && reaches s p p

  pub fault-6 : fault₆ s ≡ first is_cycle (places s)
  unfolding fault₆ definitions
  fault-6 = first-keep (λ d. reaches s d d) (is_model s) (places s)

  module _ (p : ℕ) where
    pub model-definition : In p (places s) → get_or s.bytes p 0 ≡ 1 → In p (definitions s)
    unfolding is_model kind
    model-definition i k = in-definitions s p i (eq-eqb (get_or s.bytes p 0) 1 k)

    pub no-model : (get_or s.bytes p 0 ≡ 1 → ⊥) → is_cycle p ≡ false
    unfolding is_model kind
    no-model n = rw (ne_eqb (get_or s.bytes p 0) 1 n)

    pub cycle-is : get_or s.bytes p 0 ≡ 1 → {b r : Bool} → r ≡ reaches s p p → r ≡ b → is_cycle p ≡ b
    unfolding is_model kind
    cycle-is k e h = rw (eq-eqb (get_or s.bytes p 0) 1 k, ← e, h)
