-- A search over the records for the first that row 2 refuses: it finds the place at which reading stops, or none.
-- Assumes nothing.
use Rattle.std.specs.Prelude.{Option, None, Some, IfSome}
use Rattle.std.specs.Iterator.{YieldsThen}
use Rattle.std.specs.List.{FoldsTo}
use Rattle.std.specs.Fn.{CalledAt}
use denote.Ref.{Bor}
use denote.Param.Members.{Mut}
use Prim.Native.Nat.{ℕ, ◌≤◌, ◌<◌}
use mathlib.Core.Bool.{Bool, true, false}
use mathlib.Core.List.{List, [], ◌∷◌}
use mathlib.Core.Path.{◌≡◌, refl, sym, ◌∙◌}
use borrow.Author.Tests.{lt-ltb, le-ltb}
use lib.ListN.{length}
use Rattle.recipe.specs.declared.Records.{Records}
use Rattle.recipe.specs.Records.{Recipe, recipe, is_readable, stop, next, kind}
use Rattle.recipe.specs.Reading.{fault₂}
use Rattle.recipe.specs.Steps.{StepsTo}
use Rattle.recipe.proofs.Going.{Left, left_end, left-at, left-behind, left_start}
use Rattle.recipe.proofs.Reading.{unread}
use Rattle.recipe.proofs.Steps.{Over, over-end, over-step}

module _ (s : Recipe) where
  -- at the stop: refused before the end, and at the end nothing is
  refused-at : (p : ℕ) → p ≡ stop s → p < length s.bytes → Some p ≡ fault₂ s
  unfolding fault₂
  refused-at p e l = rw (← e, lt-ltb p (length s.bytes) l)

  none-refused : (p : ℕ) → p ≡ stop s → length s.bytes ≤ p → None ≡ fault₂ s
  unfolding fault₂
  none-refused p e l = rw (← e, le-ltb p (length s.bytes) l)

  -- the search asks the closure f, which a call leaves as it was
  module _ {F : Type 0} {g : Mut F (Bor ℕ × Unit {0}) Bool} (u : Records) (f : F)
      (passes : (x : ℕ) (q : F) → CalledAt g f x false q → (q ≡ f) × (is_readable s x ≡ true))
      (stops : (x : ℕ) (q : F) → CalledAt g f x true q → is_readable s x ≡ false) where
    go : (xs : List ℕ) (a : Records) (r : Option ℕ) (j k : F) → j ≡ f → Over s a → Left s (λ ps. Unit {0}) a.at
        → YieldsThen StepsTo a xs r u → FoldsTo (λ p x q. CalledAt g p x false q) j xs k → IfSome r (λ x. (h : F) × CalledAt g k x true h) → r ≡ fault₂ s
    unfolding next kind
    go [] a None j k e o l y c m =
        let n = over-end o (rw (← y.1) at y.2) in
        none-refused a.at (left_end l (unread s a.at n)) n
    go [] a (Some x) j k e o l y c m =
        let z = over-step o (rw (← y.1) at y.2) in
        refused-at x (left_end (rw z.place at l) (stops x m.0 (rw (sym c ∙ e) at m.1))) z.inside
    go (x ∷ xs) a r j k e o l y c m =
        let z = over-step o y.1.1 in
        let p = passes x c.0 (rw e at c.1) in
        go xs y.1.0 r c.0 k p.0 z.over (rw z.on (left-behind (left-at (rw z.place at l) p.1) tt)) (y.0, y.1.2, y.2) c.2 m

    pub unread-first : (a : Records) (r : Option ℕ) → (recipe a.source.now ≡ s) × (a.at ≡ 0)
        → (xs : List ℕ) × (k : F) × YieldsThen StepsTo a xs r u × FoldsTo (λ p x q. CalledAt g p x false q) f xs k × IfSome r (λ x. (h : F) × CalledAt g k x true h) → r ≡ fault₂ s
    unread-first a r e d = go d.0 a r f d.1 refl (record { source = e.0 }) (rw e.1 (left_start s (λ ps. Unit {0}) tt)) d.2 d.3 d.4
