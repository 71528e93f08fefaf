-- A chain `filter(..).count()` over an iterator whose state shows the list of what is left: the closure may be called, and the items are those that pass.
-- Assumes nothing.
use Rattle.std.specs.Iterator.{CallableAtEachTurn, Yields, YieldsFirst}
use Rattle.std.specs.Iterator.Adapters.{filter_callee, filter_source, filter_steps}
use Rattle.std.specs.declared.iter.Filter.{Filter}
use Rattle.std.specs.Fn.{CalledAt}
use Rattle.std.specs.List.{FoldsTo}
use Rattle.std.specs.Prelude.{None, Some}
use denote.Param.Members.{Mut}
use denote.Ref.{Bor}
use mathlib.Core.Bool.{Bool, false, true}
use mathlib.Core.List.{List, [], ◌∷◌}
use mathlib.Core.Logic.{inl, inr}
use mathlib.Core.Path.{◌∙◌, ◌≡◌, ap, refl, sym}
use Rattle.names.specs.Lists.{In, keep}
use Rattle.names.proofs.Lists.{keep-off, keep-on}

module _ {S A : Type 0} (rest : S → List A) where
  comes : (xs : List A) (a b c : S) (x : A) → Yields (YieldsFirst rest) a xs b → YieldsFirst rest b (Some x) c → In x (rest a)
  comes [] a b c x y e = rw (ap rest y, e) (inl refl)
  comes (z ∷ xs) a b c x y e = rw y.1 (inr (comes xs y.0 b c x y.2 e))

module _ {S A P : Type 0} (rest : S → List A) {R : P → A → P → Type 0} where
  stays : ((x : A) (p q : P) → R p x q → q ≡ p) → (xs : List A) (p q : P) → FoldsTo R p xs q → q ≡ p
  stays k [] p q c = sym c
  stays k (x ∷ xs) p q c = stays k xs c.0 q c.2 ∙ k x p c.0 c.1

  -- what the closure may be asked
  pub serves-from-first : {Q : P → A → Type 0} {a : S} {p f : P} → p ≡ f → ((x : A) (p q : P) → R p x q → q ≡ p) → ((x : A) → In x (rest a) → Q f x) → CallableAtEachTurn (YieldsFirst rest) R Q a p
  serves-from-first {Q} {a} {p} {f} z k h = record { at = λ xs t q x u y c e. rw (stays k xs p q c ∙ z) (h x (comes rest xs a t u x y e)) }

-- what comes, where the closure f answers the test t and stays as it is
module _ {S A F : Type 0} (rest : S → List A) (g : Mut F (Bor A × Unit {0}) Bool) (f : F) (t : A → Bool) (acts : (x : A) (b : Bool) (q : F) → CalledAt g f x b q → (q ≡ f) × (b ≡ t x)) where
  passed-over : (ys : List A) (a b : S) (q : F) → Yields (YieldsFirst rest) a ys b → FoldsTo (λ p x r. CalledAt g p x false r) f ys q → (q ≡ f) × (keep t (rest a) ≡ keep t (rest b))
  passed-over [] a b q y c = (sym c, ap (λ s. keep t (rest s)) y)
  passed-over (x ∷ ys) a b q y c =
      let k = acts x false c.0 c.1 in
      let h = passed-over ys y.0 b q y.2 (rw k.0 at c.2) in
      (h.0, ap (keep t) y.1 ∙ keep-off t x (rest y.0) (sym k.1) ∙ h.1)

  pub filtered : (xs : List A) (a b c : Filter S F) → filter_callee a ≡ f → Yields (filter_steps (YieldsFirst rest) g) a xs b → filter_steps (YieldsFirst rest) g b None c → xs ≡ keep t (rest (filter_source a))
  filtered [] a b c e y n =
      let h = passed-over n.0 (filter_source b) n.2.0 n.1 n.2.1 (rw (ap filter_callee (sym y) ∙ e) at n.3) in
      sym (ap (λ s. keep t (rest (filter_source s))) y ∙ h.1 ∙ ap (keep t) n.2.2.0)
  filtered (x ∷ xs) a b c e y n =
      let s = y.1 in
      let h = passed-over s.0 (filter_source a) s.2.0 s.1 s.2.1 (rw e at s.3) in
      let k = acts x true (filter_callee y.0) (rw h.0 at s.4) in
      ap (λ l. x ∷ l) (filtered xs y.0 b c k.0 y.2 n) ∙ sym (h.1 ∙ ap (keep t) s.2.2 ∙ keep-on t x (rest (filter_source y.0)) (sym k.1))
