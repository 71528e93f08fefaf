-- Tests and what they tell: Bools by cases, options by cases, and how two numbers can lie. Assumes nothing.
use Rattle.std.specs.Prelude.{None, Option, Some, is_some, option_map}
use mathlib.Core.Path.{◌≡◌, refl, sym, ◌∙◌}
use mathlib.Core.Logic.{◌⊎◌, inl, inr}
use mathlib.Core.Bool.{Bool, true, false, ◌&&◌, ◌||◌, false≢true, true≢false}
use Prim.Native.Nat.{ℕ, ◌<◌, ◌≤◌}
use native.Mathlib.Omega.{arith}
use lib.Dec.{ltb, eqb}
use borrow.Author.Tests.{eqb-true, eqb-false, ltb-true, ltb-false}

-- ---- Bools
pub by_cases : {X : Type 0} (b : Bool) → (b ≡ true → X) → (b ≡ false → X) → X
by_cases true f g = f refl
by_cases false f g = g refl

pub not-both : {X : Type 0} {b : Bool} → b ≡ true → b ≡ false → X
not-both p q = absurd (true≢false (sym p ∙ q))

pub both_ways : {a b : Bool} → (a ≡ true → b ≡ true) → (b ≡ true → a ≡ true) → a ≡ b
both_ways {a} {b} f g = by_cases a (λ e. e ∙ sym (f e)) (λ e. by_cases b (λ h. not-both (g h) e) (λ h. e ∙ sym h))

pub and_left : (a b : Bool) → a && b ≡ true → a ≡ true
and_left true b e = refl
and_left false b e = absurd (false≢true e)

pub and_right : (a b : Bool) → a && b ≡ true → b ≡ true
and_right true b e = e
and_right false b e = absurd (false≢true e)

pub both : {a b : Bool} → a ≡ true → b ≡ true → a && b ≡ true
both {a} {b} p q = rw (p, q)

pub and_none : (a b : Bool) → a ≡ true → a && b ≡ false → b ≡ false
and_none a b p e = rw p at e

pub or_left : (a b : Bool) → a ≡ true → a || b ≡ true
or_left a b p = rw p

pub or_right : (a b : Bool) → b ≡ true → a || b ≡ true
or_right true b p = refl
or_right false b p = p

pub or_cases : (a b : Bool) → a || b ≡ true → (a ≡ true) ⊎ (b ≡ true)
or_cases true b e = inl refl
or_cases false b e = inr e

pub or-none-left : (a b : Bool) → a || b ≡ false → a ≡ false
or-none-left true b e = absurd (true≢false e)
or-none-left false b e = refl

pub or-none-right : (a b : Bool) → a || b ≡ false → b ≡ false
or-none-right true b e = absurd (true≢false e)
or-none-right false b e = e

-- ---- options
pub by-option : {A X : Type 0} (o : Option A) → (o ≡ None → X) → ((a : A) → o ≡ Some a → X) → X
by-option None f g = f refl
by-option (Some a) f g = g a refl

pub not_none : {A X : Type 0} {a : A} → ◌≡◌ {A = Option A} None (Some a) → X
not_none p = absurd (let z : ◌≡◌ {A = ℕ} 0 1 = cc in omega arith)

pub some-none : {A X : Type 0} {a : A} → ◌≡◌ {A = Option A} (Some a) None → X
some-none p = not_none (sym p)

pub the-some : {A : Type 0} {a b : A} → Some a ≡ Some b → a ≡ b
the-some p = cc

pub some-map : {A B : Type 0} (f : A → B) (o : Option A) (b : B) → option_map f o ≡ Some b → (a : A) × (o ≡ Some a) × (b ≡ f a)
some-map f None b e = not_none e
some-map f (Some a) b e = (a, refl, sym (the-some e))

pub is_some-map : {A B : Type 0} (f : A → B) (o : Option A) → is_some (option_map f o) ≡ is_some o
is_some-map f None = refl
is_some-map f (Some a) = refl

pub is-some : {A : Type 0} (o : Option A) → is_some o ≡ true → (a : A) × (o ≡ Some a)
is-some None e = absurd (false≢true e)
is-some (Some a) e = (a, refl)

-- ---- numbers
pub apart : {p q : ℕ} → p ≤ q → (p ≡ q → ⊥) → p < q
apart {p} {q} h n = by_cases (ltb p q) (λ t. ltb-true p q t) (λ t. absurd (n (let g = ltb-false p q t in omega arith)))

pub three : {X : Type 0} (i j : ℕ) → (i < j → X) → (i ≡ j → X) → (j < i → X) → X
three i j f g h =
    by_cases (ltb i j) (λ t. f (ltb-true i j t))
    (λ t. by_cases (eqb i j) (λ e. g (eqb-true i j e)) (λ e. h (apart (ltb-false i j t) (λ q. eqb-false i j e (sym q)))))
