-- A `for` over the records: as a search it has passed none that it looks for; as a pass it says W of the nodes of the records before the next one.
-- Assumes nothing.
use Rattle.std.specs.Prelude.{None, Some}
use Prim.Native.Nat.{◌<◌, ℕ}
use mathlib.Core.Bool.{Bool, false, true}
use mathlib.Core.List.{List}
use mathlib.Core.Path.{◌∙◌, ◌≡◌, refl, subst, sym}
use Rattle.names.specs.Lists.{In, first}
use Rattle.recipe.specs.declared.Records.{Records}
use Rattle.recipe.specs.Records.{Recipe, next, places, recipe}
use Rattle.recipe.specs.Steps.{StepsTo}
use Rattle.recipe.proofs.Going.{Going, Here, going_end, going-hit, going_on, going_start, here}
use Rattle.recipe.proofs.Steps.{Over, over-end, over-start, over-step}
use Rattle.shadow.proofs.Cells.{step-next}
use Rattle.tree.specs.Tree.{Node, nodes}
use Rattle.targets.specs.Targeted.{Targeted}
use Rattle.marks.proofs.Threads.{along-all, along-skip}

-- what `Records::of` gives
abbrev Made : Recipe → Records → Type 0
Made s a = (recipe a.source.now ≡ s) × (a.at ≡ 0)

-- ---- a search: no record before the next one passes the test
pub record Seeking (s : Recipe) (test : ℕ → Bool) (a : Records) : Type 0 where
  pub over : Over s a
  pub going : Going s test a.at

pub seeking-start : {s : Recipe} {test : ℕ → Bool} {made a : Records} → Made s made → a ≡ made → Seeking s test a
seeking-start {s} {test} m e = let o = over-start s m e in record { over = o.0; going = rw o.1 (going_start s test) }

pub seeking-end : {s : Recipe} {test : ℕ → Bool} {a b : Records} → Seeking s test a → StepsTo a None b → first test (places s) ≡ None
seeking-end g e = going_end g.going (over-end g.over e)

module _ {s : Recipe} {t inst : List ℕ} {insts : ℕ} (T : Targeted s t inst insts) {a b : Records} {p : ℕ} where
  module _ {test : ℕ → Bool} (g : Seeking s test a) (e : StepsTo a (Some p) b) where
    seeking-here : Here s test p
    seeking-here = let z = over-step g.over e in here s test p T.planted.measured.linked.numbered.shadowed.whole (rw z.place at g.going) z.inside

    pub seeking-place : In p (places s)
    seeking-place = seeking-here.place

    pub seeking-hit : test p ≡ true → first test (places s) ≡ Some p
    seeking-hit h = going-hit seeking-here h

    pub seeking-on : test p ≡ false → Seeking s test b
    seeking-on h = let z = over-step g.over e in record { over = z.over; going = rw z.on (going_on seeking-here h refl) }

-- ---- a pass: none before the next one passes the test f, and W is said of the nodes of the records before it
pub record Passing (s : Recipe) (f : ℕ → Bool) (W : (Node → Type 0) → Type 0) (a : Records) : Type 0 where
  pub seeking : Seeking s f a
  pub said : W (λ q. q.place < a.at)

pub passing-start : {s : Recipe} {f : ℕ → Bool} {W : (Node → Type 0) → Type 0} {made a : Records} → Made s made → a ≡ made → W (λ q. q.place < 0) → Passing s f W a
passing-start {s} {f} {W} m e w =
    record { seeking = seeking-start m e; said = subst (λ (k : ℕ). W (λ q. q.place < k)) (sym (over-start s m e).1) w }

module _ {s : Recipe} {t inst : List ℕ} {insts : ℕ} (T : Targeted s t inst insts) {f : ℕ → Bool} {W : (Node → Type 0) → Type 0} {a b : Records} {p : ℕ} (g : Passing s f W a) (e : StepsTo a (Some p) b) where
  pub passing-place : In p (places s)
  passing-place = seeking-place T g.seeking e

  pub passing-said : W (λ q. q.place < p)
  passing-said = subst (λ (k : ℕ). W (λ q. q.place < k)) (over-step g.seeking.over e).place g.said

  -- V is said from here on
  pub passing-on : {V : (Node → Type 0) → Type 0} → f p ≡ false → V (λ q. q.place < next s p) → Passing s f V b
  passing-on {V} h v =
      let z = over-step g.seeking.over e in
      record { seeking = seeking-on T g.seeking e h; said = subst (λ (k : ℕ). V (λ q. q.place < k)) (sym (z.on ∙ step-next s p refl)) v }

  -- a record of another sort
  pub passing-skip : (test : ℕ → Bool)
      → ((D E : Node → Type 0) → ((q : Node) → In q (nodes s test) → E q → D q) → ((q : Node) → In q (nodes s test) → D q → E q) → W D → W E)
      → f p ≡ false → test p ≡ false → Passing s f W b
  passing-skip test same h o = passing-on h (along-skip s test W same p passing-place o passing-said)

pub passing-end : {s : Recipe} {f : ℕ → Bool} {W : (Node → Type 0) → Type 0} {a b : Records} (test : ℕ → Bool)
    → ((D E : Node → Type 0) → ((q : Node) → In q (nodes s test) → E q → D q) → ((q : Node) → In q (nodes s test) → D q → E q) → W D → W E)
    → Passing s f W a → StepsTo a None b → W (λ q. Unit {0})
passing-end {s} {f} {W} {a} test same g e = along-all s test W same a.at (over-end g.seeking.over e) g.said
