-- A `for` over the records of a recipe: what holds of its iterator, at the start, at each step and at the end.
-- Assumes nothing.
use Rattle.std.specs.Prelude.{None, Some}
use Prim.Native.Nat.{ℕ, ◌+◌, ◌≤◌, ◌<◌}
use native.Mathlib.Omega.{arith}
use mathlib.Core.Path.{◌≡◌, sym, ap, ◌∙◌}
use lib.ListN.{length, get_or}
use Rattle.recipe.specs.declared.Records.{Records}
use Rattle.recipe.specs.Records.{Recipe, recipe, record_length}
use Rattle.recipe.specs.Steps.{StepsTo}

-- the iterator goes over the records of s
pub record Over (s : Recipe) (a : Records) : Type 0 where
  pub source : recipe a.source.now ≡ s

pub over-start : (s : Recipe) {made a : Records} → (recipe made.source.now ≡ s) × (made.at ≡ 0) → a ≡ made → Over s a × (a.at ≡ 0)
over-start s m e = (record { source = ap (λ (x : Records). recipe x.source.now) e ∙ m.0 }, ap (λ (x : Records). x.at) e ∙ m.1)

-- a step to the record at p, and on
pub record At (s : Recipe) (a : Records) (p : ℕ) (b : Records) : Type 0 where
  pub place : a.at ≡ p
  pub inside : p < length s.bytes
  pub on : b.at ≡ p + record_length s.width (get_or s.bytes p 0)
  pub over : Over s b

pub over-step : {s : Recipe} {a b : Records} {p : ℕ} → Over s a → StepsTo a (Some p) b → At s a p b
over-step {s} {a} {b} {p} o t = record {
  place = sym t.0;
  inside = omega (arith, t.1, ap (λ (r : Recipe). length r.bytes) o.source);
  on = t.2 ∙ ap (λ (r : Recipe). p + record_length r.width (get_or r.bytes p 0)) o.source;
  over = record { source = ap (λ z. recipe z.now) t.3 ∙ o.source };
}

-- no record is left
pub over-end : {s : Recipe} {a b : Records} → Over s a → StepsTo a None b → length s.bytes ≤ a.at
over-end {s} {a} {b} o t = omega (arith, t.0, ap (λ (r : Recipe). length r.bytes) o.source)

-- it starts at any place
pub over-from : (s : Recipe) {made a : Records} → recipe made.source.now ≡ s → a ≡ made → Over s a × (a.at ≡ made.at)
over-from s b e = (record { source = ap (λ (x : Records). recipe x.source.now) e ∙ b }, ap (λ (x : Records). x.at) e)
