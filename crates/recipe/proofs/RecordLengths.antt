-- The length of a record: by the parts of its body, as the code has it, and kind by kind.
-- Assumes nothing.
use mathlib.Core.Path.{◌≡◌, refl}
use Prim.Native.Nat.{ℕ, zero, suc, ◌+◌, ◌*◌, ◌≤◌, ◌<◌}
use native.Mathlib.Omega.{arith}
use native.Mathlib.Nat.{mul-le-mul, suc-mul, zero-mul}
use mathlib.Core.Bool.{false, true≢false}
use lib.Dec.{ltb}
use borrow.Author.Tests.{ltb-true, ltb-false}
use Rattle.names.proofs.Tests.{by_cases}
use mathlib.Core.List.{List, [], ◌∷◌}
use lib.ListN.{get_or-eq_default}
use Rattle.recipe.specs.Records.{Part, a_name, a_submodel_name, a_name_or_blank, a_class, a_way, bodies, body_of, has_parts, is_known, part_bytes, bytes_of, names_in, singles_in, record_length}

-- ---- by the parts
one-part : (w : ℕ) (x : Part) (xs : List Part) → names_in (x ∷ xs) * w + singles_in (x ∷ xs) ≡ part_bytes w x + (names_in xs * w + singles_in xs)
one-part w a_name xs = omega (arith, suc-mul (names_in xs) w)
one-part w a_submodel_name xs = omega (arith, suc-mul (names_in xs) w)
one-part w a_name_or_blank xs = omega (arith, suc-mul (names_in xs) w)
one-part w a_class xs = omega arith
one-part w a_way xs = omega arith

parts-bytes : (w : ℕ) (xs : List Part) → names_in xs * w + singles_in xs ≡ bytes_of w xs
parts-bytes w [] = omega (arith, zero-mul w)
parts-bytes w (x ∷ []) = omega (arith, one-part w x [], zero-mul w)
parts-bytes w (x ∷ y ∷ xs) = omega (arith, one-part w x (y ∷ xs), parts-bytes w (y ∷ xs))

pub length-parts : (w k : ℕ) {n b : ℕ} → n ≡ names_in (body_of k) → b ≡ singles_in (body_of k) → 1 + n * w + b ≡ record_length w k
unfolding record_length
length-parts w k {n} {b} p q = rw (p, q) (omega (arith, parts-bytes w (body_of k)))

pub names-fit : {n w : ℕ} → n ≤ 3 → w ≤ 65536 → n * w ≤ 196608
names-fit {n} {w} a b = mul-le-mul a b

-- ---- kind by kind
-- what holds of 0 to 8 holds of every number below 9
by-nine : (P : ℕ → Type 0) → P 0 → P 1 → P 2 → P 3 → P 4 → P 5 → P 6 → P 7 → P 8 → (k : ℕ) → k < 9 → P k
by-nine P p₀ p₁ p₂ p₃ p₄ p₅ p₆ p₇ p₈ zero h = p₀
by-nine P p₀ p₁ p₂ p₃ p₄ p₅ p₆ p₇ p₈ (suc zero) h = p₁
by-nine P p₀ p₁ p₂ p₃ p₄ p₅ p₆ p₇ p₈ (suc (suc zero)) h = p₂
by-nine P p₀ p₁ p₂ p₃ p₄ p₅ p₆ p₇ p₈ (suc (suc (suc zero))) h = p₃
by-nine P p₀ p₁ p₂ p₃ p₄ p₅ p₆ p₇ p₈ (suc (suc (suc (suc zero)))) h = p₄
by-nine P p₀ p₁ p₂ p₃ p₄ p₅ p₆ p₇ p₈ (suc (suc (suc (suc (suc zero))))) h = p₅
by-nine P p₀ p₁ p₂ p₃ p₄ p₅ p₆ p₇ p₈ (suc (suc (suc (suc (suc (suc zero)))))) h = p₆
by-nine P p₀ p₁ p₂ p₃ p₄ p₅ p₆ p₇ p₈ (suc (suc (suc (suc (suc (suc (suc zero))))))) h = p₇
by-nine P p₀ p₁ p₂ p₃ p₄ p₅ p₆ p₇ p₈ (suc (suc (suc (suc (suc (suc (suc (suc zero)))))))) h = p₈
by-nine P p₀ p₁ p₂ p₃ p₄ p₅ p₆ p₇ p₈ (suc (suc (suc (suc (suc (suc (suc (suc (suc k))))))))) h = absurd (omega arith)

no_body : (k : ℕ) → 9 ≤ k → body_of k ≡ []
no_body k h = get_or-eq_default bodies [] h

names-three : (k : ℕ) → 1 ≤ k → k < 9 → (k ≡ 1 → ⊥) → (k ≡ 4 → ⊥) → (k ≡ 5 → ⊥) → 3 ≡ names_in (body_of k)
names-three k a b p q r =
    by-nine (λ j. k ≡ j → 3 ≡ names_in (body_of j))
    (λ e. absurd (omega arith)) (λ e. absurd (p e)) (λ e. refl) (λ e. refl) (λ e. absurd (q e)) (λ e. absurd (r e)) (λ e. refl) (λ e. refl) (λ e. refl)
    k b refl

singles-one : (k : ℕ) → 2 ≤ k → k < 8 → (k ≡ 4 → ⊥) → 1 ≡ singles_in (body_of k)
singles-one k a b n =
    by-nine (λ j. k ≡ j → 1 ≡ singles_in (body_of j))
    (λ e. absurd (omega arith)) (λ e. absurd (omega arith)) (λ e. refl) (λ e. refl) (λ e. absurd (n e)) (λ e. refl) (λ e. refl) (λ e. refl) (λ e. absurd (omega arith))
    k (omega arith) refl

-- where there is no kind there are no parts
bodiless : (xs : List Part) → has_parts xs ≡ false → xs ≡ []
bodiless [] h = refl
bodiless (x ∷ xs) h = absurd (true≢false h)

module _ (k : ℕ) (h : is_known k ≡ false) where
  partless : body_of k ≡ []
  unfolding is_known
  partless = bodiless (body_of k) h

  pub names-none : 0 ≡ names_in (body_of k)
  names-none = rw partless

  pub singles-none : 0 ≡ singles_in (body_of k)
  singles-none = rw partless

-- the kinds with three name fields and a byte: 2, 3, 6 and 7
pub length_three : (w k : ℕ) → 1 ≤ k → k < 8 → (k ≡ 1 → ⊥) → (k ≡ 4 → ⊥) → (k ≡ 5 → ⊥) → 2 + 3 * w ≡ record_length w k
length_three w k a b p q r = omega (arith, length-parts w k (names-three k a (omega arith) p q r) (singles-one k (omega arith) b q))

pub length-factors : (w : ℕ) {k : ℕ} → k ≡ 8 → 1 + 3 * w ≡ record_length w k
unfolding record_length
length-factors w e = rw e (omega arith)

pub length-submodel : (w : ℕ) {k : ℕ} → k ≡ 4 → 1 + 2 * w ≡ record_length w k
unfolding record_length
length-submodel w e = rw e (omega arith)

pub length-model : (w : ℕ) {k : ℕ} → k ≡ 1 → 1 + w ≡ record_length w k
unfolding record_length
length-model w e = rw e

pub length-deletion : (w : ℕ) {k : ℕ} → k ≡ 5 → 2 + 2 * w ≡ record_length w k
unfolding record_length
length-deletion w e = rw e (omega arith)

pub length_none : (w k : ℕ) → k < 1 → 1 ≡ record_length w k
unfolding record_length
length_none w zero h = omega arith
length_none w (suc k) h = absurd (omega arith)

pub length-past : (w k : ℕ) → 9 ≤ k → 1 ≡ record_length w k
unfolding record_length
length-past w k h = rw (no_body k h)

-- ---- no record is long: it has three names at most, and one single byte
parts-few : (k : ℕ) → (names_in (body_of k) ≤ 3) × (singles_in (body_of k) ≤ 1)
parts-few k =
    by_cases (ltb k 9)
    (λ h.
    by-nine (λ j. (names_in (body_of j) ≤ 3) × (singles_in (body_of j) ≤ 1))
    (omega arith, omega arith) (omega arith, omega arith) (omega arith, omega arith) (omega arith, omega arith) (omega arith, omega arith)
    (omega arith, omega arith) (omega arith, omega arith) (omega arith, omega arith) (omega arith, omega arith)
    k (ltb-true k 9 h))
    (λ h. rw (no_body k (ltb-false k 9 h)) (omega arith, omega arith))

pub length-low : (w k : ℕ) → w ≤ 65536 → record_length w k ≤ 196610
length-low w k h = let f = parts-few k in omega (arith, length-parts w k refl refl, names-fit f.0 h, f.1)
