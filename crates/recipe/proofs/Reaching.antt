-- Reaching, without its fuel: `reaches` is the plain relation that some chain of submodel records leads from one definition to another.
-- Assumes nothing.
use mathlib.Core.Path.{◌≡◌, sym}
use mathlib.Core.Logic.{◌⊎◌, inl, inr, ⊎_elim}
use Prim.Native.Nat.{ℕ, zero, suc, ◌+◌, ◌≤◌}
use native.Mathlib.Omega.{arith}
use mathlib.Core.Bool.{true, ◌||◌, false≢true}
use mathlib.Core.List.{List, [], ◌∷◌}
use lib.ListN.{length}
use lib.Dec.{eqb}
use borrow.Author.Tests.{eqb-true, eqb-false, eq-eqb}
use Rattle.names.specs.Lists.{In}
use Rattle.names.proofs.Tests.{by_cases, both_ways, or_left, or_right, or_cases}
use Rattle.names.proofs.Lists.{any-in, any_some, without, without-shorter, without_in}
use Rattle.recipe.specs.Records.{Recipe}
use Rattle.recipe.specs.Definitions.{definitions, submodels, model_of}
use Rattle.recipe.specs.Reaching.{reaches_in, reaches, Reach, direct, onward}
use Rattle.recipe.proofs.Definitions.{model_in}

module _ (s : Recipe) where
  -- ---- by a count, and without one
  pub reach_of : (n d e : ℕ) → reaches_in n s d e ≡ true → Reach s d e
  unfolding reaches_in
  reach_of zero d e h = absurd (false≢true h)
  reach_of (suc n) d e h =
      let r = any_some (λ m. eqb (model_of s m) e || reaches_in n s (model_of s m) e) (submodels s d) h in
      ⊎_elim (λ (k : eqb (model_of s r.0) e ≡ true). direct r.0 r.1 (eqb-true (model_of s r.0) e k))
      (λ (k : reaches_in n s (model_of s r.0) e ≡ true). onward r.0 r.1 (reach_of n (model_of s r.0) e k))
      (or_cases (eqb (model_of s r.0) e) (reaches_in n s (model_of s r.0) e) r.2)

  one-step : (n d e m : ℕ) → In m (submodels s d) → model_of s m ≡ e → reaches_in (suc n) s d e ≡ true
  unfolding reaches_in
  one-step n d e m i h =
      any-in (λ k. eqb (model_of s k) e || reaches_in n s (model_of s k) e) (submodels s d) m i
      (or_left (eqb (model_of s m) e) _ (eq-eqb (model_of s m) e h))

  one_more : (n d e m : ℕ) → In m (submodels s d) → reaches_in n s (model_of s m) e ≡ true → reaches_in (suc n) s d e ≡ true
  unfolding reaches_in
  one_more n d e m i h =
      any-in (λ k. eqb (model_of s k) e || reaches_in n s (model_of s k) e) (submodels s d) m i
      (or_right (eqb (model_of s m) e) _ h)

  -- more steps allowed reach no less
  pub reaches_more : (n k d e : ℕ) → n ≤ k → reaches_in n s d e ≡ true → reaches_in k s d e ≡ true
  unfolding reaches_in
  reaches_more zero k d e l h = absurd (false≢true h)
  reaches_more (suc n) zero d e l h = absurd (omega arith)
  reaches_more (suc n) (suc k) d e l h =
      let r = any_some (λ m. eqb (model_of s m) e || reaches_in n s (model_of s m) e) (submodels s d) h in
      ⊎_elim (λ (q : eqb (model_of s r.0) e ≡ true). one-step k d e r.0 r.1 (eqb-true (model_of s r.0) e q))
      (λ (q : reaches_in n s (model_of s r.0) e ≡ true). one_more k d e r.0 r.1 (reaches_more n k (model_of s r.0) e (omega arith) q))
      (or_cases (eqb (model_of s r.0) e) (reaches_in n s (model_of s r.0) e) r.2)

  -- ---- a chain whose definitions are among xs has no more steps than xs has members, once its loops are left out
  data Among (xs : List ℕ) : ℕ → ℕ → Type 0 where
    last : {d e : ℕ} (m : ℕ) → In m (submodels s d) → model_of s m ≡ e → In e xs → Among xs d e
    then : {d e : ℕ} (m : ℕ) → In m (submodels s d) → In (model_of s m) xs → Among xs (model_of s m) e → Among xs d e

  among : {d e : ℕ} → Reach s d e → Among (definitions s) d e
  among {d} {e} (direct m i h) = last m i h (rw h at (model_in s d m i))
  among {d} {e} (onward m i r) = then m i (model_in s d m i) (among r)

  -- from the last visit to v on, v is not visited again
  leave : (v : ℕ) (xs : List ℕ) {d e : ℕ} → Among xs d e → (v ≡ e) ⊎ (Among (without v xs) v e ⊎ Among (without v xs) d e)
  leave v xs {d} {e} (last m i h j) =
      by_cases (eqb e v)
      (λ k. inl (sym (eqb-true e v k)))
      (λ k. inr (inr (last m i h (without_in v xs e j (eqb-false e v k)))))
  leave v xs {d} {e} (then m i j r) =
      ⊎_elim (λ (k : v ≡ e). inl k)
      (⊎_elim (λ (k : Among (without v xs) v e). inr (inl k))
      (λ (k : Among (without v xs) (model_of s m) e).
      by_cases (eqb (model_of s m) v)
      (λ q. inr (inl (rw (eqb-true (model_of s m) v q) at k)))
      (λ q. inr (inr (then m i (without_in v xs (model_of s m) j (eqb-false (model_of s m) v q)) k)))))
      (leave v xs r)

  few : (n : ℕ) (xs : List ℕ) {d e : ℕ} → length xs ≤ n → Among xs d e → reaches_in n s d e ≡ true
  few zero [] {d} {e} l (last m i h j) = absurd j
  few zero [] {d} {e} l (then m i j r) = absurd j
  few zero (x ∷ xs) l r = absurd (omega arith)
  few (suc n) xs {d} {e} l (last m i h j) = one-step n d e m i h
  few (suc n) xs {d} {e} l (then m i j r) =
      let v : ℕ = model_of s m in
      let short : length (without v xs) ≤ n = omega (arith, without-shorter v xs j) in
      ⊎_elim (λ (k : v ≡ e). one-step n d e m i k)
      (⊎_elim (λ (k : Among (without v xs) v e). one_more n d e m i (few n (without v xs) short k))
      (λ (k : Among (without v xs) v e). one_more n d e m i (few n (without v xs) short k)))
      (leave v xs r)

  -- ---- the two are one: as many submodel records as there are definitions suffice
  pub reaches-plain : (d e : ℕ) → reaches s d e ≡ true → Reach s d e
  unfolding reaches
  reaches-plain d e h = reach_of (length (definitions s)) d e h

  pub plain-reaches : (d e : ℕ) → Reach s d e → reaches s d e ≡ true
  unfolding reaches
  plain-reaches d e r = few (length (definitions s)) (definitions s) (omega arith) (among r)

  -- so a greater count changes nothing
  pub reaches-suffice : (k d e : ℕ) → reaches_in (length (definitions s) + k) s d e ≡ reaches s d e
  unfolding reaches
  reaches-suffice k d e =
      both_ways
      (λ h. plain-reaches d e (reach_of (length (definitions s) + k) d e h))
      (λ h. reaches_more (length (definitions s)) (length (definitions s) + k) d e (omega arith) h)

  -- ---- reaching and what is reached from there
  pub reach-append : {d e f : ℕ} → Reach s d e → Reach s e f → Reach s d f
  reach-append {d} {e} {f} (direct m i h) q = onward m i (rw (← h) at q)
  reach-append {d} {e} {f} (onward m i r) q = onward m i (reach-append r q)

  -- what is reached is a definition
  pub reach-in : {d e : ℕ} → Reach s d e → In e (definitions s)
  reach-in {d} {e} (direct m i h) = rw h at (model_in s d m i)
  reach-in {d} {e} (onward m i r) = reach-in r
