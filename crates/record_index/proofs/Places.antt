-- The records of a recipe by number: the places as a list, one more place at a time.
-- Assumes nothing.
use Rattle.std.specs.Prelude.{Some, option_map}
use mathlib.Core.Path.{◌≡◌, refl, sym, ap, ◌∙◌}
use mathlib.Core.Logic.{inl, inr}
use mathlib.Core.Bool.{Bool, true}
use mathlib.Core.List.{List, [], ◌∷◌}
use Prim.Native.Nat.{ℕ, zero, suc, ◌+◌, ◌≤◌, ◌<◌}
use native.Mathlib.Omega.{arith}
use lib.ListN.{length, get_or, drop, length-drop}
use Rattle.names.specs.Lists.{In, first}
use Rattle.names.specs.Scans.{scan, first_from}
use Rattle.names.proofs.Tests.{by_cases, three}
use Rattle.names.proofs.Lists.{at-cons, get_or-in}
use Rattle.names.proofs.ListOrder.{Rising, rising-in}
use Rattle.recipe.specs.Records.{Recipe, kind, next, is_readable, places_from, places}
use Rattle.recipe.proofs.Bodies.{kind-least}
use Rattle.recipe.proofs.Reading.{known, places-suffice, places-rise, readable, readable-fits}

-- ---- lists by number
pub rising-at : (p : ℕ) (xs : List ℕ) (i j : ℕ) → Rising p xs → i < j → j < length xs → get_or xs i 0 < get_or xs j 0
rising-at p [] i j r l h = absurd (omega arith)
rising-at p (x ∷ xs) i zero r l h = absurd (omega arith)
rising-at p (x ∷ xs) zero (suc j) r l h = let k = rising-in (suc x) xs (get_or xs j 0) r.1 (get_or-in xs j 0 (omega arith)) in omega arith
rising-at p (x ∷ xs) (suc i) (suc j) r l h = rising-at (suc x) xs i j r.1 (omega arith) (omega arith)

-- what is left of a list begins with x: that is the next, and what is left behind it
pub drop-next : (i : ℕ) (xs : List ℕ) (x : ℕ) (ys : List ℕ) → drop i xs ≡ x ∷ ys → (i < length xs) × (get_or xs i 0 ≡ x) × (drop (i + 1) xs ≡ ys)
drop-next i xs x ys e =
    let l : i < length xs = (let k = length-drop i xs in let m : length (drop i xs) ≡ suc (length ys) = ap length e in omega arith) in
    let c : get_or xs i 0 ∷ drop (i + 1) xs ≡ x ∷ ys = sym (at-cons xs i l) ∙ e in
    (l, cc, cc)

pub drop-over : (i : ℕ) (xs : List ℕ) → drop i xs ≡ [] → length xs ≤ i
drop-over i xs e = let k = length-drop i xs in let m : length (drop i xs) ≡ 0 = ap length e in omega arith

-- a first that looks at nothing but the list
pub first-same : (t u : ℕ → Bool) (xs : List ℕ) → ((x : ℕ) → In x xs → t x ≡ u x) → first t xs ≡ first u xs
first-same t u [] h = refl
first-same t u (x ∷ xs) h =
    let e : t x ≡ u x = h x (inl refl) in
    by_cases (u x)
    (λ k. rw (e ∙ k, k, first))
    (λ k. rw (e ∙ k, k, first) (first-same t u xs (λ y i. h y (inr i))))

-- the first of a list, by number
first-numbered-from : (t : ℕ → Bool) (zs : List ℕ) (i : ℕ) (xs : List ℕ) → drop i zs ≡ xs
    → first t xs ≡ option_map (λ k. get_or zs k 0) (first_from (λ k. t (get_or zs k 0)) i (length xs))
unfolding first_from
first-numbered-from t zs i [] e = refl
first-numbered-from t zs i (x ∷ xs) e =
    let n = drop-next i zs x xs e in
    let g : get_or zs i 0 ≡ x = n.1 in
    let o : suc i ≡ i + 1 = omega arith in
    let d : drop (suc i) zs ≡ xs = ap (λ (k : ℕ). drop k zs) o ∙ n.2 in
    by_cases (t x)
    (λ h. rw (h, first, g, h) (ap Some (sym g)))
    (λ h. rw (h, first, g, h) (first-numbered-from t zs (suc i) xs d))

pub first-numbered : (t : ℕ → Bool) (xs : List ℕ) → first t xs ≡ option_map (λ k. get_or xs k 0) (scan (λ k. t (get_or xs k 0)) (length xs))
unfolding scan
first-numbered t xs = first-numbered-from t xs 0 xs refl

-- ---- records
module _ (s : Recipe) where
  pub next-least : (p : ℕ) → is_readable s p ≡ true → p + (s.width + 1) ≤ next s p
  unfolding next
  next-least p e = omega (arith, kind-least s.width (kind s p) (known s p e))

  pub place-room : (p : ℕ) → In p (places s) → p + (s.width + 1) ≤ length s.bytes
  place-room p i = let e = readable s p i in omega (arith, next-least p e, readable-fits s p e)

  -- the places from p on
  abbrev pub rest : ℕ → List ℕ
  rest p = places_from (length s.bytes) s p

  pub rest_more : (p : ℕ) → is_readable s p ≡ true → rest p ≡ p ∷ rest (next s p)
  unfolding places_from
  rest_more p e = places-suffice s (length s.bytes) (suc (length s.bytes)) p (omega arith) (omega arith) ∙ one
    where
      one : places_from (suc (length s.bytes)) s p ≡ p ∷ places_from (length s.bytes) s (next s p)
      one = rw (e, places_from)

  pub rest-start : places s ≡ rest 0
  unfolding places
  rest-start = refl

  -- ---- by number
  pub numbered-less : (i j : ℕ) → i < j → j < length (places s) → get_or (places s) i 0 < get_or (places s) j 0
  numbered-less i j l h = rising-at 0 (places s) i j (places-rise s) l h

  pub less-numbered : (i j : ℕ) → i < length (places s) → j < length (places s) → get_or (places s) i 0 < get_or (places s) j 0 → i < j
  less-numbered i j h k l =
      three i j (λ u. u) (λ u. absurd (let e : get_or (places s) i 0 ≡ get_or (places s) j 0 = ap (λ (x : ℕ). get_or (places s) x 0) u in omega arith))
      (λ u. absurd (let m = numbered-less j i u h in omega arith))
