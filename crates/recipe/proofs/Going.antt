-- A loop over the records of a recipe: what is left of it at p; and one that stops at the first that passes a test.
-- Assumes nothing.
use Rattle.std.specs.Prelude.{None, Some}
use mathlib.Core.Path.{◌≡◌, refl, sym, ap, ◌∙◌}
use mathlib.Core.Logic.{inl, inr, ⊎_elim}
use Prim.Native.Nat.{ℕ, zero, suc, ◌+◌, ◌≤◌, ◌<◌}
use native.Mathlib.Omega.{arith}
use mathlib.Core.Bool.{Bool, true, false}
use mathlib.Core.List.{List, [], ◌∷◌}
use lib.ListN.{length, get_or}
use Rattle.names.specs.Lists.{In, first}
use Rattle.names.proofs.Tests.{by_cases}
use Rattle.recipe.specs.Records.{Recipe, kind, record_length, next, is_readable, places_from, stop_from, places, stop, is_element}
use Rattle.recipe.proofs.Reading.{places-least, readable-fits, next_more, unread, readable}
use borrow.Author.Tests.{eqb-true}
use Rattle.recipe.proofs.RecordLengths.{length_three}

-- at p, a place or the end: the tries left, and that Q holds of the places left
pub record Left (s : Recipe) (Q : List ℕ → Type 0) (p : ℕ) : Type 0 where
  pub tries : ℕ
  pub enough : length s.bytes ≤ p + tries
  pub stops : stop s ≡ stop_from tries s p
  pub inside : (x : ℕ) → In x (places_from tries s p) → In x (places s)
  pub rest : Q (places_from tries s p)

-- at the record at p: it is whole, and what is left behind it
pub record Reached (s : Recipe) (Q : List ℕ → Type 0) (p : ℕ) : Type 0 where
  pub tries : ℕ
  pub enough : length s.bytes ≤ next s p + tries
  pub readable : is_readable s p ≡ true
  pub stops : stop s ≡ stop_from tries s (next s p)
  pub place : In p (places s)
  pub inside : (x : ℕ) → In x (places_from tries s (next s p)) → In x (places s)
  pub rest : Q (p ∷ places_from tries s (next s p))

pub left_start : (s : Recipe) (Q : List ℕ → Type 0) → Q (places s) → Left s Q 0
unfolding stop places
left_start s Q q = record { tries = length s.bytes; enough = omega arith; stops = refl; inside = λ x i. i; rest = q }

module _ {s : Recipe} {Q : List ℕ → Type 0} {p : ℕ} where
  -- where reading does not go on, it stops
  pub left_end : Left s Q p → is_readable s p ≡ false → p ≡ stop s
  unfolding stop_from
  left_end l e = sym (l.stops ∙ go l.tries)
    where
      go : (n : ℕ) → stop_from n s p ≡ p
      go zero = refl
      go (suc n) = rw (e, stop_from)

  pub left-at : Left s Q p → is_readable s p ≡ true → Reached s Q p
  unfolding stop_from places_from
  left-at l e = go l.tries l.enough l.stops l.inside l.rest
    where
      go : (n : ℕ) → length s.bytes ≤ p + n → stop s ≡ stop_from n s p → ((x : ℕ) → In x (places_from n s p) → In x (places s)) → Q (places_from n s p) → Reached s Q p
      go zero h st i r = absurd (omega (arith, readable-fits s p e, next_more s p))
      go (suc n) h st i r = record {
        tries = n;
        enough = omega (arith, next_more s p);
        readable = e;
        stops = rw (e, stop_from) at st;
        place = i p (rw (e, places_from) (inl refl));
        inside = λ x j. i x (rw (e, places_from) (inr j));
        rest = rw (e, places_from) at r;
      }

  -- before the end of a recipe that is read to its end there is a record
  pub reached : stop s ≡ length s.bytes → Left s Q p → p < length s.bytes → Reached s Q p
  reached w l h = by_cases (is_readable s p) (left-at l) (λ b. let q = left_end l b in absurd (omega arith))

  pub left-behind : {R : List ℕ → Type 0} (h : Reached s Q p) → R (places_from h.tries s (next s p)) → Left s R (next s p)
  left-behind h r = record { tries = h.tries; enough = h.enough; stops = h.stops; inside = h.inside; rest = r }

-- from the first record on to that at p, where Q goes on behind each before it
pub reach-place : (s : Recipe) (Q : List ℕ → Type 0) (p : ℕ) → ((x : ℕ) (ps : List ℕ) → x < p → Q (x ∷ ps) → Q ps) → Q (places s) → In p (places s) → Reached s Q p
unfolding places stop places_from stop_from
reach-place s Q p skips q i = go (length s.bytes) 0 (omega arith) refl (λ x j. j) q i
  where
    go : (n p₀ : ℕ) → length s.bytes ≤ p₀ + n → stop s ≡ stop_from n s p₀ → ((x : ℕ) → In x (places_from n s p₀) → In x (places s)) → Q (places_from n s p₀) → In p (places_from n s p₀) → Reached s Q p
    go zero p₀ e st ins r i = absurd i
    go (suc n) p₀ e st ins r i =
        by_cases (is_readable s p₀)
        (λ b.
        ⊎_elim
        (λ (z : p ≡ p₀). rw z (left-at (record { tries = suc n; enough = e; stops = st; inside = ins; rest = r }) b))
        (λ (j : In p (places_from n s (next s p₀))).
        go n (next s p₀) (omega (arith, next_more s p₀)) (rw (b, stop_from) at st) (λ x k. ins x (rw (b, places_from) (inr k)))
        (skips p₀ (places_from n s (next s p₀)) (omega (arith, places-least s n (next s p₀) p j, next_more s p₀)) (rw (b, places_from) at r)) j)
        (rw (b, places_from) at i))
        (λ b. absurd (rw (b, places_from) at i))

-- ---- a loop that looks for the first that passes the test t
-- the first of all is the first of those left
pub record FirstIn (s : Recipe) (t : ℕ → Bool) (ps : List ℕ) : Type 0 where
  pub same : first t (places s) ≡ first t ps

abbrev pub Going : Recipe → (ℕ → Bool) → ℕ → Type 0
Going s t p = Left s (FirstIn s t) p

abbrev pub Here : Recipe → (ℕ → Bool) → ℕ → Type 0
Here s t p = Reached s (FirstIn s t) p

pub going_start : (s : Recipe) (t : ℕ → Bool) → Going s t 0
going_start s t = left_start s (FirstIn s t) (record { same = refl })

pub here : (s : Recipe) (t : ℕ → Bool) (p : ℕ) → stop s ≡ length s.bytes → Going s t p → p < length s.bytes → Here s t p
here s t p whole g l = reached whole g l

pub here-fits : {s : Recipe} {t : ℕ → Bool} {p : ℕ} → Here s t p → next s p ≤ length s.bytes
here-fits {s} {t} {p} h = readable-fits s p h.readable

-- it passes the test: it is the first
pub going-hit : {s : Recipe} {t : ℕ → Bool} {p : ℕ} → Here s t p → t p ≡ true → first t (places s) ≡ Some p
going-hit {s} {t} {p} h e = h.rest.same ∙ rw (e, first)

-- it does not: go on behind it
pub going_more : {s : Recipe} {t : ℕ → Bool} {p : ℕ} → Here s t p → t p ≡ false → Going s t (next s p)
going_more {s} {t} {p} h e = left-behind h (record { same = h.rest.same ∙ rw (e, first) })

pub none-past : (s : Recipe) (n p : ℕ) → length s.bytes ≤ p → places_from n s p ≡ []
unfolding places_from
none-past s zero p l = refl
none-past s (suc n) p l = rw (unread s p l, places_from)

-- the end: none passes
pub going_end : {s : Recipe} {t : ℕ → Bool} {p : ℕ} → Going s t p → length s.bytes ≤ p → first t (places s) ≡ None
going_end {s} {t} {p} g l = g.rest.same ∙ ap (first t) (none-past s g.tries p l)

-- the record's length is that of its kind: what is left behind it, within the recipe
pub going_on : {s : Recipe} {t : ℕ → Bool} {p n : ℕ} → Here s t p → t p ≡ false → n ≡ record_length s.width (get_or s.bytes p 0) → Going s t (p + n)
unfolding next kind
going_on {s} {t} {p} {n} h e l = rw l (going_more h e)

pub on_fits : {s : Recipe} {t : ℕ → Bool} {p n : ℕ} → Here s t p → n ≡ record_length s.width (get_or s.bytes p 0) → p + n ≤ length s.bytes
unfolding next kind
on_fits {s} {t} {p} {n} h l = rw l (here-fits h)

pub on-more : (w k : ℕ) {n : ℕ} → n ≡ record_length w k → 1 ≤ n
unfolding record_length
on-more w k {n} l = omega arith

-- an element's class byte is in the recipe
pub class_low : (s : Recipe) (e : ℕ) → In e (places s) → is_element s e ≡ true → e + 1 + s.width < length s.bytes
unfolding is_element next
class_low s e i h =
    let k : kind s e ≡ 2 = eqb-true (kind s e) 2 h in
    omega (arith, readable-fits s e (readable s e i), length_three s.width (kind s e) (omega arith) (omega arith) (λ z. omega arith) (λ z. omega arith) (λ z. omega arith))
