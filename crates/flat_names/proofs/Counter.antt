-- Paper 3 on one page: the count of underscores that is tried for a prefix is a byte, 2 to the name width from the first try to the last; the last is document 01's fewest, and no answer differs.
-- Assumes names of 2 to 64 bytes, and a recipe that row 3 does not refuse.
use Rattle.std.specs.Prelude.{None}
use mathlib.Core.Path.{◌≡◌, refl, sym, ap, ◌∙◌}
use mathlib.Core.Logic.{inl, inr}
use Prim.Native.Nat.{ℕ, ◌≤◌, ◌<◌}
use native.Mathlib.Omega.{arith}
use mathlib.Core.Bool.{true, false}
use mathlib.Core.List.{List, ◌∷◌, ◌++◌}
use lib.ListN.{get_or}
use Rattle.names.specs.Lists.{In, last_or}
use Rattle.names.proofs.ListOrder.{Rising, rising-in}
use Rattle.names.proofs.Lists.{last-in, append_left, append_right}
use Rattle.recipe.specs.Records.{Recipe, name}
use Rattle.recipe.specs.Definitions.{holder, submodels, model_of}
use Rattle.recipe.specs.Reading.{fault₃}
use Rattle.recipe.proofs.Rows.{submodel-name}
use Rattle.shadow.specs.Columns.{Linked}
use Rattle.flat_names.specs.Prefixes.{declared_names, names_around, is_taken, fewest}
use Rattle.flat_names.specs.Underscores.{raises, last_try, tries}
use Rattle.flat_names.proofs.OneName.{names-short, prefix-count}
use Rattle.flat_names.proofs.Underscores.{raises-append, raises-rise, raises-short, last-append, last-free, last-least, less-taken, count-is}
use Rattle.flat_names.proofs.Looking.{RaiseLoop, Both}

-- the counts that are tried for the submodel m, in order: the names of the definition that holds it are looked at, then those of its model
abbrev pub tries_for : Recipe → ℕ → List ℕ
tries_for s m = tries (name s m) (names_around s m)

-- the count that the names of the definition that holds m leave, and the names of its model begin with
abbrev pub handed_on : Recipe → ℕ → ℕ
handed_on s m = last_try (name s m) (declared_names s (holder s m)) 2

pub record Counter (s : Recipe) (m : ℕ) : Type 0 where
  -- the first try is 2
  pub first : get_or (tries_for s m) 0 0 ≡ 2
  -- each try is at least 2 and at most the name width, and so it is a byte: it never runs over
  pub least : (k : ℕ) → In k (tries_for s m) → 2 ≤ k
  pub most : (k : ℕ) → In k (tries_for s m) → k ≤ s.width
  pub byte : (k : ℕ) → In k (tries_for s m) → k < 256
  -- with the width of document 01: 2 to 12
  pub twelve : s.width ≡ 12 → (k : ℕ) → In k (tries_for s m) → (2 ≤ k) × (k ≤ 12)
  -- they rise
  pub rise : Rising 2 (tries_for s m)
  -- the last is document 01's fewest: it is free, and every smaller count from 2 on is taken
  pub last : last_or 0 (tries_for s m) ≡ fewest s.width (names_around s m) (name s m)
  pub free : is_taken (names_around s m) (name s m) (last_or 0 (tries_for s m)) ≡ false
  pub taken : (k : ℕ) → 2 ≤ k → k < last_or 0 (tries_for s m) → is_taken (names_around s m) (name s m) k ≡ true
  -- the byte of the code, `raise_count`, is one of the tries at every turn of its loop: in the look at the outer names, which begins with 2,
  pub outer-turn : {p u : ℕ} → RaiseLoop s (holder s m) m 2 p u → In u (tries_for s m)
  -- and in the look at the inner names, which begins with what the first one answered
  pub inner-turn : {p u : ℕ} → RaiseLoop s (model_of s m) m (handed_on s m) p u → In u (tries_for s m)
  -- no answer differs: what the second look answers is the last try, and so the fewest, as `fewest_underscores` promised before
  pub answer : {r : ℕ} → r ≡ last_try (name s m) (declared_names s (model_of s m)) (handed_on s m) → r ≡ fewest s.width (names_around s m) (name s m)

module _ (s : Recipe) (two : 2 ≤ s.width) (narrow : s.width ≤ 64) (h₃ : fault₃ s ≡ None) (m : ℕ) (i : In m (submodels s (holder s m))) where
  abbrev n : List ℕ
  n = name s m

  abbrev outer : List (List ℕ)
  outer = declared_names s (holder s m)

  abbrev inner : List (List ℕ)
  inner = declared_names s (model_of s m)

  -- the tries of both looks
  all : tries_for s m ≡ (2 ∷ raises n outer 2) ++ raises n inner (handed_on s m)
  unfolding tries names_around
  all = ap (λ (l : List ℕ). 2 ∷ l) (raises-append n outer inner 2)

  rises : Rising 2 (tries_for s m)
  unfolding tries
  rises = (omega arith, raises-rise n (names_around s m) 2 (omega arith))

  at_most : (k : ℕ) → In k (tries_for s m) → k ≤ s.width
  unfolding tries
  at_most k (inl e) = omega arith
  at_most k (inr j) = raises-short n s.width (names_around s m) 2 (omega arith) (submodel-name s h₃ (holder s m) m i) (names-short s m) k j

  at_least : (k : ℕ) → In k (tries_for s m) → 2 ≤ k
  at_least k j = rising-in 2 (tries_for s m) k rises j

  none-takes : is_taken (names_around s m) n (last_try n (names_around s m) 2) ≡ false
  none-takes = last-free n (names_around s m) 2 (omega arith)

  one-takes : (k : ℕ) → 2 ≤ k → k < last_try n (names_around s m) 2 → is_taken (names_around s m) n k ≡ true
  one-takes k = less-taken n (names_around s m) 2 k (omega arith)

  last-fewest : last_try n (names_around s m) 2 ≡ fewest s.width (names_around s m) n
  last-fewest =
      count-is (last_try n (names_around s m) 2) (prefix-count s two h₃ (holder s m) m i)
      (last-least n (names_around s m) 2 (omega arith)) none-takes one-takes

  in-outer : (k : ℕ) → In k (2 ∷ raises n outer 2) → In k (tries_for s m)
  in-outer k j = rw all (append_left (2 ∷ raises n outer 2) (raises n inner (handed_on s m)) k j)

  in_inner : (k : ℕ) → In k (handed_on s m ∷ raises n inner (handed_on s m)) → In k (tries_for s m)
  in_inner k (inl e) = rw e (in-outer (handed_on s m) (last-in 2 (raises n outer 2)))
  in_inner k (inr j) = rw all (append_right (2 ∷ raises n outer 2) (raises n inner (handed_on s m)) k j)

  both-looks : last_try n inner (handed_on s m) ≡ last_try n (names_around s m) 2
  unfolding names_around
  both-looks = sym (last-append n outer inner 2)

  pub counter : Counter s m
  unfolding tries
  counter = record {
    first = refl;
    least = at_least;
    most = at_most;
    byte = λ k j. omega (arith, at_most k j);
    twelve = λ e k j. (at_least k j, omega (arith, at_most k j));
    rise = rises;
    last = last-fewest;
    free = none-takes;
    taken = one-takes;
    outer-turn = λ {p} {u} g. in-outer u (g.tried u (inl refl));
    inner-turn = λ {p} {u} g. in_inner u (g.tried u (inl refl));
    answer = λ {r} e. e ∙ (both-looks ∙ last-fewest);
  }

-- as the code has both looks, by the shadow
module _ {s : Recipe} {t : List ℕ} (x : Linked s t) (m : ℕ) (i : In m (submodels s (holder s m))) where
  pub counter-of : Counter s m
  counter-of = let h = x.numbered.shadowed in counter s (omega (arith, h.wide)) h.narrow x.row₃ m i

  pub both-looked : {d e u r : ℕ} → Both s m d e → u ≡ last_try (name s m) (declared_names s d) 2 → r ≡ last_try (name s m) (declared_names s e) u
      → r ≡ fewest s.width (names_around s m) (name s m)
  both-looked b f g = counter-of.answer (g ∙ rw (f, b.outer, b.inner))
