-- Runs of underscores behind a name, and the counts to which the names around raise the count: they rise, and the last is taken by none of them and each that is less by one.
-- Assumes nothing.
use mathlib.Core.Path.{◌≡◌, refl, sym, ap, ◌∙◌}
use mathlib.Core.Logic.{inr, ⊎_elim}
use Prim.Native.Nat.{ℕ, zero, suc, ◌+◌, ◌≤◌, ◌<◌, max, min}
use native.Mathlib.Omega.{arith}
use native.Mathlib.Decide.{dec_le}
use mathlib.Core.Bool.{Bool, true, false, false≢true}
use mathlib.Core.List.{List, [], ◌∷◌, ◌++◌}
use lib.ListN.{length, get_or, take, drop, replicate, length-append, length-replicate}
use lib.Seq.{take-append_seam, drop-append_seam, take-take}
use lib.Dec.{eqb}
use borrow.Author.Tests.{eqb-true, eq-eqb, ne_eqb}
use Rattle.names.specs.Lists.{In, any, every, keep_while, begins}
use Rattle.names.specs.Names.{underscore, non_zero, text}
use Rattle.names.proofs.Tests.{by_cases, not-both, and_left, and_right, three}
use Rattle.names.proofs.ListOrder.{Rising, last-from}
use Rattle.names.proofs.Lists.{while-on, while-off, take_while, begins-append, begins-rest, begins-length}
use Rattle.names.proofs.Runs.{run_length}
use Rattle.flat_names.specs.Prefixes.{with_underscores, is_taken}
use Rattle.flat_names.specs.Underscores.{run_first, run_behind, raised, raises, last_try}
use Rattle.flat_names.proofs.Fewest.{Short, Count}

-- ---- underscores at the beginning of a list
first-most : (k : ℕ) (x : List ℕ) → begins (replicate k underscore) x ≡ true → k ≤ run_first x
unfolding run_first
first-most zero x e = omega arith
first-most (suc k) [] e = absurd (false≢true e)
first-most (suc k) (y ∷ x) e =
    let u = and_left (eqb underscore y) _ e in
    rw (while-on (eqb underscore) y x u) (omega (arith, first-most k x (and_right (eqb underscore y) _ e)))

most-first : (k : ℕ) (x : List ℕ) → k ≤ run_first x → begins (replicate k underscore) x ≡ true
unfolding run_first
most-first zero x h = refl
most-first (suc k) [] h = absurd (omega arith)
most-first (suc k) (y ∷ x) h =
    by_cases (eqb underscore y)
    (λ u. rw u (most-first k x (let g : suc k ≤ suc (length (keep_while (eqb underscore) x)) = rw (while-on (eqb underscore) y x u) at h in omega arith)))
    (λ u. absurd (let g : suc k ≤ 0 = rw (while-off (eqb underscore) y x u) at h in omega arith))

-- among the first w bytes of a list there are no more than w
pub first-take : (w : ℕ) (x : List ℕ) → run_first (take w x) ≡ min w (run_first x)
unfolding run_first
first-take zero x = omega arith
first-take (suc w) [] = omega arith
first-take (suc w) (y ∷ x) =
    by_cases (eqb underscore y)
    (λ u. rw (while-on (eqb underscore) y (take w x) u, while-on (eqb underscore) y x u) (omega (arith, first-take w x)))
    (λ u. rw (while-off (eqb underscore) y (take w x) u, while-off (eqb underscore) y x u) (omega arith))

-- ---- behind a name
behind-on : (a : ℕ) (n : List ℕ) (b : ℕ) (x : List ℕ) → eqb a b ≡ true → run_behind (a ∷ n) (b ∷ x) ≡ run_behind n x
unfolding run_behind
behind-on a n b x e = rw e

behind-off : (a : ℕ) (n : List ℕ) (b : ℕ) (x : List ℕ) → eqb a b ≡ false → run_behind (a ∷ n) (b ∷ x) ≡ 0
unfolding run_behind
behind-off a n b x e = rw e

behind-empty : (a : ℕ) (n : List ℕ) → run_behind (a ∷ n) [] ≡ 0
unfolding run_behind
behind-empty a n = refl

behind-none : (x : List ℕ) → run_behind [] x ≡ run_first x
unfolding run_behind
behind-none x = refl

-- a name and k underscores begin a name where k or more follow it there
pub behind-most : (n : List ℕ) (k : ℕ) (x : List ℕ) → begins (n ++ replicate k underscore) x ≡ true → k ≤ run_behind n x
behind-most [] k x e = rw behind-none (first-most k x e)
behind-most (a ∷ n) k [] e = absurd (false≢true e)
behind-most (a ∷ n) k (b ∷ x) e =
    let u = and_left (eqb a b) _ e in
    rw (behind-on a n b x u) (behind-most n k x (and_right (eqb a b) _ e))

pub most-behind : (n : List ℕ) (k : ℕ) (x : List ℕ) → 1 ≤ k → k ≤ run_behind n x → begins (n ++ replicate k underscore) x ≡ true
most-behind [] k x l h = most-first k x (rw behind-none at h)
most-behind (a ∷ n) k [] l h = absurd (omega (arith, behind-empty a n))
most-behind (a ∷ n) k (b ∷ x) l h =
    by_cases (eqb a b)
    (λ u. rw u (most-behind n k x l (rw (behind-on a n b x u) at h)))
    (λ u. absurd (let g : k ≤ 0 = rw (behind-off a n b x u) at h in omega arith))

-- a run and the name before it are bytes of the name that has them
behind-bytes : (n x : List ℕ) → 1 ≤ run_behind n x → length n + run_behind n x ≤ length x
behind-bytes n x h =
    omega (
      arith,
      begins-length (n ++ replicate (run_behind n x) underscore) x (most-behind n (run_behind n x) x h (omega arith)),
      length-append n (replicate (run_behind n x) underscore),
      length-replicate (run_behind n x) underscore,
    )

pub behind-short : (n x : List ℕ) → run_behind n x ≤ length x
behind-short n x = elim (dec_le 1 (run_behind n x)) [
  | yes q ↦ omega (arith, behind-bytes n x q)
  | no q ↦ omega arith
]

-- ---- one name: it takes the count just where its run is as long
taken-on : (n : List ℕ) (u : ℕ) (x : List ℕ) → 1 ≤ u → u ≤ run_behind n x → begins (with_underscores n u) x ≡ true
unfolding with_underscores
taken-on n u x l h = most-behind n u x l h

taken-off : (n : List ℕ) (u : ℕ) (x : List ℕ) → run_behind n x < u → begins (with_underscores n u) x ≡ false
unfolding with_underscores
taken-off n u x h = by_cases (begins (n ++ replicate u underscore) x) (λ e. absurd (omega (arith, behind-most n u x e))) (λ e. e)

pub raised_is : (n : List ℕ) (u : ℕ) (x : List ℕ) → 1 ≤ u → raised n x u ≡ max u (run_behind n x + 1)
unfolding raised
raised_is n u x l = elim (dec_le u (run_behind n x)) [
  | yes q ↦ rw (taken-on n u x l q) (omega arith)
  | no q ↦ rw (taken-off n u x (omega arith)) (omega arith)
]

-- ---- names one after the other
module _ (n : List ℕ) where
  raises-on : (u : ℕ) (x : List ℕ) (names : List (List ℕ)) → begins (with_underscores n u) x ≡ true → raises n (x ∷ names) u ≡ raised n x u ∷ raises n names (raised n x u)
  unfolding raises
  raises-on u x names e = rw e

  raises-off : (u : ℕ) (x : List ℕ) (names : List (List ℕ)) → begins (with_underscores n u) x ≡ false
      → (raises n (x ∷ names) u ≡ raises n names u) × (raised n x u ≡ u)
  unfolding raises raised
  raises-off u x names e = (rw e, rw e)

  -- what the names behind x raise the count to is what all of them do
  pub last_more : (u : ℕ) (x : List ℕ) (names : List (List ℕ)) → last_try n names (raised n x u) ≡ last_try n (x ∷ names) u
  last_more u x names =
      by_cases (begins (with_underscores n u) x)
      (λ e. rw (raises-on u x names e))
      (λ e. let r = raises-off u x names e in rw (r.0, r.1))

  pub tried-more : (u : ℕ) (x : List ℕ) (names : List (List ℕ)) (k : ℕ) → In k (raised n x u ∷ raises n names (raised n x u)) → In k (u ∷ raises n (x ∷ names) u)
  tried-more u x names k i =
      by_cases (begins (with_underscores n u) x)
      (λ e. rw (raises-on u x names e) (inr i))
      (λ e. let r = raises-off u x names e in rw r.0 (rw r.1 at i))

  -- names behind others raise the count that those leave
  pub last-append : (xs ys : List (List ℕ)) (u : ℕ) → last_try n (xs ++ ys) u ≡ last_try n ys (last_try n xs u)
  unfolding raises
  last-append [] ys u = refl
  last-append (x ∷ xs) ys u = sym (last_more u x (xs ++ ys)) ∙ (last-append xs ys (raised n x u) ∙ ap (last_try n ys) (last_more u x xs))

  pub raises-append : (xs ys : List (List ℕ)) (u : ℕ) → raises n (xs ++ ys) u ≡ raises n xs u ++ raises n ys (last_try n xs u)
  unfolding raises
  raises-append [] ys u = refl
  raises-append (x ∷ xs) ys u =
      by_cases (begins (with_underscores n u) x)
      (λ e. rw e (ap (λ (l : List ℕ). raised n x u ∷ l) (raises-append xs ys (raised n x u))))
      (λ e. rw e (raises-append xs ys u))

  -- they rise
  pub raises-rise : (names : List (List ℕ)) (u : ℕ) → 1 ≤ u → Rising (suc u) (raises n names u)
  unfolding raises
  raises-rise [] u l = tt
  raises-rise (x ∷ names) u l =
      elim (dec_le u (run_behind n x)) [
        | yes q ↦ rw (taken-on n u x l q) (omega (arith, raised_is n u x l), raises-rise names (raised n x u) (omega (arith, raised_is n u x l)))
        | no q ↦ rw (taken-off n u x (omega arith)) (raises-rise names u l)
      ]

  -- no further than the names are long
  pub raises-short : (w : ℕ) (names : List (List ℕ)) (u : ℕ) → 1 ≤ u → 1 ≤ length n → Short w names → (k : ℕ) → In k (raises n names u) → k ≤ w
  unfolding raises
  raises-short w [] u l h short k i = absurd i
  raises-short w (x ∷ names) u l h short k i =
      elim (dec_le u (run_behind n x)) [
        | yes q ↦ ⊎_elim
            (λ (e : k ≡ raised n x u). omega (arith, raised_is n u x l, behind-bytes n x (omega arith), short.0))
            (λ (j : In k (raises n names (raised n x u))). raises-short w names (raised n x u) (omega (arith, raised_is n u x l)) h short.1 k j)
            (rw (taken-on n u x l q) at i)
        | no q ↦ raises-short w names u l h short.1 k (rw (taken-off n u x (omega arith)) at i)
      ]

  pub last-least : (names : List (List ℕ)) (u : ℕ) → 1 ≤ u → u ≤ last_try n names u
  last-least names u l = last-from u (raises n names u) (raises-rise names u l)

  pub last_some : (names : List (List ℕ)) (u : ℕ) {k : ℕ} → k ≡ last_try n names u → 1 ≤ u → 1 ≤ k
  last_some names u {k} e l = omega (arith, last-least names u l)

  free_more : (k : ℕ) (x : List ℕ) (names : List (List ℕ)) → run_behind n x < k → is_taken names n k ≡ false → is_taken (x ∷ names) n k ≡ false
  unfolding is_taken
  free_more k x names l h = rw (taken-off n k x l, any) h

  -- the last is taken by none of the names
  pub last-free : (names : List (List ℕ)) (u : ℕ) → 1 ≤ u → is_taken names n (last_try n names u) ≡ false
  unfolding is_taken
  last-free [] u l = refl
  last-free (x ∷ names) u l =
      let is = raised_is n u x l in
      let above = last-least names (raised n x u) (omega arith) in
      ap (is_taken (x ∷ names) n) (sym (last_more u x names))
      ∙ free_more (last_try n names (raised n x u)) x names (omega arith) (last-free names (raised n x u) (omega arith))

  -- and one of them takes each that is less
  pub less-taken : (names : List (List ℕ)) (u k : ℕ) → 1 ≤ u → u ≤ k → k < last_try n names u → is_taken names n k ≡ true
  unfolding is_taken raises
  less-taken [] u k l h g = absurd (omega arith)
  less-taken (x ∷ names) u k l h g =
      let is = raised_is n u x l in
      elim (dec_le k (run_behind n x)) [
        | yes q ↦ rw (any, taken-on n k x (omega arith) q)
        | no q ↦
            rw (any, taken-off n k x (omega arith))
            (less-taken names (raised n x u) k (omega arith) (omega arith) (rw (last_more u x names) g))
      ]

-- two counts that are free, and each less is taken, are one
pub count-is : {w : ℕ} {names : List (List ℕ)} {n : List ℕ} {c : ℕ} (k : ℕ) → Count w names n c → 2 ≤ k → is_taken names n k ≡ false
    → ((j : ℕ) → 2 ≤ j → j < k → is_taken names n j ≡ true) → k ≡ c
count-is {w} {names} {n} {c} k r two free less =
    three k c
    (λ l. not-both (r.fewest k two l) free)
    (λ e. e)
    (λ l. not-both (less c r.two l) r.free)

-- ---- a run in a field, by the field's bytes
while-every : (t : ℕ → Bool) (xs : List ℕ) → every t (keep_while t xs) ≡ true
while-every t [] = refl
while-every t (x ∷ xs) =
    by_cases (t x)
    (λ e. rw (while-on t x xs e, e, every) (while-every t xs))
    (λ e. rw (while-off t x xs e))

pub text-nonzero : (f : List ℕ) → every non_zero (text f) ≡ true
unfolding text
text-nonzero f = while-every non_zero f

text-more : (x : ℕ) (f : List ℕ) → non_zero x ≡ true → text (x ∷ f) ≡ x ∷ text f
unfolding text
text-more x f k = while-on non_zero x f k

-- a field that begins with a name: its text is that name and the text behind
text-split : (n f : List ℕ) → every non_zero n ≡ true → take (length n) f ≡ n → text f ≡ n ++ text (drop (length n) f)
text-split [] f h e = refl
text-split (y ∷ n) [] h e = absurd (let z : ◌≡◌ {A = ℕ} 0 1 = cc in omega arith)
text-split (y ∷ n) (x ∷ f) h e =
    by_cases (non_zero y)
    (λ k.
    let a : x ≡ y = cc in
    let b : take (length n) f ≡ n = cc in
    let r : text f ≡ n ++ text (drop (length n) f) = text-split n f (rw (k, every) at h) b in
    text-more x f (ap non_zero a ∙ k) ∙ (ap (λ (z : ℕ). z ∷ text f) a ∙ ap (λ (l : List ℕ). y ∷ l) r))
    (λ k. absurd (false≢true (rw (k, every) at h)))

underscore-some : non_zero underscore ≡ true
unfolding non_zero underscore
underscore-some = refl

first-text : (f : List ℕ) → run_first (text f) ≡ run_first f
unfolding run_first text
first-text [] = refl
first-text (x ∷ f) =
    by_cases (eqb underscore x)
    (λ u.
    let z : non_zero x ≡ true = ap non_zero (sym (eqb-true underscore x u)) ∙ underscore-some in
    rw (while-on non_zero x f z, while-on (eqb underscore) x (keep_while non_zero f) u, while-on (eqb underscore) x f u) (ap suc (first-text f)))
    (λ u.
    by_cases (non_zero x)
    (λ z. rw (while-on non_zero x f z, while-off (eqb underscore) x (keep_while non_zero f) u, while-off (eqb underscore) x f u))
    (λ z. rw (while-off non_zero x f z, while-off (eqb underscore) x f u)))

pub behind-field : (n f : List ℕ) → every non_zero n ≡ true → take (length n) f ≡ n → run_first (drop (length n) f) ≡ run_behind n (text f)
unfolding run_behind
behind-field n f h e =
    rw (text-split n f h e, begins-append n (text (drop (length n) f)), drop-append_seam n (text (drop (length n) f)))
    (sym (first-text (drop (length n) f)))

pub behind-other : (n f : List ℕ) → (take (length n) f ≡ n → ⊥) → 0 ≡ run_behind n (text f)
unfolding run_behind text
behind-other n f h =
    by_cases (begins n (text f))
    (λ b.
    let r = begins-rest n (text f) b in
    let l = begins-length n (text f) b in
    absurd (h (sym (take-take (length n) (length (text f)) f l) ∙ (ap (take (length n)) (take_while non_zero f ∙ r.1) ∙ take-append_seam n r.0))))
    (λ b. rw b)

-- ---- a loop that counts them: the first k bytes are underscores, and the next is none
pub counted : (f : List ℕ) (k : ℕ) → ((j : ℕ) → j < k → get_or f j 0 ≡ 95) → (k < length f → get_or f k 0 ≡ 95 → ⊥) → k ≤ length f → k ≡ run_first f
unfolding run_first underscore
counted f k p e l = run_length (eqb 95) f k l (λ j g. eq-eqb 95 (get_or f j 0) (sym (p j g))) (λ g. ne_eqb 95 (get_or f k 0) (λ q. e g (sym q)))
