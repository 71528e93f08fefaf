-- The fewest underscores: two or more and at most the name width w, free, and each smaller count taken; a prefix has at most w + 2 bytes.
-- Assumes nothing.
use mathlib.Core.Path.{◌≡◌, refl, sym, ◌∙◌}
use mathlib.Core.Logic.{inl, inr}
use Prim.Native.Nat.{ℕ, zero, suc, pred, ◌+◌, ◌-◌, ◌≤◌, ◌<◌}
use native.Mathlib.Omega.{arith}
use native.Mathlib.Decide.{dec_le}
use native.Mathlib.Nat.{add-zero}
use mathlib.Core.Bool.{true, false, false≢true}
use mathlib.Core.List.{List, [], ◌∷◌}
use lib.ListN.{length, length-append, length-replicate}
use Rattle.names.specs.Lists.{In, any, begins}
use Rattle.names.proofs.Tests.{by_cases}
use Rattle.names.proofs.Lists.{begins-length}
use Rattle.flat_names.specs.Prefixes.{with_underscores, is_taken, fewest_from, fewest}

-- each name of the list is at most w long
abbrev pub Short : ℕ → List (List ℕ) → Type 0
Short w [] = Unit {0}
Short w (n ∷ ns) = (length n ≤ w) × Short w ns

pub short : (w : ℕ) (ns : List (List ℕ)) → ((n : List ℕ) → In n ns → length n ≤ w) → Short w ns
short w [] h = tt
short w (n ∷ ns) h = (h n (inl refl), short w ns (λ k i. h k (inr i)))

-- too long a prefix begins none
long-begins-none : (w : ℕ) (p : List ℕ) (ns : List (List ℕ)) → Short w ns → w < length p → any (begins p) ns ≡ false
long-begins-none w p [] h l = refl
long-begins-none w p (n ∷ ns) h l =
    by_cases (begins p n)
    (λ e. absurd (omega (arith, begins-length p n e)))
    (λ e. rw (e, any) (long-begins-none w p ns h.1 l))

length-with : (m : List ℕ) (k : ℕ) → length (with_underscores m k) ≡ length m + k
unfolding with_underscores
length-with m k = rw (length-append, length-replicate)

module _ (names : List (List ℕ)) (m : List ℕ) where
  low : (n k : ℕ) → k ≤ fewest_from n names m k
  unfolding fewest_from
  low zero k = omega arith
  low (suc n) k = by_cases (is_taken names m k) (λ e. rw (e, fewest_from) (omega (arith, low n (suc k)))) (λ e. rw (e, fewest_from) (omega arith))

  high : (n k : ℕ) → fewest_from n names m k ≤ k + n
  unfolding fewest_from
  high zero k = omega arith
  high (suc n) k = by_cases (is_taken names m k) (λ e. rw (e, fewest_from) (omega (arith, high n (suc k)))) (λ e. rw (e, fewest_from) (omega arith))

  -- once a count is free, more tries change nothing
  more : (n j k : ℕ) → n ≤ j → is_taken names m (fewest_from n names m k) ≡ false → fewest_from j names m k ≡ fewest_from n names m k
  unfolding fewest_from
  more zero zero k l e = refl
  more zero (suc j) k l e = rw (e, fewest_from)
  more (suc n) zero k l e = absurd (omega arith)
  more (suc n) (suc j) k l e =
      by_cases (is_taken names m k)
      (λ t. rw (t, fewest_from) (more n j (suc k) (omega arith) (rw (t, fewest_from) at e)))
      (λ t. rw (t, fewest_from))

  -- every smaller count is taken
  smaller : (n k j : ℕ) → k ≤ j → j < fewest_from n names m k → is_taken names m j ≡ true
  unfolding fewest_from
  smaller zero k j h l = absurd (omega arith)
  smaller (suc n) k j h l =
      by_cases (is_taken names m k)
      (λ e. elim (dec_le (suc k) j) [
        | yes q ↦ smaller n (suc k) j q (rw (e, fewest_from) at l)
        | no q ↦ rw (eq_of q) e
      ])
      (λ e. absurd (omega (arith, rw (e, fewest_from) at l)))
    where
      eq_of : ¬ (suc k ≤ j) → j ≡ k
      eq_of q = omega arith

  -- the count is not taken, where the last one tried is not
  free : (n k : ℕ) → is_taken names m (k + n) ≡ false → is_taken names m (fewest_from n names m k) ≡ false
  unfolding fewest_from
  free zero k h = rw (← add-zero k) h
  free (suc n) k h =
      by_cases (is_taken names m k)
      (λ e. rw (e, fewest_from) (free n (suc k) (rw shift at h)))
      (λ e. rw (e, fewest_from) e)
    where
      shift : k + suc n ≡ suc k + n
      shift = omega arith

-- what begins one of the names is no longer than a name may be
taken-short : (w : ℕ) (ns : List (List ℕ)) (m : List ℕ) (k : ℕ) → Short w ns → is_taken ns m k ≡ true → length m + k ≤ w
unfolding is_taken
taken-short w ns m k h e =
    elim (dec_le (length m + k) w) [
      | yes q ↦ q
      | no q ↦ absurd (false≢true (sym (long-begins-none w (with_underscores m k) ns h (omega (arith, length-with m k))) ∙ e))
    ]

-- a name that is not empty and as many underscores as a name has bytes begin no name
untaken : (ns : List (List ℕ)) (m : List ℕ) (k : ℕ) → Short k ns → 1 ≤ length m → is_taken ns m k ≡ false
unfolding is_taken
untaken ns m k h l = long-begins-none k (with_underscores m k) ns h (omega (arith, length-with m k))

-- the count that a prefix has
pub record Count (w : ℕ) (ns : List (List ℕ)) (m : List ℕ) (c : ℕ) : Type 0 where
  pub two : 2 ≤ c
  pub most : c ≤ w
  pub free : is_taken ns m c ≡ false
  pub fewest : (j : ℕ) → 2 ≤ j → j < c → is_taken ns m j ≡ true
  pub bytes : length (with_underscores m c) ≤ w + 2

-- "The count is at most 12 and the prefix at most 14 bytes"
pub fewest-count : (w : ℕ) → 2 ≤ w → (ns : List (List ℕ)) (m : List ℕ) → Short w ns → 1 ≤ length m → length m ≤ w → Count w ns m (fewest w ns m)
unfolding fewest
fewest-count w two-fit ns m h l long =
    let n : ℕ = w - 2 in
    let full : 2 + n ≡ w = omega (arith, two-fit) in
    let c : ℕ = fewest_from n ns m 2 in
    let top : c ≤ w = omega (arith, high ns m n 2, two-fit) in
    let below : (j : ℕ) → 2 ≤ j → j < c → is_taken ns m j ≡ true = smaller ns m n 2 in
    record {
      two = low ns m n 2;
      most = top;
      free = free ns m n 2 (rw full (untaken ns m w h l));
      fewest = below;
      bytes = elim (dec_le c 2) [
        | yes q ↦ omega (arith, length-with m c)
        | no q ↦ omega (arith, length-with m c, taken-short w ns m (pred c) h (below (pred c) (omega arith) (omega arith)))
      ];
    }

-- more tries change nothing
pub fewest-suffices : (w k : ℕ) → 2 ≤ w → (ns : List (List ℕ)) (m : List ℕ) → Short w ns → 1 ≤ length m → length m ≤ w
    → fewest_from (w - 2 + k) ns m 2 ≡ fewest w ns m
unfolding fewest
fewest-suffices w k two-fit ns m h l long = more ns m (w - 2) (w - 2 + k) 2 (omega arith) (fewest-count w two-fit ns m h l long).free
