-- Two runs merged: what a turn of the merge writes, and that the list has the elements of both runs and is in order where they are. Assumes nothing.
use Rattle.std.specs.Prelude.{Bool}
use mathlib.Core.Path.{◌≡◌, refl, sym, ap, subst, ◌∙◌}
use mathlib.Core.Bool.{true, false}
use mathlib.Core.List.{List, [], ◌∷◌, ◌++◌, append-nil}
use Prim.Native.Nat.{ℕ, suc, ◌+◌, ◌-◌, ◌<◌, ◌≤◌}
use native.Mathlib.Omega.{arith}
use native.Mathlib.Numerals.{add-one}
use lib.ListN.{length, get_or, take, drop, set, length-set, length-append, get_or-append, drop_of_length-le}
use lib.Seq.{drop-cons, sets, sets-eq, take_all, length-take-le, take_at, drop_at, get_or-append-add}
use lib.Dec.{ltb, eqb}
use borrow.Author.Tests.{ltb-true, ltb-false, eqb-true, eqb-false}
use borrow.Rule.Slice.PartMut.{mid_of, put_mid}
use Rattle.std.proofs.lemmas.List.{get_or_default, take-append-drop}
use Rattle.std.specs.List.Sorted.{IsPermutation, IsSortedBy}
use Rattle.std.proofs.lemmas.List.Sorted.{IsPermutation-refl, IsPermutation-trans, IsPermutation-cons, IsPermutation-middle, IsPermutation-append, length_permutation, sorted_far}
use Rattle.names.proofs.Tests.{by_cases, not-both, apart}
use Rattle.name_index.specs.Merging.{between, merged, next_right}
use Rattle.name_index.specs.Positions.{stands}
use Rattle.name_index.proofs.Sorted.{All, Sorted, all_map, far-sorted, sorted-near, one-way, chained, stands-order}

module _ (lt : ℕ → ℕ → Bool) where
  -- ---- the next of two runs
  pub none_left : (a ys : List ℕ) (i : ℕ) → length a ≤ i → next_right lt (drop i a) ys ≡ true
  unfolding next_right
  none_left a ys i h = rw (drop_of_length-le a h)

  pub none_right : (a b : List ℕ) (i j : ℕ) → i < length a → length b ≤ j → next_right lt (drop i a) (drop j b) ≡ false
  unfolding next_right
  none_right a b i j h k = rw (drop-cons a i 0 h, drop_of_length-le b k)

  pub both_left : (a b : List ℕ) (i j : ℕ) → i < length a → j < length b → next_right lt (drop i a) (drop j b) ≡ lt (get_or b j 0) (get_or a i 0)
  unfolding next_right
  both_left a b i j h k = rw (drop-cons a i 0 h, drop-cons b j 0 k)

  right-step : (xs : List ℕ) (b : ℕ) (ys : List ℕ) → next_right lt xs (b ∷ ys) ≡ true → merged lt xs (b ∷ ys) ≡ b ∷ merged lt xs ys
  unfolding next_right merged between
  right-step [] b ys e = refl
  right-step (a ∷ xs) b ys e = rw e

  left_step : (a : ℕ) (xs ys : List ℕ) → next_right lt (a ∷ xs) ys ≡ false → merged lt (a ∷ xs) ys ≡ a ∷ merged lt xs ys
  unfolding next_right merged between
  left_step a xs [] e = refl
  left_step a xs (b ∷ ys) e = rw e

  pub right-room : (a b : List ℕ) (i j : ℕ) → i ≤ length a → i + j < length a + length b → next_right lt (drop i a) (drop j b) ≡ true → j < length b
  right-room a b i j h l e =
      by_cases (ltb j (length b)) (λ t. ltb-true j (length b) t)
      (λ t. let g = ltb-false j (length b) t in not-both e (none_right a b i j (omega arith) g))

  pub left-room : (a b : List ℕ) (i j : ℕ) → next_right lt (drop i a) (drop j b) ≡ false → i < length a
  left-room a b i j e =
      by_cases (ltb i (length a)) (λ t. ltb-true i (length a) t)
      (λ t. not-both (none_left a (drop j b) i (ltb-false i (length a) t)) e)

  pub merge-right : (a b : List ℕ) (i j : ℕ) → j < length b → next_right lt (drop i a) (drop j b) ≡ true
      → merged lt (drop i a) (drop j b) ≡ get_or b j 0 ∷ merged lt (drop i a) (drop (j + 1) b)
  merge-right a b i j h e =
      let d : drop j b ≡ get_or b j 0 ∷ drop (j + 1) b = rw (add-one, drop-cons b j 0 h) in
      rw d (right-step (drop i a) (get_or b j 0) (drop (j + 1) b) (rw d at e))

  pub merge-left : (a b : List ℕ) (i j : ℕ) → i < length a → next_right lt (drop i a) (drop j b) ≡ false
      → merged lt (drop i a) (drop j b) ≡ get_or a i 0 ∷ merged lt (drop (i + 1) a) (drop j b)
  merge-left a b i j h e =
      let d : drop i a ≡ get_or a i 0 ∷ drop (i + 1) a = rw (add-one, drop-cons a i 0 h) in
      rw d (left_step (get_or a i 0) (drop (i + 1) a) (drop j b) (rw d at e))

  pub merge-end : (a b : List ℕ) (i j : ℕ) → length a ≤ i → length b ≤ j → merged lt (drop i a) (drop j b) ≡ []
  unfolding merged
  merge-end a b i j h k = rw (drop_of_length-le a h, drop_of_length-le b k)

  length-between : (a : ℕ) (f : List ℕ → List ℕ) (n : ℕ) → ((ys : List ℕ) → length (f ys) ≡ n + length ys) → (ys : List ℕ) → length (between lt a f ys) ≡ suc (n + length ys)
  unfolding between
  length-between a f n h [] = ap suc (h [])
  length-between a f n h (b ∷ ys) =
      by_cases (lt b a)
      (λ e. rw e (let r = length-between a f n h ys in omega arith))
      (λ e. rw e (ap suc (h (b ∷ ys))))

  pub length_merged : (xs ys : List ℕ) → length (merged lt xs ys) ≡ length xs + length ys
  unfolding merged
  length_merged [] ys = omega arith
  length_merged (a ∷ xs) ys = length-between a (merged lt xs) (length xs) (length_merged xs) ys ∙ omega arith

  -- ---- the elements of both
  between-moved : (a : ℕ) (xs : List ℕ) (f : List ℕ → List ℕ) → ((ys : List ℕ) → IsPermutation (xs ++ ys) (f ys)) → (ys : List ℕ) → IsPermutation (a ∷ (xs ++ ys)) (between lt a f ys)
  unfolding between
  between-moved a xs f h [] = IsPermutation-cons a _ _ (h [])
  between-moved a xs f h (b ∷ ys) =
      by_cases (lt b a)
      (λ e. rw e (IsPermutation-trans _ _ _ (IsPermutation-middle (a ∷ xs) b ys) (IsPermutation-cons b _ _ (between-moved a xs f h ys))))
      (λ e. rw e (IsPermutation-cons a _ _ (h (b ∷ ys))))

  merged-moved : (xs ys : List ℕ) → IsPermutation (xs ++ ys) (merged lt xs ys)
  unfolding merged
  merged-moved [] ys = IsPermutation-refl ys
  merged-moved (a ∷ xs) ys = between-moved a xs (merged lt xs) (merged-moved xs) ys

-- ---- in order, where both runs are
module _ (name : ℕ → List ℕ) where
  between-all : (P : ℕ → Type 0) (a : ℕ) (f : List ℕ → List ℕ) → P a → ((ys : List ℕ) → All P ys → All P (f ys)) → (ys : List ℕ) → All P ys → All P (between (stands name) a f ys)
  unfolding between
  between-all P a f p h [] q = (p, h [] tt)
  between-all P a f p h (b ∷ ys) q =
      by_cases (stands name b a) (λ e. rw e (q.0, between-all P a f p h ys q.1)) (λ e. rw e (p, h (b ∷ ys) q))

  merged-all : (P : ℕ → Type 0) (xs ys : List ℕ) → All P xs → All P ys → All P (merged (stands name) xs ys)
  unfolding merged
  merged-all P [] ys r q = q
  merged-all P (a ∷ xs) ys r q = between-all P a (merged (stands name) xs) r.0 (λ zs z. merged-all P xs zs r.1 z) ys q

  between-sorted : (a : ℕ) (xs : List ℕ) → Sorted name (a ∷ xs) → ((ys : List ℕ) → Sorted name ys → Sorted name (merged (stands name) xs ys)) → (ys : List ℕ) → Sorted name ys
      → Sorted name (between (stands name) a (merged (stands name) xs) ys)
  unfolding between
  between-sorted a xs r h [] s = (merged-all (λ y. stands name y a ≡ false) xs [] r.0 tt, h [] tt)
  between-sorted a xs r h (b ∷ ys) s =
      by_cases (stands name b a)
      (λ e.
      let o = one-way name b a e in
      rw e (
        between-all (λ y. stands name y b ≡ false) a (merged (stands name) xs) o (λ zs z. merged-all (λ y. stands name y b ≡ false) xs zs (all_map xs (λ x u. chained name x a b u o) r.0) z) ys s.0,
        between-sorted a xs r h ys s.1,
      ))
      (λ e. rw e (merged-all (λ y. stands name y a ≡ false) xs (b ∷ ys) r.0 (e, all_map ys (λ y u. chained name y b a u e) s.0), h (b ∷ ys) s))

  merged-sorted : (xs ys : List ℕ) → Sorted name xs → Sorted name ys → Sorted name (merged (stands name) xs ys)
  unfolding merged
  merged-sorted [] ys r s = s
  merged-sorted (a ∷ xs) ys r s = between-sorted a xs r (λ zs z. merged-sorted xs zs r.1 z) ys s

  listed : (xs : List ℕ) → IsSortedBy (stands name) xs → Sorted name xs
  listed xs s = far-sorted name xs (λ i j u v. sorted_far (stands name) (stands-order name) xs s i j 0 u v)

  merged-in-order : (xs ys : List ℕ) → IsSortedBy (stands name) xs → IsSortedBy (stands name) ys → IsSortedBy (stands name) (merged (stands name) xs ys)
  merged-in-order xs ys r s k d l m = rw add-one (sorted-near name (merged (stands name) xs ys) (merged-sorted xs ys (listed xs r) (listed ys s)) k d m)

  -- two runs that are in order as they stand, one after the other
  joined-in-order : (xs ys : List ℕ) → IsSortedBy (stands name) xs → IsSortedBy (stands name) ys
      → stands name (get_or (xs ++ ys) (length xs) 0) (get_or (xs ++ ys) (length xs - 1) 0) ≡ false → IsSortedBy (stands name) (xs ++ ys)
  joined-in-order xs ys r s e k d l m =
      let long = length-append xs ys in
      by_cases (ltb (k + 1) (length xs))
      (λ t.
      let u = ltb-true (k + 1) (length xs) t in
      rw (get_or-append xs ys d (k + 1) u, get_or-append xs ys d k (omega arith)) (r k d l u))
      (λ t.
      let u = ltb-false (k + 1) (length xs) t in
      by_cases (eqb (k + 1) (length xs))
      (λ f.
      let v = eqb-true (k + 1) (length xs) f in
      let q : k ≡ length xs - 1 = omega arith in
      let at : ℕ → ℕ = λ i. get_or (xs ++ ys) i 0 in
      rw (get_or_default (xs ++ ys) (k + 1) d 0 m ∙ ap at v, get_or_default (xs ++ ys) k d 0 (omega arith) ∙ ap at q) e)
      (λ f.
      let v = apart u (λ z. eqb-false (k + 1) (length xs) f (sym z)) in
      let n : length xs + (k - length xs) ≡ k = omega arith in
      let q : length xs + ((k - length xs) + 1) ≡ k + 1 = omega arith in
      let x = get_or-append-add xs ys (k - length xs) d in
      let y = get_or-append-add xs ys ((k - length xs) + 1) d in
      let x' = rw n at x in
      let y' = rw q at y in
      rw (x', y') (s (k - length xs) d (omega arith) (omega arith))))

-- ---- what is left to write, m being the next place: one more, or nothing
pub record Left (out₀ : List ℕ) (all : List ℕ) (out : List ℕ) (m : ℕ) (rest : List ℕ) : Type 0 where
  pub long : length out ≡ length out₀
  pub stores : sets out m rest ≡ sets out₀ 0 all

pub left-start : (out : List ℕ) (all rest : List ℕ) → rest ≡ all → Left out all out 0 rest
left-start out all rest e = record { long = refl; stores = rw e }

pub left_one : {out₀ all out : List ℕ} {m m' x : ℕ} {rest rest' : List ℕ} → Left out₀ all out m rest → rest ≡ x ∷ rest' → m' ≡ m + 1 → Left out₀ all (set out m x) m' rest'
left_one {out = out} {m = m} {x = x} l e q = record {
  long = length-set out m x ∙ l.long;
  stores = rw (q, add-one) (sym (ap (sets out m) e) ∙ l.stores);
}

pub left-done : {out₀ all out : List ℕ} {m : ℕ} {rest : List ℕ} → Left out₀ all out m rest → rest ≡ [] → length all ≡ length out₀ → out ≡ all
left-done {out₀ = out₀} {all = all} {out = out} {m = m} l e h =
    sym (ap (sets out m) e)
    ∙ (l.stores ∙ (sets-eq all out₀ 0 (omega arith) ∙ rw (drop_of_length-le out₀ {i = 0 + length all} (omega arith)) (append-nil all)))

-- ---- a turn, i being the next place of the one run and k - i of the other
module _ (lt : ℕ → ℕ → Bool) {out₀ all out : List ℕ} (a b : List ℕ) (i k : ℕ) (h : i ≤ k) (w : Left out₀ all out k (merged lt (drop i a) (drop (k - i) b))) where
  pub turn-right : k - i < length b → next_right lt (drop i a) (drop (k - i) b) ≡ true → Left out₀ all (set out k (get_or b (k - i) 0)) (k + 1) (merged lt (drop i a) (drop (k + 1 - i) b))
  turn-right l n =
      let e : (k - i) + 1 ≡ k + 1 - i = omega arith in
      left_one w (merge-right lt a b i (k - i) l n ∙ ap (λ (m : ℕ). get_or b (k - i) 0 ∷ merged lt (drop i a) (drop m b)) e) refl

  pub turn-left : i < length a → next_right lt (drop i a) (drop (k - i) b) ≡ false → Left out₀ all (set out k (get_or a i 0)) (k + 1) (merged lt (drop (i + 1) a) (drop (k + 1 - (i + 1)) b))
  turn-left l n =
      let e : k - i ≡ k + 1 - (i + 1) = omega arith in
      left_one w (merge-left lt a b i (k - i) l n ∙ ap (λ (m : ℕ). get_or a i 0 ∷ merged lt (drop (i + 1) a) (drop m b)) e) refl

-- ---- the two halves of a list, each of which has been sorted in its place
module _ (h : ℕ) (xs a b : List ℕ) (l : h ≤ length xs) (p : IsPermutation (take h xs) a) (q : IsPermutation (mid_of h (length (a ++ drop h xs) - h) (a ++ drop h xs)) b) where
  first-long : length a ≡ h
  first-long = length_permutation _ _ p ∙ length-take-le h xs l

  rest : drop h (a ++ drop h xs) ≡ drop h xs
  rest = drop_at a (drop h xs) h first-long

  few : length (drop h xs) ≤ length (a ++ drop h xs) - h
  few = rw (length-append a (drop h xs)) (omega (arith, first-long))

  halves_are : put_mid h (length (a ++ drop h xs) - h) (a ++ drop h xs) b ≡ a ++ b
  halves_are = rw (rest, take_at a (drop h xs) h first-long, drop_of_length-le (drop h xs) few, append-nil b)

  halves-moved : IsPermutation xs (a ++ b)
  halves-moved =
      let second : IsPermutation (drop h xs) b = subst (λ (z : List ℕ). IsPermutation z b) (ap (take (length (a ++ drop h xs) - h)) rest ∙ take_all _ _ few) q in
      subst (λ (z : List ℕ). IsPermutation z (a ++ b)) (take-append-drop h xs) (IsPermutation-append (take h xs) a (drop h xs) b p second)

  -- as they stand, one behind the other
  pub joined-moved : IsPermutation xs (put_mid h (length (a ++ drop h xs) - h) (a ++ drop h xs) b)
  joined-moved = rw halves_are halves-moved

  pub joined-sorted : (name : ℕ → List ℕ) → IsSortedBy (stands name) a → IsSortedBy (stands name) b
      → (let mid = put_mid h (length (a ++ drop h xs) - h) (a ++ drop h xs) b in (stands name (get_or mid h 0) (get_or mid (h - 1) 0) ≡ false) → IsSortedBy (stands name) mid)
  joined-sorted name r s e =
      let met : stands name (get_or (a ++ b) (length a) 0) (get_or (a ++ b) (length a - 1) 0) ≡ false = rw first-long (rw halves_are at e) in
      subst (λ (z : List ℕ). IsSortedBy (stands name) z) (sym halves_are) (joined-in-order name a b r s met)

  -- merged, out being what is written
  module _ (lt : ℕ → ℕ → Bool) {out : List ℕ} (e : let mid = put_mid h (length (a ++ drop h xs) - h) (a ++ drop h xs) b in out ≡ merged lt (take h mid) (drop h mid)) where
    halves-merged : out ≡ merged lt a b
    halves-merged = e ∙ (ap (λ (z : List ℕ). merged lt (take h z) (drop h z)) halves_are ∙ rw (take_at a b h first-long, drop_at a b h first-long))

    pub merged-halves-moved : IsPermutation xs out
    merged-halves-moved = rw halves-merged (IsPermutation-trans _ _ _ halves-moved (merged-moved lt a b))

  pub merged-halves-sorted : (name : ℕ → List ℕ) {out : List ℕ} → IsSortedBy (stands name) a → IsSortedBy (stands name) b
      → (let mid = put_mid h (length (a ++ drop h xs) - h) (a ++ drop h xs) b in out ≡ merged (stands name) (take h mid) (drop h mid)) → IsSortedBy (stands name) out
  merged-halves-sorted name r s e = subst (λ (z : List ℕ). IsSortedBy (stands name) z) (sym (halves-merged (stands name) e)) (merged-in-order name a b r s)
