-- What holds of the positions in order: each is there, each below n, and each stands before the later ones; and a sort of the positions gives that list.
-- Assumes nothing.
use Rattle.std.specs.Prelude.{Bool, not, cond, ◌&&◌}
use mathlib.Core.Path.{◌≡◌, refl, sym, ap, ◌∙◌, subst}
use mathlib.Core.Logic.{inl, inr, ⊎_elim}
use mathlib.Core.Bool.{true, false}
use mathlib.Core.List.{List, [], ◌∷◌}
use Prim.Native.Nat.{ℕ, zero, suc, ◌+◌, ◌<◌, ◌≤◌}
use native.Mathlib.Omega.{arith}
use native.Mathlib.Nat.{add-zero, zero-add}
use lib.ListN.{length, get_or}
use lib.Dec.{eqb, ltb}
use borrow.Author.Tests.{eq-eqb, ne_eqb, eqb-true, eqb-false, le-ltb, ltb-true, ltb-false}
use Rattle.std.specs.Cmp.{IsStrictWeakOrder}
use Rattle.std.specs.List.{sum_by}
use Rattle.std.specs.List.Sorted.{IsPermutation, IsSortedBy}
use Rattle.std.proofs.lemmas.List.Sums.{sum_by-cons}
use Rattle.std.proofs.lemmas.List.Sorted.{sorted_far, sum_by-IsPermutation}
use Rattle.names.specs.Lists.{In}
use Rattle.names.specs.Order.{before}
use Rattle.names.specs.Scans.{table, table_from}
use Rattle.name_index.specs.Index.{insert, ordered}
use Rattle.name_index.specs.Positions.{stands}
use Rattle.names.proofs.Tests.{by_cases, not-both, apart, and_left, and_right, or-none-left}
use Rattle.names.proofs.Lists.{in-get_or}
use Rattle.names.proofs.Orders.{le_trans, asym, antisym, irreflexive, lt-le}

abbrev pub All : (ℕ → Type 0) → List ℕ → Type 0
All P [] = Unit
All P (x ∷ xs) = P x × All P xs

pub all_map : {P Q : ℕ → Type 0} (xs : List ℕ) → ((x : ℕ) → P x → Q x) → All P xs → All Q xs
all_map [] f h = tt
all_map (x ∷ xs) f h = (f x h.0, all_map xs f h.1)

all-at : (P : ℕ → Type 0) (xs : List ℕ) (k : ℕ) → All P xs → k < length xs → P (get_or xs k 0)
all-at P [] k h l = absurd (omega arith)
all-at P (x ∷ xs) zero h l = h.0
all-at P (x ∷ xs) (suc k) h l = all-at P xs k h.1 (omega arith)

-- the sum of what g gives for each, element by element
abbrev total : (ℕ → ℕ) → List ℕ → ℕ
total g [] = 0
total g (x ∷ xs) = g x + total g xs

total-is : (g : ℕ → ℕ) (xs : List ℕ) → sum_by g xs ≡ total g xs
total-is g [] = refl
total-is g (x ∷ xs) = sum_by-cons g x xs ∙ ap (λ (k : ℕ). g x + k) (total-is g xs)

-- 1 where the numbers are the same
unfoldable one : ℕ → ℕ → ℕ
one q x = cond (eqb x q) 1 0

one-same : (x : ℕ) → one x x ≡ 1
unfolding one
one-same x = rw (eq-eqb x x refl)

one_other : (q x : ℕ) → eqb q x ≡ false → one q x ≡ 0
unfolding one
one_other q x e = rw (ne_eqb x q (λ z. eqb-false q x e (sym z)))

-- what holds of each element holds of a number that the list has
all-counted : (P : ℕ → Type 0) (xs : List ℕ) (q : ℕ) → All P xs → 0 < total (one q) xs → P q
unfolding one
all-counted P [] q h l = absurd (omega arith)
all-counted P (x ∷ xs) q h l =
    by_cases (eqb x q) (λ e. subst P (eqb-true x q e) h.0) (λ e. all-counted P xs q h.1 (let m = rw e at l in omega arith))

at-all : (P : ℕ → Type 0) (xs : List ℕ) → ((k : ℕ) → k < length xs → P (get_or xs k 0)) → All P xs
at-all P [] h = tt
at-all P (x ∷ xs) h = (h 0 (omega arith), at-all P xs (λ k l. h (suc k) (omega arith)))

cons-eq : {x y : ℕ} {xs ys : List ℕ} → x ≡ y → xs ≡ ys → x ∷ xs ≡ y ∷ ys
cons-eq e f = rw (e, f)

not-not : (b : Bool) → not b ≡ true → b ≡ false
not-not true e = sym e
not-not false e = refl

table-snoc : (g : ℕ → ℕ) (from n : ℕ) → total g (table_from (λ p. p) from (suc n)) ≡ total g (table_from (λ p. p) from n) + g (from + n)
unfolding table_from
table-snoc g from zero = let k : g (from + 0) ≡ g from = ap g (add-zero from) in omega arith
table-snoc g from (suc n) =
    let h = table-snoc g (suc from) n in
    let e : suc from + n ≡ from + suc n = omega arith in
    let k : g (suc from + n) ≡ g (from + suc n) = ap g e in
    omega arith

module _ (name : ℕ → List ℕ) where
  -- p stands before q in the index
  abbrev pub StandsAt : ℕ → ℕ → Type 0
  StandsAt p q = (before (name q) (name p) ≡ false) × (name p ≡ name q → p < q)

  abbrev Rises : List ℕ → Type 0
  Rises [] = Unit
  Rises (x ∷ xs) = All (StandsAt x) xs × Rises xs

  rises-at : (xs : List ℕ) (i j : ℕ) → Rises xs → i < j → j < length xs → StandsAt (get_or xs i 0) (get_or xs j 0)
  rises-at [] i j h l m = absurd (omega arith)
  rises-at (x ∷ xs) i zero h l m = absurd (omega arith)
  rises-at (x ∷ xs) zero (suc j) h l m = all-at (StandsAt x) xs j h.0 (omega arith)
  rises-at (x ∷ xs) (suc i) (suc j) h l m = rises-at xs i j h.1 (omega arith) (omega arith)

  -- ---- one position put in
  insert_all : (P : ℕ → Type 0) (p : ℕ) (xs : List ℕ) → P p → All P xs → All P (insert name p xs)
  unfolding insert
  insert_all P p [] h a = (h, tt)
  insert_all P p (q ∷ qs) h a =
      by_cases (before (name p) (name q)) (λ e. rw e (h, a)) (λ e. rw e (a.0, insert_all P p qs h a.1))

  insert-new : (p : ℕ) (xs : List ℕ) → In p (insert name p xs)
  unfolding insert
  insert-new p [] = inl refl
  insert-new p (q ∷ qs) = by_cases (before (name p) (name q)) (λ e. rw e (inl refl)) (λ e. rw e (inr (insert-new p qs)))

  insert-old : (p r : ℕ) (xs : List ℕ) → In r xs → In r (insert name p xs)
  unfolding insert
  insert-old p r [] m = absurd m
  insert-old p r (q ∷ qs) m =
      by_cases (before (name p) (name q)) (λ e. rw e (inr m))
      (λ e. rw e (⊎_elim (λ (u : r ≡ q). inl u) (λ (u : In r qs). inr (insert-old p r qs u)) m))

  length-insert : (p : ℕ) (xs : List ℕ) → length (insert name p xs) ≡ suc (length xs)
  unfolding insert
  length-insert p [] = refl
  length-insert p (q ∷ qs) = by_cases (before (name p) (name q)) (λ e. rw e) (λ e. rw e (ap suc (length-insert p qs)))

  insert-counts : (g : ℕ → ℕ) (p : ℕ) (xs : List ℕ) → total g (insert name p xs) ≡ total g xs + g p
  unfolding insert
  insert-counts g p [] = omega arith
  insert-counts g p (q ∷ qs) = by_cases (before (name p) (name q)) (λ e. rw e (omega arith)) (λ e. rw e (let h = insert-counts g p qs in omega arith))

  first-stands : (p q : ℕ) → before (name p) (name q) ≡ true → StandsAt p q
  first-stands p q h = (asym (name p) (name q) h, λ e. not-both (rw e at h) (irreflexive (name q)))

  insert-rises : (p : ℕ) (xs : List ℕ) → All (λ q. q < p) xs → Rises xs → Rises (insert name p xs)
  unfolding insert
  insert-rises p [] a r = (tt, tt)
  insert-rises p (q ∷ qs) a r =
      by_cases (before (name p) (name q))
      (λ e. rw e ((first-stands p q e, all_map qs (λ x s. first-stands p x (lt-le (name p) (name q) (name x) e s.0)) r.0), r))
      (λ e. rw e (insert_all (StandsAt q) p qs (e, λ u. a.0) r.0, insert-rises p qs a.1 r.1))

  -- ---- all of them
  pub ordered-length : (from n : ℕ) → length (ordered name from n) ≡ n
  unfolding ordered
  ordered-length from zero = refl
  ordered-length from (suc n) = length-insert (from + n) (ordered name from n) ∙ ap suc (ordered-length from n)

  ordered-all : (from n : ℕ) → All (λ q. q < from + n) (ordered name from n)
  unfolding ordered
  ordered-all from zero = tt
  ordered-all from (suc n) =
      insert_all (λ q. q < from + suc n) (from + n) (ordered name from n) (omega arith) (all_map (ordered name from n) (λ x h. omega arith) (ordered-all from n))

  ordered-rises : (from n : ℕ) → Rises (ordered name from n)
  unfolding ordered
  ordered-rises from zero = tt
  ordered-rises from (suc n) = insert-rises (from + n) (ordered name from n) (ordered-all from n) (ordered-rises from n)

  ordered-in : (from n q : ℕ) → q < n → In (from + q) (ordered name from n)
  unfolding ordered
  ordered-in from zero q h = absurd (omega arith)
  ordered-in from (suc n) q h =
      by_cases (eqb q n)
      (λ e. subst (λ (x : ℕ). In (from + x) (insert name (from + n) (ordered name from n))) (sym (eqb-true q n e)) (insert-new (from + n) (ordered name from n)))
      (λ e. insert-old (from + n) (from + q) (ordered name from n) (ordered-in from n q (apart (omega arith) (eqb-false q n e))))

  -- ---- an index, place by place
  pub record Ranked (n : ℕ) (xs : List ℕ) : Type 0 where
    pub long : length xs ≡ n
    pub below : (k : ℕ) → k < n → get_or xs k 0 < n
    pub rising : (i j : ℕ) → i < j → j < n → StandsAt (get_or xs i 0) (get_or xs j 0)
    pub has : (q : ℕ) → q < n → (k : ℕ) × (k < n) × (get_or xs k 0 ≡ q)

  ranked-ordered : (n : ℕ) → Ranked n (ordered name 0 n)
  ranked-ordered n =
      let len = ordered-length 0 n in
      record {
        long = len;
        below = λ k h. let b = all-at (λ q. q < 0 + n) (ordered name 0 n) k (ordered-all 0 n) (omega arith) in omega arith;
        rising = λ i j h l. rises-at (ordered name 0 n) i j (ordered-rises 0 n) h (omega arith);
        has = λ q h.
            let r = in-get_or (ordered name 0 n) (0 + q) 0 (ordered-in 0 n q h) in
            (r.0, omega (arith, r.1.0), sym r.1.1 ∙ zero-add q);
      }

  pub ranked : {n : ℕ} {xs : List ℕ} → xs ≡ ordered name 0 n → Ranked n xs
  ranked {n} {xs} e = subst (λ (l : List ℕ). Ranked n l) (sym e) (ranked-ordered n)

  -- ---- how often a list has each number: those in order have what the positions have
  ordered-counts : (g : ℕ → ℕ) (from n : ℕ) → total g (table_from (λ p. p) from n) ≡ total g (ordered name from n)
  unfolding ordered table_from
  ordered-counts g from zero = refl
  ordered-counts g from (suc n) =
      table-snoc g from n ∙ (ap (λ (k : ℕ). k + g (from + n)) (ordered-counts g from n) ∙ sym (insert-counts g (from + n) (ordered name from n)))

  -- ---- the list of a sort: no element stands before an earlier one
  abbrev pub Sorted : List ℕ → Type 0
  Sorted [] = Unit
  Sorted (x ∷ xs) = All (λ y. stands name y x ≡ false) xs × Sorted xs

  stands-later : (x y : ℕ) → StandsAt x y → stands name y x ≡ false
  unfolding stands
  stands-later x y s =
      by_cases (before (name x) (name y))
      (λ e. rw (s.0, e))
      (λ e. rw (s.0, e, le-ltb y x (let h = s.1 (antisym (name x) (name y) s.0 e) in omega arith)))

  rises-sorted : (xs : List ℕ) → Rises xs → Sorted xs
  rises-sorted [] r = tt
  rises-sorted (x ∷ xs) r = (all_map xs (λ y s. stands-later x y s) r.0, rises-sorted xs r.1)

  none-before : (x y : ℕ) → stands name x y ≡ false → before (name x) (name y) ≡ false
  unfolding stands
  none-before x y e = or-none-left _ _ e

  -- of two of one name the first is the lower
  not-higher : (x y : ℕ) → stands name x y ≡ false → before (name y) (name x) ≡ false → y ≤ x
  unfolding stands
  not-higher x y e h = ltb-false x y (rw (none-before x y e, h) at e)

  stands-antisym : (x y : ℕ) → stands name x y ≡ false → stands name y x ≡ false → x ≡ y
  stands-antisym x y e f =
      let a = not-higher x y e (none-before y x f) in
      let b = not-higher y x f (none-before x y e) in
      omega arith

  -- two such lists that have each number as often are one
  unique : (xs ys : List ℕ) → Sorted xs → Sorted ys → ((q : ℕ) → total (one q) xs ≡ total (one q) ys) → xs ≡ ys
  unique [] [] r s h = refl
  unique [] (y ∷ ys) r s h = absurd (omega (arith, h y, one-same y))
  unique (x ∷ xs) [] r s h = absurd (omega (arith, h x, one-same x))
  unique (x ∷ xs) (y ∷ ys) r s h =
      let e : x ≡ y =
      by_cases (eqb x y) (λ t. eqb-true x y t)
      (λ t.
      let a = one_other x y t in
      let b = one_other y x (ne_eqb y x (λ z. eqb-false x y t (sym z))) in
      let f = one-same x in
      let g = one-same y in
      let hx = h x in
      let hy = h y in
      stands-antisym x y (all-counted (λ z. stands name z y ≡ false) ys x s.0 (omega arith)) (all-counted (λ z. stands name z x ≡ false) xs y r.0 (omega arith))) in
      cons-eq e (unique xs ys r.1 s.1 (λ q. let hq = h q in let f : one q x ≡ one q y = ap (one q) e in omega arith))

  pub far-sorted : (xs : List ℕ) → ((i j : ℕ) → i ≤ j → j < length xs → stands name (get_or xs j 0) (get_or xs i 0) ≡ false) → Sorted xs
  far-sorted [] h = tt
  far-sorted (x ∷ xs) h = (at-all (λ y. stands name y x ≡ false) xs (λ k l. h 0 (suc k) (omega arith) (omega arith)), far-sorted xs (λ i j u v. h (suc i) (suc j) (omega arith) (omega arith)))

  pub sorted-near : (xs : List ℕ) → Sorted xs → (k d : ℕ) → k + 1 < length xs → stands name (get_or xs (suc k) d) (get_or xs k d) ≡ false
  sorted-near [] r k d l = absurd (omega arith)
  sorted-near (x ∷ []) r k d l = absurd (omega arith)
  sorted-near (x ∷ y ∷ xs) r zero d l = r.0.0
  sorted-near (x ∷ y ∷ xs) r (suc k) d l = sorted-near (y ∷ xs) r.1 k d (omega arith)

  pub one-way : (x y : ℕ) → stands name x y ≡ true → stands name y x ≡ false
  unfolding stands
  one-way x y e =
      by_cases (before (name x) (name y))
      (λ b. rw (asym (name x) (name y) b, b))
      (λ b.
      let t : not (before (name y) (name x)) && ltb x y ≡ true = rw b at e in
      rw (not-not (before (name y) (name x)) (and_left (not (before (name y) (name x))) (ltb x y) t), b, le-ltb y x (let l = ltb-true x y (and_right (not (before (name y) (name x))) (ltb x y) t) in omega arith)))

  pub chained : (x y z : ℕ) → stands name x y ≡ false → stands name y z ≡ false → stands name x z ≡ false
  unfolding stands
  chained x y z e f =
      let a = le_trans (name z) (name y) (name x) (none-before y z f) (none-before x y e) in
      by_cases (before (name z) (name x))
      (λ b. rw (a, b))
      (λ b.
      let u = not-higher x y e (le_trans (name x) (name z) (name y) b (none-before y z f)) in
      let v = not-higher y z f (le_trans (name y) (name x) (name z) (none-before x y e) b) in
      rw (a, b, le-ltb x z (omega arith)))

  pub stands-order : IsStrictWeakOrder (stands name)
  stands-order = record { one_way = one-way; chain = chained }

  -- a sort of the positions by that order
  pub sorted-is : (n : ℕ) {xs ys : List ℕ} → xs ≡ table (λ p. p) n → IsPermutation xs ys → IsSortedBy (stands name) ys → ys ≡ ordered name 0 n
  unfolding table
  sorted-is n {xs} {ys} e m s =
      unique ys (ordered name 0 n) (far-sorted ys (λ i j u v. sorted_far (stands name) stands-order ys s i j 0 u v)) (rises-sorted (ordered name 0 n) (ordered-rises 0 n))
      (λ q. sym (total-is (one q) ys) ∙ (sum_by-IsPermutation (one q) xs ys m ∙ (total-is (one q) xs ∙ (ap (total (one q)) e ∙ ordered-counts (one q) 0 n))))

-- the order looks only at the names that are there
module _ (name other : ℕ → List ℕ) where
  insert-cong : (p : ℕ) (xs : List ℕ) → name p ≡ other p → All (λ q. name q ≡ other q) xs → insert name p xs ≡ insert other p xs
  unfolding insert
  insert-cong p [] e a = refl
  insert-cong p (q ∷ qs) e a =
      by_cases (before (other p) (other q)) (λ b. rw (e, a.0, b)) (λ b. rw (e, a.0, b) (ap (λ (l : List ℕ). q ∷ l) (insert-cong p qs e a.1)))

  pub ordered-cong : (n : ℕ) → ((p : ℕ) → p < n → name p ≡ other p) → ordered name 0 n ≡ ordered other 0 n
  unfolding ordered
  ordered-cong zero h = refl
  ordered-cong (suc n) h =
      insert-cong (0 + n) (ordered name 0 n) (h (0 + n) (omega arith)) (all_map (ordered name 0 n) (λ q l. h q (omega arith)) (ordered-all name 0 n))
      ∙ ap (insert other (0 + n)) (ordered-cong n (λ p l. h p (omega arith)))
