-- The laws of the list functions: what is in a list that they make, and what their answers say. Assumes nothing.
use Rattle.std.specs.Prelude.{None, Some, is_some}
use mathlib.Core.Path.{◌≡◌, refl, sym, ap, ◌∙◌}
use mathlib.Core.Logic.{◌⊎◌, inl, inr, ⊎_elim}
use mathlib.Core.Bool.{Bool, true, false, not, ◌||◌, or-true, false≢true, true≢false, ◌&&◌}
use mathlib.Core.List.{List, [], ◌∷◌, ◌++◌, map}
use Prim.Native.Nat.{ℕ, zero, suc, ◌+◌, ◌*◌, ◌≤◌, ◌<◌}
use native.Mathlib.Omega.{arith}
use native.Mathlib.Nat.{add_comm, mul-zero, mul-suc, suc-mul, zero-mul}
use native.Mathlib.Numerals.{add-one}
use lib.ListN.{length, take, drop, get_or, replicate, length-append, length-replicate}
use lib.Seq.{drop_at, drop-cons, drop-drop, take_at}
use lib.Dec.{eqb}
use borrow.Author.Tests.{eq-eqb, ne_eqb, eqb-true}
use Rattle.names.specs.Lists.{In, keep, keep_while, any, every, first, last_or, joined, same, begins, padded, among}
use Rattle.names.proofs.Tests.{both, by_cases, not-both, and_left, and_right, not_none, the-some}

module _ {A : Type 0} where
  -- what is kept is in the list and passes the test
  pub in-keep : (t : A → Bool) (xs : List A) (a : A) → In a (keep t xs) → In a xs × (t a ≡ true)
  in-keep t (x ∷ xs) a m =
      by_cases (t x)
      (λ e. ⊎_elim (λ (p : a ≡ x). (inl p, ap t p ∙ e)) (λ (i : In a (keep t xs)). let r = in-keep t xs a i in (inr r.0, r.1)) (rw (e, keep) at m))
      (λ e. let r = in-keep t xs a (rw (e, keep) at m) in (inr r.0, r.1))
  in-keep t [] a m = absurd m

  -- and what is in the list and passes the test is kept
  pub keep-in : (t : A → Bool) (xs : List A) (a : A) → In a xs → t a ≡ true → In a (keep t xs)
  keep-in t [] a m h = m
  keep-in t (x ∷ xs) a (inl p) h = rw (sym (ap t p) ∙ h, keep) (inl p)
  keep-in t (x ∷ xs) a (inr m) h =
      by_cases (t x) (λ e. rw (e, keep) (inr (keep-in t xs a m h))) (λ e. rw (e, keep) (keep-in t xs a m h))

  -- no first: the test fails throughout
  pub none_first : (t : A → Bool) (xs : List A) (a : A) → first t xs ≡ None → In a xs → t a ≡ false
  none_first t [] a e m = absurd m
  none_first t (x ∷ xs) a e m =
      by_cases (t x)
      (λ h. not_none (sym (rw (h, first) at e)))
      (λ h. ⊎_elim (λ (p : a ≡ x). ap t p ∙ h) (λ (i : In a xs). none_first t xs a (rw (h, first) at e) i) m)

  -- the first is in the list and passes the test
  pub some_first : (t : A → Bool) (xs : List A) (a : A) → first t xs ≡ Some a → In a xs × (t a ≡ true)
  some_first t [] a e = not_none e
  some_first t (x ∷ xs) a e =
      by_cases (t x)
      (λ h. let p : x ≡ a = the-some (rw (h, first) at e) in (inl (sym p), sym (ap t p) ∙ h))
      (λ h. let r = some_first t xs a (rw (h, first) at e) in (inr r.0, r.1))

  -- not any: the test fails throughout
  pub not-any : (t : A → Bool) (xs : List A) (a : A) → any t xs ≡ false → In a xs → t a ≡ false
  not-any t [] a e m = absurd m
  not-any t (x ∷ xs) a e m =
      by_cases (t x)
      (λ h. absurd (true≢false (rw (h, any) at e)))
      (λ h. ⊎_elim (λ (p : a ≡ x). ap t p ∙ h) (λ (i : In a xs). not-any t xs a (rw (h, any) at e) i) m)

  -- one that passes the test is enough
  pub any-in : (t : A → Bool) (xs : List A) (a : A) → In a xs → t a ≡ true → any t xs ≡ true
  any-in t [] a m h = absurd m
  any-in t (x ∷ xs) a (inl p) h = rw (sym (ap t p) ∙ h, any)
  any-in t (x ∷ xs) a (inr m) h = by_cases (t x) (λ e. rw (e, any)) (λ e. rw (e, any) (any-in t xs a m h))

  -- any, by the first
  pub any-first : (t : A → Bool) (xs : List A) → any t xs ≡ is_some (first t xs)
  any-first t [] = refl
  any-first t (x ∷ xs) = by_cases (t x) (λ e. rw (e, any, first)) (λ e. rw (e, any, first) (any-first t xs))

  -- every, from its first on
  pub every-on : (t : A → Bool) (x : A) (xs : List A) → t x ≡ true → every t (x ∷ xs) ≡ every t xs
  every-on t x xs e = rw (e, every)

  pub every-off : (t : A → Bool) (x : A) (xs : List A) → t x ≡ false → every t (x ∷ xs) ≡ false
  every-off t x xs e = rw (e, every)

  -- those before the first that fails, from the first on
  pub while-on : (t : A → Bool) (x : A) (xs : List A) → t x ≡ true → keep_while t (x ∷ xs) ≡ x ∷ keep_while t xs
  while-on t x xs e = rw (e, keep_while)

  pub while-off : (t : A → Bool) (x : A) (xs : List A) → t x ≡ false → keep_while t (x ∷ xs) ≡ []
  while-off t x xs e = rw (e, keep_while)

  -- and they are no more than all
  pub while-length : (t : A → Bool) (xs : List A) → length (keep_while t xs) ≤ length xs
  while-length t [] = omega arith
  while-length t (x ∷ xs) =
      by_cases (t x)
      (λ e. rw (while-on t x xs e) (let h = while-length t xs in omega arith))
      (λ e. rw (while-off t x xs e) (omega arith))

  -- the last of a list, if it has one, is in it
  pub last-in : (d : A) (xs : List A) → In (last_or d xs) (d ∷ xs)
  last-in d [] = inl refl
  last-in d (x ∷ xs) = inr (last-in x xs)

  pub in-append : (xs ys : List A) (a : A) → In a (xs ++ ys) → In a xs ⊎ In a ys
  in-append [] ys a m = inr m
  in-append (x ∷ xs) ys a (inl p) = inl (inl p)
  in-append (x ∷ xs) ys a (inr m) = ⊎_elim (λ (i : In a xs). inl (inr i)) (λ (i : In a ys). inr i) (in-append xs ys a m)

  pub append_left : (xs ys : List A) (a : A) → In a xs → In a (xs ++ ys)
  append_left [] ys a m = absurd m
  append_left (x ∷ xs) ys a (inl p) = inl p
  append_left (x ∷ xs) ys a (inr m) = inr (append_left xs ys a m)

  pub append_right : (xs ys : List A) (a : A) → In a ys → In a (xs ++ ys)
  append_right [] ys a m = m
  append_right (x ∷ xs) ys a m = inr (append_right xs ys a m)

  -- what is in one of the lists is in the lists joined
  pub joined_in : (ls : List (List A)) (l : List A) (a : A) → In l ls → In a l → In a (joined ls)
  joined_in [] l a m i = absurd m
  joined_in (k ∷ ls) l a (inl p) i = append_left k (joined ls) a (rw p at i)
  joined_in (k ∷ ls) l a (inr m) i = append_right k (joined ls) a (joined_in ls l a m i)

  -- what is in the lists joined is in one of them
  pub in-joined : (ls : List (List A)) (a : A) → In a (joined ls) → (l : List A) × In l ls × In a l
  in-joined [] a m = absurd m
  in-joined (l ∷ ls) a m =
      ⊎_elim (λ (i : In a l). (l, inl refl, i))
      (λ (i : In a (joined ls)). let r = in-joined ls a i in (r.0, inr r.1, r.2))
      (in-append l (joined ls) a m)

module _ {A B : Type 0} where
  -- what is in a list's image is the image of what is in the list
  pub in_map : (f : A → B) (xs : List A) (b : B) → In b (map f xs) → (a : A) × In a xs × (b ≡ f a)
  in_map f [] b m = absurd m
  in_map f (x ∷ xs) b (inl p) = (x, inl refl, p)
  in_map f (x ∷ xs) b (inr m) = let r = in_map f xs b m in (r.0, inr r.1, r.2)

  pub map-in : (f : A → B) (xs : List A) (a : A) → In a xs → In (f a) (map f xs)
  map-in f [] a m = absurd m
  map-in f (x ∷ xs) a (inl p) = inl (ap f p)
  map-in f (x ∷ xs) a (inr m) = inr (map-in f xs a m)

-- ---- lists of numbers
-- a list from a place on: what stands there, and the rest
pub at-cons : (f : List ℕ) (i : ℕ) → i < length f → drop i f ≡ get_or f i 0 ∷ drop (i + 1) f
at-cons f i h = rw (add-one, drop-cons f i 0 h)

pub take_while : (t : ℕ → Bool) (xs : List ℕ) → take (length (keep_while t xs)) xs ≡ keep_while t xs
take_while t [] = refl
take_while t (x ∷ xs) =
    by_cases (t x)
    (λ e. rw (while-on t x xs e) (ap (λ (l : List ℕ). x ∷ l) (take_while t xs)))
    (λ e. rw (while-off t x xs e))

-- ---- the same list, by the test
pub same_refl : (xs : List ℕ) → same xs xs ≡ true
same_refl [] = refl
same_refl (x ∷ xs) = rw (eq-eqb x x refl) (same_refl xs)

pub eq-same : {xs ys : List ℕ} → xs ≡ ys → same xs ys ≡ true
eq-same {xs} {ys} e = rw e (same_refl ys)

pub same_true : (xs ys : List ℕ) → same xs ys ≡ true → xs ≡ ys
same_true [] [] e = refl
same_true [] (y ∷ ys) e = absurd (false≢true e)
same_true (x ∷ xs) [] e = absurd (false≢true e)
same_true (x ∷ xs) (y ∷ ys) e =
    let p : x ≡ y = eqb-true x y (and_left (eqb x y) (same xs ys) e) in
    let q : xs ≡ ys = same_true xs ys (and_right (eqb x y) (same xs ys) e) in
    cc

pub same_false : {xs ys : List ℕ} → (xs ≡ ys → ⊥) → same xs ys ≡ false
same_false {xs} {ys} n = by_cases (same xs ys) (λ e. absurd (n (same_true xs ys e))) (λ e. e)

pub same-eq : {x y u v : List ℕ} → x ≡ u → y ≡ v → same x y ≡ same u v
same-eq {x} {y} {u} {v} p q = rw (p, q)

pub begins-append : (xs ys : List ℕ) → begins xs (xs ++ ys) ≡ true
begins-append [] ys = refl
begins-append (x ∷ xs) ys = rw (eq-eqb x x refl) (begins-append xs ys)

-- any: one of the list passes the test
pub any_some : {A : Type 0} (t : A → Bool) (xs : List A) → any t xs ≡ true → (a : A) × In a xs × (t a ≡ true)
any_some t [] e = absurd (false≢true e)
any_some t (x ∷ xs) e =
    by_cases (t x)
    (λ h. (x, inl refl, h))
    (λ h. let r = any_some t xs (rw (h, any) at e) in (r.0, inr r.1, r.2))

-- ---- beginnings
-- what begins a list is no longer than it
pub begins-length : (xs ys : List ℕ) → begins xs ys ≡ true → length xs ≤ length ys
begins-length [] ys e = omega arith
begins-length (x ∷ xs) [] e = absurd (false≢true e)
begins-length (x ∷ xs) (y ∷ ys) e =
    by_cases (eqb x y) (λ t. omega (arith, begins-length xs ys (rw t at e))) (λ t. absurd (false≢true (rw t at e)))

-- what begins with a list is the list and a rest
pub begins-rest : (xs ys : List ℕ) → begins xs ys ≡ true → (zs : List ℕ) × (ys ≡ xs ++ zs)
begins-rest [] ys e = (ys, refl)
begins-rest (x ∷ xs) [] e = absurd (false≢true e)
begins-rest (x ∷ xs) (y ∷ ys) e =
    by_cases (eqb x y)
    (λ t.
    let r = begins-rest xs ys (rw t at e) in
    let p : x ≡ y = eqb-true x y t in
    let q : ys ≡ xs ++ r.0 = r.1 in
    (r.0, cc))
    (λ t. absurd (false≢true (rw t at e)))

-- a list begins with two others where it begins with the first, and the second begins what is behind
pub begins-split : (xs ys zs : List ℕ) → begins (xs ++ ys) zs ≡ begins xs zs && begins ys (drop (length xs) zs)
begins-split [] ys zs = refl
begins-split (x ∷ xs) ys [] = refl
begins-split (x ∷ xs) ys (z ∷ zs) = by_cases (eqb x z) (λ t. rw t (begins-split xs ys zs)) (λ t. rw t)

-- and is the two where the second is all that is behind
pub same-split : (xs ys zs : List ℕ) → same (xs ++ ys) zs ≡ begins xs zs && same ys (drop (length xs) zs)
same-split [] ys zs = refl
same-split (x ∷ xs) ys [] = refl
same-split (x ∷ xs) ys (z ∷ zs) = by_cases (eqb x z) (λ t. rw t (same-split xs ys zs)) (λ t. rw t)

-- as many bytes of a list are compared as the other has
pub begins-same : (xs ys : List ℕ) → length xs ≤ length ys → begins xs ys ≡ same xs (take (length xs) ys)
begins-same [] ys h = refl
begins-same (x ∷ xs) [] h = absurd (omega arith)
begins-same (x ∷ xs) (y ∷ ys) h = rw (begins-same xs ys (omega arith))

pub same-zeros : (n : ℕ) (xs : List ℕ) → length xs ≡ n → same (replicate n 0) xs ≡ every (eqb 0) xs
same-zeros zero [] e = refl
same-zeros zero (x ∷ xs) e = absurd (omega arith)
same-zeros (suc n) [] e = absurd (omega arith)
same-zeros (suc n) (x ∷ xs) e =
    by_cases (eqb 0 x) (λ t. rw (t, every) (same-zeros n xs (omega arith))) (λ t. rw (t, every))

-- ---- lengths
pub padded-length : (w : ℕ) (n : List ℕ) → length n ≤ w → length (padded w n) ≡ w
unfolding padded
padded-length w n h = rw (length-append, length-replicate) (omega arith)

pub joined_length : {A : Type 0} (f : A → List ℕ) (k : ℕ) (xs : List A) → ((x : A) → In x xs → length (f x) ≡ k)
    → length (joined (map f xs)) ≡ k * length xs
joined_length f k [] h = sym (mul-zero k)
joined_length f k (x ∷ xs) h =
    rw (length-append, h x (inl refl), joined_length f k xs (λ y i. h y (inr i)), mul-suc) (omega arith)

-- ---- a list without one of its numbers, which is shorter
unfoldable pub without : ℕ → List ℕ → List ℕ
without x ys = keep (λ y. not (eqb y x)) ys

pub keep-length : {A : Type 0} (t : A → Bool) (xs : List A) → length (keep t xs) ≤ length xs
keep-length t [] = omega arith
keep-length t (x ∷ xs) =
    by_cases (t x)
    (λ e. rw (e, keep) (omega (arith, keep-length t xs)))
    (λ e. rw (e, keep) (omega (arith, keep-length t xs)))

-- one that fails the test makes it shorter
pub keep-shorter : {A : Type 0} (t : A → Bool) (xs : List A) (a : A) → In a xs → t a ≡ false → length (keep t xs) < length xs
keep-shorter t [] a m e = absurd m
keep-shorter t (x ∷ xs) a (inl p) e = rw (sym (ap t p) ∙ e, keep) (omega (arith, keep-length t xs))
keep-shorter t (x ∷ xs) a (inr m) e =
    by_cases (t x)
    (λ h. rw (h, keep) (omega (arith, keep-shorter t xs a m e)))
    (λ h. rw (h, keep) (omega (arith, keep-length t xs)))

pub without-shorter : (x : ℕ) (ys : List ℕ) → In x ys → length (without x ys) < length ys
unfolding without
without-shorter x ys i = keep-shorter (λ y. not (eqb y x)) ys x i (rw (eq-eqb x x refl))

pub without_in : (x : ℕ) (ys : List ℕ) (y : ℕ) → In y ys → (y ≡ x → ⊥) → In y (without x ys)
unfolding without
without_in x ys y i n = keep-in (λ z. not (eqb z x)) ys y i (rw (ne_eqb y x n))

-- ---- a list with no member, and two functions that agree on each
pub empty : {A : Type 0} (xs : List A) → ((a : A) → In a xs → ⊥) → xs ≡ []
empty [] h = refl
empty (x ∷ xs) h = absurd (h x (inl refl))

pub map_same : {A B : Type 0} (f g : A → B) (xs : List A) → ((a : A) → In a xs → f a ≡ g a) → map f xs ≡ map g xs
map_same f g [] h = refl
map_same f g (x ∷ xs) h = rw (h x (inl refl), map_same f g xs (λ a i. h a (inr i)))

-- ---- none, and just one, that passes a test
module _ {A : Type 0} where
  pub any_none : (t : A → Bool) (xs : List A) → ((a : A) → In a xs → t a ≡ false) → any t xs ≡ false
  any_none t [] h = refl
  any_none t (x ∷ xs) h = rw (h x (inl refl), any) (any_none t xs (λ a i. h a (inr i)))

  pub first-none : (t : A → Bool) (xs : List A) → ((a : A) → In a xs → t a ≡ false) → first t xs ≡ None
  first-none t [] h = refl
  first-none t (x ∷ xs) h = rw (h x (inl refl), first) (first-none t xs (λ a i. h a (inr i)))

  pub first-is : (t : A → Bool) (xs : List A) (a : A) → In a xs → t a ≡ true → ((b : A) → In b xs → t b ≡ true → b ≡ a) → first t xs ≡ Some a
  first-is t [] a i e h = absurd i
  first-is t (x ∷ xs) a i e h =
      by_cases (t x)
      (λ k. rw (k, first) (ap Some (h x (inl refl) k)))
      (λ k. rw (k, first)
      (first-is t xs a (⊎_elim (λ (p : a ≡ x). not-both (sym (ap t p) ∙ e) k) (λ (j : In a xs). j) i) e (λ b j l. h b (inr j) l)))

pub every_append : {A : Type 0} (t : A → Bool) (xs ys : List A) → every t xs ≡ true → every t ys ≡ true → every t (xs ++ ys) ≡ true
every_append t [] ys p q = q
every_append t (x ∷ xs) ys p q =
    by_cases (t x)
    (λ e. rw (e, every) (every_append t xs ys (rw (e, every) at p) q))
    (λ e. absurd (false≢true (rw (e, every) at p)))

pub every-replicate : {A : Type 0} (t : A → Bool) (k : ℕ) (a : A) → t a ≡ true → every t (replicate k a) ≡ true
every-replicate t zero a e = refl
every-replicate t (suc k) a e = rw (e, every) (every-replicate t k a e)

-- ---- any, by its parts
module _ {A : Type 0} where
  pub any-cong : (t u : A → Bool) (xs : List A) → ((a : A) → In a xs → t a ≡ u a) → any t xs ≡ any u xs
  any-cong t u [] h = refl
  any-cong t u (x ∷ xs) h =
      by_cases (u x)
      (λ e. rw (h x (inl refl) ∙ e, any, e))
      (λ e. rw (h x (inl refl) ∙ e, any, e) (any-cong t u xs (λ a i. h a (inr i))))

  pub any-or : (t u : A → Bool) (xs : List A) → any (λ a. t a || u a) xs ≡ any t xs || any u xs
  any-or t u [] = refl
  any-or t u (x ∷ xs) =
      by_cases (t x)
      (λ e. rw (e, any))
      (λ e. by_cases (u x)
      (λ f. rw (e, any, f) (sym (or-true (any t xs))))
      (λ f. rw (e, any, f) (any-or t u xs)))

pub any-one : {A : Type 0} (t : A → Bool) (x : A) → any t (x ∷ []) ≡ t x
any-one t x = by_cases (t x) (λ e. rw (e, any)) (λ e. rw (e, any))

pub any-two : {A : Type 0} (t : A → Bool) (x y : A) → any t (x ∷ y ∷ []) ≡ t x || t y
any-two t x y = by_cases (t x) (λ e. rw (e, any)) (λ e. rw (e, any) (any-one t y))

-- to be one of a list, as a test
pub among-any : (c : ℕ) (xs : List ℕ) → among c xs ≡ any (eqb c) xs
among-any c [] = refl
among-any c (x ∷ xs) = by_cases (eqb c x) (λ e. rw (e, among, any)) (λ e. rw (e, among, any) (among-any c xs))

-- ---- what stands at a position is in the list, and what is in the list stands at one
pub get_or-in : {A : Type 0} (l : List A) (i : ℕ) (d : A) → i < length l → In (get_or l i d) l
get_or-in [] i d h = absurd (omega arith)
get_or-in (x ∷ l) zero d h = inl refl
get_or-in (x ∷ l) (suc i) d h = inr (get_or-in l i d (omega arith))

pub in-get_or : {A : Type 0} (l : List A) (a d : A) → In a l → (m : ℕ) × ((m < length l) × (a ≡ get_or l m d))
in-get_or [] a d i = absurd i
in-get_or (x ∷ l) a d (inl p) = (0, (omega arith, p))
in-get_or (x ∷ l) a d (inr i) = let r = in-get_or l a d i in (suc r.0, (omega (arith, r.1.0), r.1.1))

-- ---- to be one of one or two
pub among_one : (c x : ℕ) → among c (x ∷ []) ≡ eqb c x
among_one c x = by_cases (eqb c x) (λ e. rw (e, among)) (λ e. rw (e, among))

pub among-more : (c x : ℕ) (xs : List ℕ) → among c (x ∷ xs) ≡ eqb c x || among c xs
among-more c x xs = by_cases (eqb c x) (λ e. rw (e, among)) (λ e. rw (e, among))

pub among_two : (c x y : ℕ) → among c (x ∷ y ∷ []) ≡ eqb c x || eqb c y
among_two c x y = among-more c x (y ∷ []) ∙ ap (λ (b : Bool). eqb c x || b) (among_one c y)

-- ---- the first that passes a test, of those that pass another
pub first-keep : {A : Type 0} (t u : A → Bool) (xs : List A) → first t (keep u xs) ≡ first (λ x. u x && t x) xs
first-keep t u [] = refl
first-keep t u (x ∷ xs) =
    by_cases (u x)
    (λ e. by_cases (t x) (λ h. rw (e, keep, first, h, first)) (λ h. rw (e, keep, first, h, first) (first-keep t u xs)))
    (λ e. rw (e, keep, first) (first-keep t u xs))

-- those that pass a test, from the first on
module _ {A : Type 0} (t : A → Bool) (x : A) (xs : List A) where
  pub keep-on : t x ≡ true → keep t (x ∷ xs) ≡ x ∷ keep t xs
  keep-on e = rw (e, keep)

  pub keep-off : t x ≡ false → keep t (x ∷ xs) ≡ keep t xs
  keep-off e = rw (e, keep)

-- those that pass one test and another
module _ {A : Type 0} (t u : A → Bool) where
  pub keep-keep : (xs : List A) → keep t (keep u xs) ≡ keep (λ x. u x && t x) xs
  keep-keep [] = refl
  keep-keep (x ∷ xs) =
      let v : A → Bool = λ y. u y && t y in
      by_cases (u x)
      (λ a.
      by_cases (t x)
      (λ b.
      ap (keep t) (keep-on u x xs a)
      ∙ keep-on t x (keep u xs) b
      ∙ ap (λ (ys : List A). x ∷ ys) (keep-keep xs)
      ∙ sym (keep-on v x xs (both a b)))
      (λ b. ap (keep t) (keep-on u x xs a) ∙ keep-off t x (keep u xs) b ∙ keep-keep xs ∙ sym (keep-off v x xs (rw (a, b)))))
      (λ a. ap (keep t) (keep-off u x xs a) ∙ keep-keep xs ∙ sym (keep-off v x xs (rw a)))

-- lists of one length, one behind the other: number k of them
pub piece : {A : Type 0} (f : A → List ℕ) (n : ℕ) (xs : List A) (k : ℕ) (d : A) → ((x : A) → In x xs → length (f x) ≡ n) → k < length xs
    → take n (drop (k * n) (joined (map f xs))) ≡ f (get_or xs k d)
piece f n [] k d h l = absurd (omega arith)
piece f n (x ∷ xs) zero d h l = rw (zero-mul n) (take_at (f x) (joined (map f xs)) n (h x (inl refl)))
piece f n (x ∷ xs) (suc k) d h l =
    let e : suc k * n ≡ n + k * n = suc-mul k n ∙ add_comm (k * n) n in
    let rest = joined (map f xs) in
    ap (λ (j : ℕ). take n (drop j (f x ++ rest))) e
    ∙ ap (take n) (sym (drop-drop (k * n) n (f x ++ rest)) ∙ ap (drop (k * n)) (drop_at (f x) rest n (h x (inl refl))))
    ∙ piece f n xs k d (λ y i. h y (inr i)) (omega arith)
