-- The order of a list: what stands earlier, numbers that rise, and two lists member by member.
-- Assumes nothing.
use Rattle.std.specs.Prelude.{Some}
use mathlib.Core.Path.{◌≡◌, refl, sym, ap, ◌∙◌}
use mathlib.Core.Logic.{◌⊎◌, inl, inr, ⊎_elim}
use mathlib.Core.Bool.{Bool, true, false}
use mathlib.Core.List.{List, [], ◌∷◌, ◌++◌, map}
use Prim.Native.Nat.{ℕ, zero, suc, ◌≤◌, ◌<◌}
use lib.ListN.{get_or, length}
use native.Mathlib.Omega.{arith}
use Rattle.names.specs.Lists.{In, keep, first, last_or, joined, Pointwise}
use Rattle.names.proofs.Tests.{by_cases, the-some}
use Rattle.names.proofs.Lists.{in-keep, keep-in, in-append, append_left, in-joined, in_map, map-in, empty, get_or-in}

-- ---- the order of a list
module _ {A : Type 0} where
  -- a stands earlier than b
  abbrev pub Earlier : A → A → List A → Type 0
  Earlier a b [] = ⊥
  Earlier a b (x ∷ xs) = ((a ≡ x) × In b xs) ⊎ Earlier a b xs

  pub earlier-first : (xs : List A) (a b : A) → Earlier a b xs → In a xs
  earlier-first [] a b e = absurd e
  earlier-first (x ∷ xs) a b (inl h) = inl h.0
  earlier-first (x ∷ xs) a b (inr e) = inr (earlier-first xs a b e)

  pub earlier-second : (xs : List A) (a b : A) → Earlier a b xs → In b xs
  earlier-second [] a b e = absurd e
  earlier-second (x ∷ xs) a b (inl h) = inr h.1
  earlier-second (x ∷ xs) a b (inr e) = inr (earlier-second xs a b e)

  pub earlier-keep : (t : A → Bool) (xs : List A) (a b : A) → Earlier a b xs → t a ≡ true → t b ≡ true → Earlier a b (keep t xs)
  earlier-keep t [] a b e p q = absurd e
  earlier-keep t (x ∷ xs) a b (inl h) p q = rw (sym (ap t h.0) ∙ p, keep) (inl (h.0, keep-in t xs b h.1 q))
  earlier-keep t (x ∷ xs) a b (inr e) p q =
      by_cases (t x)
      (λ k. rw (k, keep) (inr (earlier-keep t xs a b e p q)))
      (λ k. rw (k, keep) (earlier-keep t xs a b e p q))

  pub keep-earlier : (t : A → Bool) (xs : List A) (a b : A) → Earlier a b (keep t xs) → Earlier a b xs
  keep-earlier t [] a b e = absurd e
  keep-earlier t (x ∷ xs) a b e =
      by_cases (t x)
      (λ k. ⊎_elim (λ (h : (a ≡ x) × In b (keep t xs)). inl (h.0, (in-keep t xs b h.1).0))
      (λ (h : Earlier a b (keep t xs)). inr (keep-earlier t xs a b h))
      (rw (k, keep) at e))
      (λ k. inr (keep-earlier t xs a b (rw (k, keep) at e)))

  earlier-left : (xs ys : List A) (a b : A) → Earlier a b xs → Earlier a b (xs ++ ys)
  earlier-left [] ys a b e = absurd e
  earlier-left (x ∷ xs) ys a b (inl h) = inl (h.0, append_left xs ys b h.1)
  earlier-left (x ∷ xs) ys a b (inr e) = inr (earlier-left xs ys a b e)

  earlier-right : (xs ys : List A) (a b : A) → Earlier a b ys → Earlier a b (xs ++ ys)
  earlier-right [] ys a b e = e
  earlier-right (x ∷ xs) ys a b e = inr (earlier-right xs ys a b e)

  pub earlier-joined : (ls : List (List A)) (l : List A) (a b : A) → In l ls → Earlier a b l → Earlier a b (joined ls)
  earlier-joined [] l a b i e = absurd i
  earlier-joined (k ∷ ls) l a b (inl p) e = earlier-left k (joined ls) a b (rw p at e)
  earlier-joined (k ∷ ls) l a b (inr i) e = earlier-right k (joined ls) a b (earlier-joined ls l a b i e)

  append-earlier : (xs ys : List A) (a b : A) → Earlier a b (xs ++ ys) → Earlier a b xs ⊎ ((In a xs × In b ys) ⊎ Earlier a b ys)
  append-earlier [] ys a b e = inr (inr e)
  append-earlier (x ∷ xs) ys a b (inl h) =
      ⊎_elim (λ (i : In b xs). inl (inl (h.0, i))) (λ (i : In b ys). inr (inl (inl h.0, i))) (in-append xs ys b h.1)
  append-earlier (x ∷ xs) ys a b (inr e) =
      ⊎_elim (λ (h : Earlier a b xs). inl (inr h))
      (⊎_elim (λ (h : In a xs × In b ys). inr (inl (inr h.0, h.1))) (λ (h : Earlier a b ys). inr (inr h)))
      (append-earlier xs ys a b e)

  -- in the lists joined: in one of them, or in an earlier and a later one
  abbrev pub Within : List (List A) → A → A → Type 0
  Within ls a b = (l : List A) × In l ls × Earlier a b l

module _ {A : Type 0} where
  abbrev pub Across : List (List A) → A → A → Type 0
  Across ls a b = (k : List A) × (l : List A) × Earlier k l ls × In a k × In b l

  pub joined-earlier : (ls : List (List A)) (a b : A) → Earlier a b (joined ls) → Within ls a b ⊎ Across ls a b
  joined-earlier [] a b e = absurd e
  joined-earlier (l ∷ ls) a b e =
      ⊎_elim (λ (h : Earlier a b l). inl (l, inl refl, h))
      (⊎_elim
      (λ (h : In a l × In b (joined ls)).
      let r = in-joined ls b h.1 in
      inr (l, r.0, inl (refl, r.1), h.0, r.2))
      (λ (h : Earlier a b (joined ls)).
      ⊎_elim (λ (w : Within ls a b). inl (w.0, inr w.1, w.2))
      (λ (w : Across ls a b). inr (w.0, w.1, inr w.2, w.3, w.4))
      (joined-earlier ls a b h)))
      (append-earlier l (joined ls) a b e)

module _ {A B : Type 0} where
  pub earlier-map : (f : A → B) (xs : List A) (a b : A) → Earlier a b xs → Earlier (f a) (f b) (map f xs)
  earlier-map f [] a b e = absurd e
  earlier-map f (x ∷ xs) a b (inl h) = inl (ap f h.0, map-in f xs b h.1)
  earlier-map f (x ∷ xs) a b (inr e) = inr (earlier-map f xs a b e)

  pub map-earlier : (f : A → B) (xs : List A) (c d : B) → Earlier c d (map f xs) → (a : A) × (b : A) × Earlier a b xs × (c ≡ f a) × (d ≡ f b)
  map-earlier f [] c d e = absurd e
  map-earlier f (x ∷ xs) c d (inl h) = let r = in_map f xs d h.1 in (x, r.0, inl (refl, r.1), h.0, r.2)
  map-earlier f (x ∷ xs) c d (inr e) = let r = map-earlier f xs c d e in (r.0, r.1, inr r.2, r.3, r.4)

-- ---- rising numbers, from p on
abbrev pub Rising : ℕ → List ℕ → Type 0
Rising p [] = Unit {0}
Rising p (q ∷ qs) = (p ≤ q) × Rising (suc q) qs

pub rising-from : (p q : ℕ) (qs : List ℕ) → p ≤ q → Rising q qs → Rising p qs
rising-from p q [] h r = tt
rising-from p q (x ∷ qs) h r = (omega (arith, r.0), r.1)

pub rising-in : (p : ℕ) (qs : List ℕ) (a : ℕ) → Rising p qs → In a qs → p ≤ a
rising-in p [] a r i = absurd i
rising-in p (q ∷ qs) a r (inl e) = omega (arith, r.0)
rising-in p (q ∷ qs) a r (inr i) = omega (arith, r.0, rising-in (suc q) qs a r.1 i)

pub earlier-less : (p : ℕ) (qs : List ℕ) (a b : ℕ) → Rising p qs → Earlier a b qs → a < b
earlier-less p [] a b r e = absurd e
earlier-less p (q ∷ qs) a b r (inl h) = omega (arith, h.0, rising-in (suc q) qs b r.1 h.1)
earlier-less p (q ∷ qs) a b r (inr e) = earlier-less (suc q) qs a b r.1 e

pub less-earlier : (p : ℕ) (qs : List ℕ) (a b : ℕ) → Rising p qs → In a qs → In b qs → a < b → Earlier a b qs
less-earlier p [] a b r i j l = absurd i
less-earlier p (q ∷ qs) a b r (inl e) (inl f) l = absurd (omega arith)
less-earlier p (q ∷ qs) a b r (inl e) (inr j) l = inl (e, j)
less-earlier p (q ∷ qs) a b r (inr i) (inl f) l = absurd (omega (arith, rising-in (suc q) qs a r.1 i))
less-earlier p (q ∷ qs) a b r (inr i) (inr j) l = inr (less-earlier (suc q) qs a b r.1 i j l)

pub keep-rising : (t : ℕ → Bool) (p : ℕ) (qs : List ℕ) → Rising p qs → Rising p (keep t qs)
keep-rising t p [] r = tt
keep-rising t p (q ∷ qs) r =
    by_cases (t q)
    (λ e. rw (e, keep) (r.0, keep-rising t (suc q) qs r.1))
    (λ e. rw (e, keep) (rising-from p (suc q) (keep t qs) (omega (arith, r.0)) (keep-rising t (suc q) qs r.1)))

-- none of rising numbers is above the last, nor is the number that they rise from
pub last-from : (d : ℕ) (qs : List ℕ) → Rising (suc d) qs → d ≤ last_or d qs
last-from d [] r = omega arith
last-from d (q ∷ qs) r = omega (arith, r.0, last-from q qs r.1)

pub last-above : (p d : ℕ) (qs : List ℕ) (a : ℕ) → Rising p qs → In a qs → a ≤ last_or d qs
last-above p d [] a r i = absurd i
last-above p d (q ∷ qs) a r (inl e) = omega (arith, last-from q qs r.1)
last-above p d (q ∷ qs) a r (inr i) = last-above (suc q) q qs a r.1 i

-- the last of rising numbers is the greatest
pub last-greatest : (p z : ℕ) (qs : List ℕ) (a : ℕ) → Rising p qs → In a qs → ((b : ℕ) → In b qs → b ≤ a) → last_or z qs ≡ a
last-greatest p z [] a r i h = absurd i
last-greatest p z (q ∷ qs) a r (inl e) h =
    let none-behind : qs ≡ [] = empty qs (λ b j. omega (arith, rising-in (suc q) qs b r.1 j, h b (inr j))) in
    ap (last_or q) none-behind ∙ sym e
last-greatest p z (q ∷ qs) a r (inr i) h = last-greatest (suc q) q qs a r.1 i (λ b j. h b (inr j))

-- the first of rising numbers that passes a test is the lowest
pub first-lowest : (t : ℕ → Bool) (p : ℕ) (qs : List ℕ) (a b : ℕ) → Rising p qs → first t qs ≡ Some a → In b qs → b < a → t b ≡ false
first-lowest t p [] a b r e i l = absurd i
first-lowest t p (q ∷ qs) a b r e i l =
    by_cases (t q)
    (λ k.
    let z : q ≡ a = the-some (rw (k, first) at e) in
    absurd (⊎_elim (λ (h : b ≡ q). let g : b ≡ q = h in omega arith) (λ (j : In b qs). omega (arith, rising-in (suc q) qs b r.1 j)) i))
    (λ k.
    ⊎_elim (λ (h : b ≡ q). ap t h ∙ k) (λ (j : In b qs). first-lowest t (suc q) qs a b r.1 (rw (k, first) at e) j l) i)

-- ---- two lists, member by member
module _ {A : Type 0} (R : ℕ → A → Type 0) where
  pub pointwise-left : (ps : List ℕ) (xs : List A) (p : ℕ) → Pointwise R ps xs → In p ps → (x : A) × In x xs × R p x
  pointwise-left [] [] p z i = absurd i
  pointwise-left [] (x ∷ xs) p z i = absurd z
  pointwise-left (q ∷ ps) [] p z i = absurd z
  pointwise-left (q ∷ ps) (x ∷ xs) p z (inl e) = (x, inl refl, rw e z.0)
  pointwise-left (q ∷ ps) (x ∷ xs) p z (inr i) = let r = pointwise-left ps xs p z.1 i in (r.0, inr r.1, r.2)

  pub pointwise-right : (ps : List ℕ) (xs : List A) (x : A) → Pointwise R ps xs → In x xs → (p : ℕ) × In p ps × R p x
  pointwise-right [] [] x z i = absurd i
  pointwise-right [] (y ∷ xs) x z i = absurd z
  pointwise-right (q ∷ ps) [] x z i = absurd z
  pointwise-right (q ∷ ps) (y ∷ xs) x z (inl e) = (q, inl refl, rw e z.0)
  pointwise-right (q ∷ ps) (y ∷ xs) x z (inr i) = let r = pointwise-right ps xs x z.1 i in (r.0, inr r.1, r.2)

  pub pointwise-earlier : (ps : List ℕ) (xs : List A) (p q : ℕ) → Pointwise R ps xs → Earlier p q ps → (x : A) × (y : A) × Earlier x y xs × R p x × R q y
  pointwise-earlier [] [] p q z e = absurd e
  pointwise-earlier [] (x ∷ xs) p q z e = absurd z
  pointwise-earlier (k ∷ ps) [] p q z e = absurd z
  pointwise-earlier (k ∷ ps) (x ∷ xs) p q z (inl h) =
      let r = pointwise-left ps xs q z.1 h.1 in (x, r.0, inl (refl, r.1), rw h.0 z.0, r.2)
  pointwise-earlier (k ∷ ps) (x ∷ xs) p q z (inr e) =
      let r = pointwise-earlier ps xs p q z.1 e in (r.0, r.1, inr r.2, r.3, r.4)

  pub earlier-pointwise : (ps : List ℕ) (xs : List A) (x y : A) → Pointwise R ps xs → Earlier x y xs → (p : ℕ) × (q : ℕ) × Earlier p q ps × R p x × R q y
  earlier-pointwise [] [] x y z e = absurd e
  earlier-pointwise [] (k ∷ xs) x y z e = absurd z
  earlier-pointwise (p ∷ ps) [] x y z e = absurd z
  earlier-pointwise (p ∷ ps) (k ∷ xs) x y z (inl h) =
      let r = pointwise-right ps xs y z.1 h.1 in (p, r.0, inl (refl, r.1), rw h.0 z.0, r.2)
  earlier-pointwise (p ∷ ps) (k ∷ xs) x y z (inr e) =
      let r = earlier-pointwise ps xs x y z.1 e in (r.0, r.1, inr r.2, r.3, r.4)

-- of two at different positions one is earlier
pub at-earlier : {A : Type 0} (xs : List A) (i j : ℕ) (d : A) → i < j → j < length xs → Earlier (get_or xs i d) (get_or xs j d) xs
at-earlier [] i j d h l = absurd (omega arith)
at-earlier (x ∷ xs) i zero d h l = absurd (omega arith)
at-earlier (x ∷ xs) zero (suc j) d h l = inl (refl, get_or-in xs j d (omega arith))
at-earlier (x ∷ xs) (suc i) (suc j) d h l = inr (at-earlier xs i j d (omega arith) (omega arith))
