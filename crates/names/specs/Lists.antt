-- Lists, by tests that compute: the functions that all definitions are written with. Assumes nothing.
use Rattle.std.specs.Prelude.{ℕ, ◌-◌, ◌≡◌, ◌⊎◌, Bool, true, false, ◌&&◌, List, [], ◌∷◌, ◌++◌, length, replicate, eqb, None, Option, Some}

module _ {A : Type 0} where
  -- a is in the list
  abbrev pub In : A → List A → Type 0
  In a [] = ⊥
  In a (x ∷ xs) = (a ≡ x) ⊎ In a xs

  -- those that pass the test, in order
  abbrev pub keep : (A → Bool) → List A → List A
  keep t [] = []
  keep t (x ∷ xs) = elim (t x) [ true ↦ x ∷ keep t xs | false ↦ keep t xs ]

  -- those before the first that fails the test
  abbrev pub keep_while : (A → Bool) → List A → List A
  keep_while t [] = []
  keep_while t (x ∷ xs) = elim (t x) [ true ↦ x ∷ keep_while t xs | false ↦ [] ]

  -- one at least passes the test
  abbrev pub any : (A → Bool) → List A → Bool
  any t [] = false
  any t (x ∷ xs) = elim (t x) [ true ↦ true | false ↦ any t xs ]

  -- each passes the test
  abbrev pub every : (A → Bool) → List A → Bool
  every t [] = true
  every t (x ∷ xs) = elim (t x) [ true ↦ every t xs | false ↦ false ]

  -- the first that passes the test; of places in rising order, the lowest
  abbrev pub first : (A → Bool) → List A → Option A
  first t [] = None
  first t (x ∷ xs) = elim (t x) [ true ↦ Some x | false ↦ first t xs ]

  -- the last, or d of the empty list
  abbrev pub last_or : A → List A → A
  last_or d [] = d
  last_or d (x ∷ xs) = last_or x xs

  -- the lists one after the other
  abbrev pub joined : List (List A) → List A
  joined [] = []
  joined (l ∷ ls) = l ++ joined ls

  -- a value is there, and passes the test
  abbrev pub holds : (A → Bool) → Option A → Bool
  holds t None = false
  holds t (Some x) = t x

module _ {A : Type 0} (R : ℕ → A → Type 0) where
  -- the members at each position of both are so related
  abbrev pub Pointwise : List ℕ → List A → Type 0
  Pointwise [] [] = Unit {0}
  Pointwise [] (x ∷ xs) = ⊥
  Pointwise (p ∷ ps) [] = ⊥
  Pointwise (p ∷ ps) (x ∷ xs) = R p x × Pointwise ps xs

-- the same list
abbrev pub same : List ℕ → List ℕ → Bool
same [] [] = true
same [] (y ∷ ys) = false
same (x ∷ xs) [] = false
same (x ∷ xs) (y ∷ ys) = eqb x y && same xs ys

-- the list ys begins with xs
abbrev pub begins : List ℕ → List ℕ → Bool
begins [] ys = true
begins (x ∷ xs) [] = false
begins (x ∷ xs) (y ∷ ys) = eqb x y && begins xs ys

-- n is one of the list
abbrev pub among : ℕ → List ℕ → Bool
among n [] = false
among n (x ∷ xs) = elim (eqb n x) [ true ↦ true | false ↦ among n xs ]

-- the list with zeros behind it, w in all
unfoldable pub padded : ℕ → List ℕ → List ℕ
padded w xs = xs ++ replicate (w - length xs) 0
