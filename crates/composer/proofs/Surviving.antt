-- The survivors by their numbers: which is the next of those that are left, what a loop over them has at each turn, and that they are the survivors of the recipe.
-- Assumes nothing.
use Rattle.std.specs.Prelude.{MatchOption, None, Option, Some}
use Prim.Native.Nat.{◌*◌, ◌+◌, ◌-◌, ◌/◌, ◌<◌, ◌≤◌, suc, zero, ℕ}
use borrow.Author.Tests.{eqb-true}
use lib.Dec.{eqb}
use lib.ListN.{drop, drop_of_length-le, get_or, length, length-map, take}
use lib.Seq.{drop-cons, get_or-take, length-take-le}
use mathlib.Core.Bool.{Bool, cond, false, not, true}
use mathlib.Core.List.{List, [], ◌∷◌, map}
use mathlib.Core.Logic.{inl, inr}
use mathlib.Core.Path.{◌∙◌, ◌≡◌, ap, refl, sym}
use native.Mathlib.Numerals.{add-one}
use native.Mathlib.Omega.{arith}
use Rattle.std.specs.Iterator.{Yields, YieldsFirst}
use Rattle.names.specs.Lists.{In, keep}
use Rattle.names.proofs.Lists.{in-keep, keep-length, keep-off, keep-on}
use Rattle.names.proofs.Tests.{by_cases, three}
use Rattle.recipe.specs.Records.{Recipe}
use Rattle.tree.specs.Numbers.{run}
use Rattle.tree.specs.Tree.{node, tree_elements}
use Rattle.tree.proofs.Numbering.{run_length}
use Rattle.marks.specs.Marks.{is_gone, survivors}
use Rattle.elements.proofs.Elements.{elements-few}
use Rattle.composer.specs.Fates.{Fated}
use Rattle.composer.specs.Surviving.{surviving}
use Rattle.composer.specs.Writing.{element_at}
use Rattle.composer.proofs.ByNumber.{element-in, element-number}

-- ---- those of a run of numbers that pass a test
module _ (t : ℕ → Bool) where
  keep-none : (k n : ℕ) → ((i : ℕ) → k ≤ i → i < k + n → t i ≡ false) → keep t (run k n) ≡ []
  keep-none k zero h = refl
  keep-none k (suc n) h =
      keep-off t k (run (suc k) n) (h k (omega arith) (omega arith)) ∙ keep-none (suc k) n (λ i a b. h i (omega arith) (omega arith))

  keep-first : (k n e m : ℕ) → k ≤ e → e + 1 + m ≡ k + n → ((i : ℕ) → k ≤ i → i < e → t i ≡ false) → t e ≡ true → keep t (run k n) ≡ e ∷ keep t (run (e + 1) m)
  keep-first k zero e m a b h y = absurd (omega arith)
  keep-first k (suc n) e m a b h y =
      three k e
      (λ l. keep-off t k (run (suc k) n) (h k (omega arith) l) ∙ keep-first (suc k) n e m (omega arith) (omega arith) (λ i c d. h i (omega arith) d) y)
      (λ q.
      let z : n ≡ m = omega arith in
      keep-on t k (run (suc k) n) (rw q y) ∙ rw (q, z, add-one e) refl)
      (λ l. absurd (omega arith))

in_run : (k n e : ℕ) → In e (run k n) → (k ≤ e) × (e < k + n)
in_run k zero e i = absurd i
in_run k (suc n) e (inl q) = (omega arith, omega arith)
in_run k (suc n) e (inr i) = let h = in_run (suc k) n e i in (omega (arith, h.0), omega (arith, h.1))

-- ---- the next of those that are left
module _ (el : List ℕ) (a n : ℕ) where
  abbrev stays : ℕ → Bool
  stays e = eqb (get_or el (5 * e + 2) 0) 0

  -- what the search finds
  pub left-from : (r : Option ℕ) → MatchOption r ((k : ℕ) → a ≤ k → k < n → stays k ≡ false) (λ e. (a ≤ e) × (e < n) × (stays e ≡ true) × ((k : ℕ) → a ≤ k → k < e → stays k ≡ false))
      → MatchOption r (surviving el a n ≡ []) (λ e. (e < n) × (surviving el a n ≡ e ∷ surviving el (e + 1) n))
  left-from None h = keep-none stays a (n - a) (λ i p q. h i p (omega arith))
  left-from (Some e) h = (h.1, keep-first stays a (n - a) e (n - (e + 1)) h.0 (omega (arith, h.0, h.1)) h.3 h.2)

-- ---- a loop over them: each has a row, in which it is not gone
pub record Staying (el : List ℕ) (n : ℕ) (left : List ℕ) : Type 0 where
  pub each : (e : ℕ) → In e left → (e < n) × (get_or el (5 * e + 2) 0 ≡ 0)

pub stay-start : (el : List ℕ) (n : ℕ) → Staying el n (surviving el 0 n)
stay-start el n = record {
  each = λ e i.
      let h = in-keep (λ k. eqb (get_or el (5 * k + 2) 0) 0) (run 0 (n - 0)) e i in
      (omega (arith, (in_run 0 (n - 0) e h.0).1), eqb-true (get_or el (5 * e + 2) 0) 0 h.1);
}

module _ {el : List ℕ} {n e : ℕ} {left more : List ℕ} (S : Staying el n left) (y : left ≡ e ∷ more) where
  pub stay-here : (e < n) × (get_or el (5 * e + 2) 0 ≡ 0)
  stay-here = S.each e (rw y (inl refl))

  pub stay-on : Staying el n more
  stay-on = record { each = λ k i. S.each k (rw y (inr i)) }

-- all of them come, one behind the other
module _ {S A : Type 0} (left : S → List A) where
  pub all-come : (xs : List A) (a b c : S) → Yields (YieldsFirst left) a xs b → YieldsFirst left b None c → length xs ≡ length (left a)
  all-come [] a b c y n = ap length (sym (ap left y ∙ n.0))
  all-come (x ∷ xs) a b c y n = ap suc (all-come xs y.0 b c y.2 n) ∙ sym (ap length y.1)

-- ---- they are the survivors
keep_same : {A : Type 0} (t u : A → Bool) (xs : List A) → ((x : A) → In x xs → t x ≡ u x) → keep t xs ≡ keep u xs
keep_same t u [] h = refl
keep_same t u (x ∷ xs) h =
    by_cases (u x)
    (λ b. keep-on t x xs (h x (inl refl) ∙ b) ∙ ap (λ ys. x ∷ ys) (keep_same t u xs (λ y i. h y (inr i))) ∙ sym (keep-on u x xs b))
    (λ b. keep-off t x xs (h x (inl refl) ∙ b) ∙ keep_same t u xs (λ y i. h y (inr i)) ∙ sym (keep-off u x xs b))

pub keep-map : {A B : Type 0} (f : A → B) (t : B → Bool) (xs : List A) → keep t (map f xs) ≡ map f (keep (λ x. t (f x)) xs)
keep-map f t [] = refl
keep-map f t (x ∷ xs) =
    by_cases (t (f x))
    (λ b. keep-on t (f x) (map f xs) b ∙ ap (λ ys. f x ∷ ys) (keep-map f t xs) ∙ sym (ap (map f) (keep-on (λ y. t (f y)) x xs b)))
    (λ b. keep-off t (f x) (map f xs) b ∙ keep-map f t xs ∙ sym (ap (map f) (keep-off (λ y. t (f y)) x xs b)))

run_drop : {A : Type 0} (d : A) (xs : List A) (n k : ℕ) → k + n ≡ length xs → map (λ j. get_or xs j d) (run k n) ≡ drop k xs
run_drop d xs zero k h = sym (drop_of_length-le xs (omega arith))
run_drop d xs (suc n) k h = ap (λ ys. get_or xs k d ∷ ys) (run_drop d xs n (suc k) (omega arith)) ∙ sym (drop-cons xs k d (omega arith))

module _ {s : Recipe} {el : List ℕ} {elems : ℕ} (F : Fated s el elems) where
  pub fates-few : elems ≤ 1024
  fates-few = omega (arith, F.count, elements-few s F.row₇)

  module _ {e : ℕ} (l : e < elems) where
    pub fate-room : 5 * e + 5 ≤ length el
    fate-room = omega (arith, F.count, F.room)

    fate : get_or el (5 * e + 2) 0 ≡ cond (is_gone s (element_at s e)) 1 0
    fate =
        let k : e < length (tree_elements s) = omega (arith, F.count) in
        ap (λ (n : ℕ). get_or el (5 * n + 2) 0) (sym (element-number s F.row₇ e k)) ∙ F.gones (element_at s e) (element-in s F.row₇ e k)

    pub survives-at : get_or el (5 * e + 2) 0 ≡ 0 → is_gone s (element_at s e) ≡ false
    survives-at z = by_cases (is_gone s (element_at s e)) (λ b. absurd (let k : 1 ≡ 0 = sym (fate ∙ rw b) ∙ z in omega arith)) (λ b. b)

    pub gone_at : (get_or el (5 * e + 2) 0 ≡ 0 → ⊥) → is_gone s (element_at s e) ≡ true
    gone_at z = by_cases (is_gone s (element_at s e)) (λ b. b) (λ b. absurd (z (fate ∙ rw b)))

    same-test : not (is_gone s (element_at s e)) ≡ eqb (get_or el (5 * e + 2) 0) 0
    same-test = rw fate (by_cases (is_gone s (element_at s e)) (λ b. rw b refl) (λ b. rw b refl))

  pub survivors-are : map (element_at s) (surviving el 0 elems) ≡ survivors s
  unfolding element_at survivors
  survivors-are =
      ap (map (element_at s)) (sym (keep_same (λ e. not (is_gone s (element_at s e))) (λ e. eqb (get_or el (5 * e + 2) 0) 0) (run 0 (elems - 0)) (λ e i. same-test (omega (arith, (in_run 0 (elems - 0) e i).1)))))
      ∙ sym (keep-map (element_at s) (λ x. not (is_gone s x)) (run 0 (elems - 0)))
      ∙ ap (keep (λ x. not (is_gone s x))) (run_drop (node [] 0) (tree_elements s) (elems - 0) 0 (omega (arith, F.count)))

  pub survivors-counted : length (surviving el 0 elems) ≡ length (survivors s)
  survivors-counted = sym (length-map (surviving el 0 elems) (element_at s)) ∙ ap length survivors-are

-- counted of a recipe, and of the same by another name
pub counted : {r s : Recipe} {k : ℕ} → k ≡ length (survivors r) → r ≡ s → k ≡ length (survivors s)
counted h e = h ∙ ap (λ (s : Recipe). length (survivors s)) e

-- the rows of the first n elements alone say as much
pub rows-alone : (el : List ℕ) (n : ℕ) → 5 * n ≤ length el → surviving (take (5 * n) el) 0 (length (take (5 * n) el) / 5) ≡ surviving el 0 n
rows-alone el n h =
    let k : length (take (5 * n) el) / 5 ≡ n = omega (arith, length-take-le (5 * n) el h) in
    rw k (keep_same (λ e. eqb (get_or (take (5 * n) el) (5 * e + 2) 0) 0) (λ e. eqb (get_or el (5 * e + 2) 0) 0) (run 0 (n - 0)) (λ e i. ap (λ (x : ℕ). eqb x 0) (get_or-take (5 * n) el (5 * e + 2) 0 (omega (arith, (in_run 0 (n - 0) e i).1)))))

pub surviving-few : (el : List ℕ) (a n : ℕ) → length (surviving el a n) ≤ n
surviving-few el a n = omega (arith, keep-length (λ k. eqb (get_or el (5 * k + 2) 0) 0) (run a (n - a)), run_length a (n - a))
