-- Row 9 by one pass over the records: the cells say what the earlier records say.
-- Assumes nothing.
use Rattle.std.specs.Prelude.{None}
use Prim.Native.Nat.{◌+◌, ◌<◌, ◌≤◌, suc, zero, ℕ}
use borrow.Author.Tests.{eqb-false, eqb-true, le-leb, leb-true, lt-ltb, ltb-true}
use lib.Dec.{eqb, leb, ltb}
use lib.ListN.{length, replicate}
use mathlib.Core.Bool.{Bool, ◌&&◌, ◌||◌, and-or_distrib_left, false, false≢true, true, and-false}
use mathlib.Core.List.{List}
use mathlib.Core.Logic.{◌⊎◌, inl, inr, ⊎_elim}
use mathlib.Core.Path.{◌∙◌, ◌≡◌, ap, refl, sym}
use native.Mathlib.Omega.{arith}
use Rattle.names.specs.Lists.{In, among, any}
use Rattle.names.proofs.Tests.{and_left, and_right, apart, both, both_ways, by_cases, not-both, or_cases, or_left, or_right}
use Rattle.names.proofs.Lists.{among-any, any-cong, any-in, any_none, any-or, any_some}
use Rattle.recipe.specs.Reading.{fault₅}
use Rattle.recipe.specs.Records.{Recipe, is_deletion, is_mark, is_model, is_pointer, is_port, is_replaced_by, is_replacement, kind}
use Rattle.tree.specs.Faults.{fault₇, fault₈}
use Rattle.tree.specs.Tree.{Node, nodes}
use Rattle.tree.proofs.ByRecord.{by-none}
use Rattle.marks.specs.Cells.{Stamped, any_set, asks, is_set, stamps, within}
use Rattle.marks.specs.Faults.{conflicts_with_earlier}
use Rattle.marks.specs.Marks.{conflict, tree_pointers}
use Rattle.marks.proofs.Cells.{within-is}
use Rattle.marks.proofs.Marks.{pointer-placed}
use Rattle.marks.proofs.Relations.{related}
use Rattle.marks.proofs.Stamps.{conflict-law}

-- ---- ranges of cells
within_both : (b m k : ℕ) → within b m k ≡ true → (b ≤ k) × (k < b + m)
unfolding within
within_both b m k e = (leb-true b k (and_left (leb b k) _ e), ltb-true k (b + m) (and_right (leb b k) _ e))

within-true : (b m k : ℕ) → b ≤ k → k < b + m → within b m k ≡ true
unfolding within
within-true b m k x y = both (le-leb b k x) (lt-ltb k (b + m) y)

within-cons : (a n c : ℕ) → within a (suc n) c ≡ eqb a c || within (suc a) n c
within-cons a n c =
    within-is a (suc n) c (eqb a c || within (suc a) n c)
    (λ e. ⊎_elim (λ (h : eqb a c ≡ true). let p = eqb-true a c h in (omega arith, omega arith))
    (λ (h : within (suc a) n c ≡ true). let p = within_both (suc a) n c h in (omega arith, omega arith)) (or_cases (eqb a c) (within (suc a) n c) e))
    (λ x y. by_cases (eqb a c) (λ e. or_left _ _ e)
    (λ e. let z = eqb-false a c e in or_right (eqb a c) _ (within-true (suc a) n c (apart x z) (omega arith))))

within_none : (a c : ℕ) → within a 0 c ≡ false
within_none a c = within-is a 0 c false (λ e. absurd (false≢true e)) (λ x y. absurd (omega arith))

-- ---- the cells that some records set
module _ (s : Recipe) where
  pub stamped-same : (t : List ℕ) (D E : Node → Type 0) → ((q : Node) → In q (nodes s (is_pointer s)) → E q → D q) → ((q : Node) → In q (nodes s (is_pointer s)) → D q → E q)
      → Stamped s D t → Stamped s E t
  unfolding tree_pointers
  stamped-same t D E f g h = record {
    has = λ q i e c m. h.has q i (f q i e) c m;
    only = λ c e. let r = h.only c e in (r.0, (r.1.0, (g r.0 r.1.0 r.1.1.0, r.1.1.1)));
  }

  -- no cell is set
  pub stamped-none : (n : ℕ) {u : List ℕ} → u ≡ replicate n 0 → Stamped s (λ q. q.place < 0) u × (length u ≡ n)
  stamped-none n z = rw z (record { has = λ q i e. absurd (omega arith); only = λ c e. not-both e (unset n c) }, long n)
    where
      long : (m : ℕ) → length {A = ℕ} (replicate m 0) ≡ m
      long zero = refl
      long (suc m) = ap suc (long m)

      unset : (m k : ℕ) → is_set (replicate m 0) k ≡ false
      unset zero k = refl
      unset (suc m) zero = refl
      unset (suc m) (suc k) = unset m k

  -- one record more
  pub stamped-one : (t t' : List ℕ) (D : Node → Type 0) (x : Node) → In x (tree_pointers s) → ((c : ℕ) → is_set t' c ≡ is_set t c || among c (stamps s x)) → Stamped s D t
      → Stamped s (λ q. D q ⊎ (q ≡ x)) t'
  stamped-one t t' D x i e h = record {
    has = λ q j d c m. e c
        ∙ ⊎_elim (λ (y : D q). or_left (is_set t c) _ (h.has q j y c m)) (λ (y : q ≡ x). or_right (is_set t c) (among c (stamps s x)) (rw y at m)) d;
    only = λ c m.
        ⊎_elim
        (λ (y : is_set t c ≡ true). let r = h.only c y in (r.0, (r.1.0, (inl r.1.1.0, r.1.1.1))))
        (λ (y : among c (stamps s x) ≡ true). (x, (i, (inr refl, y)))) (or_cases (is_set t c) (among c (stamps s x)) (sym (e c) ∙ m));
  }

  -- a cell is set by a record that D says: b is the test for D
  pub stamped-any : (t : List ℕ) (D : Node → Type 0) (b : Node → Bool) → ((q : Node) → D q → b q ≡ true) → ((q : Node) → b q ≡ true → D q) → Stamped s D t
      → (c : ℕ) → is_set t c ≡ any (λ q. b q && among c (stamps s q)) (tree_pointers s)
  stamped-any t D b f g h c =
      let F : Node → Bool = λ q. b q && among c (stamps s q) in
      both_ways {a = is_set t c} {b = any F (tree_pointers s)}
      (λ e. let r = h.only c e in any-in F (tree_pointers s) r.0 r.1.0 (both (f r.0 r.1.1.0) r.1.1.1))
      (λ e.
      let r = any_some F (tree_pointers s) e in
      h.has r.0 r.1 (g r.0 (and_left (b r.0) _ r.2)) c (and_right (b r.0) _ r.2))

  -- the cells of a range are set by the earlier records whose stamps lie in it
  any-set : (p : ℕ) (t : List ℕ) → Stamped s (λ q. q.place < p) t → (a n : ℕ)
      → any_set t a n ≡ any (λ q. ltb q.place p && any (within a n) (stamps s q)) (tree_pointers s)
  unfolding any_set
  any-set p t h a zero =
      sym (any_none (λ q. ltb q.place p && any (within a 0) (stamps s q)) (tree_pointers s)
      (λ q i. ap (λ (b : Bool). ltb q.place p && b) (any_none (within a 0) (stamps s q) (λ c j. within_none a c)) ∙ and-false (ltb q.place p)))
  any-set p t h a (suc n) =
      ap (λ (b : Bool). b || any_set t (suc a) n) (stamped-any t (λ q. q.place < p) (λ q. ltb q.place p) (λ q d. lt-ltb q.place p d) (λ q d. ltb-true q.place p d) h a)
      ∙ ap (λ (b : Bool). any (λ q. ltb q.place p && among a (stamps s q)) (tree_pointers s) || b) (any-set p t h (suc a) n)
      ∙ sym (any-or (λ q. ltb q.place p && among a (stamps s q)) (λ q. ltb q.place p && any (within (suc a) n) (stamps s q)) (tree_pointers s))
      ∙ any-cong
      (λ q. ltb q.place p && among a (stamps s q) || ltb q.place p && any (within (suc a) n) (stamps s q))
      (λ q. ltb q.place p && any (within a (suc n)) (stamps s q)) (tree_pointers s)
      (λ q i.
      sym (and-or_distrib_left (ltb q.place p) (among a (stamps s q)) (any (within (suc a) n) (stamps s q)))
      ∙ ap (λ (b : Bool). ltb q.place p && b)
      (ap (λ (b : Bool). b || any (within (suc a) n) (stamps s q)) (among-any a (stamps s q))
      ∙ sym (any-or (eqb a) (within (suc a) n) (stamps s q))
      ∙ any-cong (λ c. eqb a c || within (suc a) n c) (within a (suc n)) (stamps s q) (λ c j. sym (within-cons a n c))))

  -- what a record finds set, among the cells that it asks, is a conflict with an earlier one
  pub query : fault₅ s ≡ None → fault₇ s ≡ None → fault₈ s ≡ None → (p : ℕ) (t : List ℕ) → Stamped s (λ q. q.place < p) t
      → (r : Node) → In r (tree_pointers s) → (a n a' n' : ℕ) → ((c : ℕ) → asks s r c ≡ within a n c || within a' n' c)
      → any (λ q. ltb q.place p && conflict s q r) (tree_pointers s) ≡ any_set t a n || any_set t a' n'
  query h₅ h₇ h₈ p t h r i a n a' n' e =
      any-cong (λ q. ltb q.place p && conflict s q r)
      (λ q. ltb q.place p && any (within a n) (stamps s q) || ltb q.place p && any (within a' n') (stamps s q)) (tree_pointers s)
      (λ q j.
      ap (λ (b : Bool). ltb q.place p && b)
      (conflict-law s q r (related s h₅ h₇ h₈ q r j i) (pointer-placed s q j).passes (pointer-placed s r i).passes
      ∙ any-cong (asks s r) (λ c. within a n c || within a' n' c) (stamps s q) (λ c k. e c)
      ∙ any-or (within a n) (within a' n') (stamps s q))
      ∙ and-or_distrib_left (ltb q.place p) (any (within a n) (stamps s q)) (any (within a' n') (stamps s q)))
      ∙ any-or (λ q. ltb q.place p && any (within a n) (stamps s q)) (λ q. ltb q.place p && any (within a' n') (stamps s q)) (tree_pointers s)
      ∙ ap (λ (b : Bool). b || any (λ q. ltb q.place p && any (within a' n') (stamps s q)) (tree_pointers s)) (sym (any-set p t h a n))
      ∙ ap (λ (b : Bool). any_set t a n || b) (sym (any-set p t h a' n'))

  -- ---- the marks and ports of one record
  pub not-model : (p : ℕ) → is_pointer s p ≡ true → is_model s p ≡ false
  unfolding is_mark is_port is_model is_deletion is_replacement is_replaced_by
  not-model p h =
      by_cases (is_model s p)
      (λ e. let k : kind s p ≡ 1 = eqb-true (kind s p) 1 e in absurd (false≢true (rw k at h)))
      (λ e. e)

  -- a record that is no mark or port conflicts with none
  pub no_pointer : (p : ℕ) → is_pointer s p ≡ false → conflicts_with_earlier s p ≡ false
  unfolding conflicts_with_earlier tree_pointers
  no_pointer p k = by-none s (is_pointer s) p k (λ r. any (λ q. ltb q.place p && conflict s q r) (tree_pointers s))
