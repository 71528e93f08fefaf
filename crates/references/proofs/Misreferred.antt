-- Row 12's pass over the elements by their numbers: the lowest record of a survivor whose reference is at fault, and the ends in column 4.
-- Assumes nothing.
use Rattle.std.specs.Prelude.{None, Option, Some, min, unwrap_or}
use Prim.Native.Nat.{◌*◌, ◌+◌, ◌<◌, ◌≤◌, ℕ}
use borrow.Author.Tests.{eq-eqb, eqb-false, eqb-true, ltb-false, ltb-true}
use lib.Dec.{eqb, ltb}
use lib.ListN.{get_or, length, set}
use mathlib.Core.Bool.{Bool, ◌&&◌, false, not, true}
use mathlib.Core.List.{List}
use mathlib.Core.Path.{◌∙◌, ◌≡◌, ap, refl, sym}
use native.Mathlib.Omega.{arith}
use Rattle.names.specs.Lists.{In, any, first}
use Rattle.names.proofs.Lists.{any-in, any_some, first-none, none_first, some_first}
use Rattle.names.proofs.Tests.{and_left, and_right, both, by_cases, by-option, not-both, not_none, the-some, three}
use Rattle.recipe.specs.Records.{Recipe, places}
use Rattle.recipe.proofs.Reading.{lowest-place}
use Rattle.tree.specs.Faults.{fault₇}
use Rattle.tree.specs.Numbers.{number}
use Rattle.tree.specs.Steps.{cell_of}
use Rattle.tree.specs.Tree.{Node, tree_elements}
use Rattle.tree.proofs.Numbering.{number-inj}
use Rattle.marks.specs.Faults.{fault₁₂, is_reference_fault}
use Rattle.marks.specs.Marks.{survivors}
use Rattle.marks.proofs.Survivors.{survives, survivor}
use Rattle.elements.specs.Columns.{ElementRows, Gones, Nexts}
use Rattle.elements.specs.Gone.{Element, Numbers}
use Rattle.elements.specs.Listing.{Only}
use Rattle.elements.proofs.Elements.{ColumnFilled, below_more, column-over, element-at, element-held, filled-end, filled-one, filled-skip, filled-start, number-low, only_same, only_set, row-element, row_room, rows-over}
use Rattle.elements.proofs.Gone.{gone-told}
use Rattle.references.specs.Ends.{Ends, end_of}
use Rattle.references.specs.References.{EndAt, FaultAt}

-- ---- the lowest record at fault, of the survivors with numbers below e
pub record Lowest (s : Recipe) (e : ℕ) (lowest : Option ℕ) : Type 0 where
  pub low : (x : Node) → In x (survivors s) → number s x < e → is_reference_fault s x ≡ true → (b : ℕ) × ((lowest ≡ Some b) × (b ≤ x.place))
  pub is : (b : ℕ) → lowest ≡ Some b → (x : Node) × (In x (survivors s) × ((x.place ≡ b) × (is_reference_fault s x ≡ true)))

lowest_start : (s : Recipe) → Lowest s 0 None
lowest_start s = record { low = λ x i l f. absurd (omega arith); is = λ b q. not_none q }

module _ {s : Recipe} {e : ℕ} {lowest : Option ℕ} (L : Lowest s e lowest) where
  -- no survivor of number e is at fault
  lowest-more : ((x : Node) → In x (survivors s) → number s x ≡ e → is_reference_fault s x ≡ false) → Lowest s (e + 1) lowest
  lowest-more h = record {
    low = λ x i l f. by_cases (eqb (number s x) e) (λ q. not-both f (h x i (eqb-true (number s x) e q))) (λ q. L.low x i (below_more l (eqb-false (number s x) e q)) f);
    is = L.is;
  }

  -- the one at p is
  lowest-take : (x : Node) {p : ℕ} → In x (survivors s) → x.place ≡ p → is_reference_fault s x ≡ true → ((y : Node) → In y (survivors s) → number s y ≡ e → y ≡ x)
      → Lowest s (e + 1) (Some (min (unwrap_or lowest p) p))
  lowest-take x {p} i q f one = record {
    low = λ y j k g. (
      min (unwrap_or lowest p) p,
      (
        refl,
        by_cases (eqb (number s y) e)
            (λ z. let v : y.place ≡ p = ap (λ (n : Node). n.place) (one y j (eqb-true (number s y) e z)) ∙ q in omega arith)
            (λ z.
            let b = L.low y j (below_more k (eqb-false (number s y) e z)) g in
            omega (arith, b.1.1, ap (λ (o : Option ℕ). unwrap_or o p) b.1.0)),
      ),
    );
    is = λ b r.
        let m : min (unwrap_or lowest p) p ≡ b = the-some r in
        by_cases (ltb (unwrap_or lowest p) p)
        (λ l.
        by-option lowest
        (λ o. absurd (omega (arith, ltb-true (unwrap_or lowest p) p l, ap (λ (o : Option ℕ). unwrap_or o p) o)))
        (λ a o. L.is b (o ∙ ap Some (omega (arith, m, ltb-true (unwrap_or lowest p) p l, ap (λ (o : Option ℕ). unwrap_or o p) o)))))
        (λ l. (x, (i, (omega (arith, q, m, ltb-false (unwrap_or lowest p) p l), f))));
  }

  -- all numbers are below e
  module _ (all : (x : Node) → In x (survivors s) → number s x < e) where
    abbrev faulty : ℕ → Bool
    faulty p = any (λ x. eqb x.place p && is_reference_fault s x) (survivors s)

    at_least : (p : ℕ) → faulty p ≡ true → (b : ℕ) × ((lowest ≡ Some b) × (b ≤ p))
    at_least p h =
        let r = any_some (λ x. eqb x.place p && is_reference_fault s x) (survivors s) h in
        let l = L.low r.0 r.1 (all r.0 r.1) (and_right (eqb r.0.place p) _ r.2) in
        (l.0, (l.1.0, omega (arith, l.1.1, eqb-true r.0.place p (and_left (eqb r.0.place p) _ r.2))))

    lowest-end : lowest ≡ fault₁₂ s
    unfolding fault₁₂
    lowest-end =
        by-option lowest
        (λ o. o ∙ sym (first-none faulty (places s) (λ p i. by_cases (faulty p) (λ h. not_none (sym o ∙ (at_least p h).1.0)) (λ h. h))))
        (λ b o.
        let r = L.is b o in
        let t : faulty b ≡ true = any-in (λ x. eqb x.place b && is_reference_fault s x) (survivors s) r.0 r.1.0 (both (eq-eqb r.0.place b r.1.1.0) r.1.1.1) in
        let placed : In b (places s) = rw r.1.1.0 at (element-held s r.0 (survivor s r.0 r.1.0).0).placed in
        by-option (first faulty (places s))
        (λ n. not-both t (none_first faulty (places s) b n placed))
        (λ q n.
        let a = at_least q (some_first faulty (places s) q n).1 in
        three b q
        (λ k. not-both t (lowest-place s faulty q b n placed k))
        (λ k. o ∙ (ap Some k ∙ sym n))
        (λ k. absurd (omega (arith, a.1.1, the-some (sym o ∙ a.1.0))))))

-- ---- the pass before the element of number e: the lowest so far, and the ends of the survivors so far
pub record Passed (s : Recipe) (el₀ el : List ℕ) (e : ℕ) (lowest : Option ℕ) : Type 0 where
  pub least : Lowest s e lowest
  pub only : Only 4 el₀ el
  pub ends : ColumnFilled s (survivors s) 4 (end_of s) e el

pub passed-start : (s : Recipe) (el : List ℕ) → Passed s el el 0 None
passed-start s el = record { least = lowest_start s; only = only_same 4 el; ends = filled-start s (survivors s) 4 (end_of s) el }

-- what `first_misreferred` requires
abbrev Asked : Recipe → List ℕ → ℕ → Type 0
Asked s el₀ n = ElementRows s el₀ × (Gones s el₀ × (Nexts s el₀ × (n ≡ length (tree_elements s))))

module _ {s : Recipe} {el₀ el : List ℕ} {n e : ℕ} {lowest : Option ℕ} (h₇ : fault₇ s ≡ None) (A : Asked s el₀ n) (P : Passed s el₀ el e lowest) where
  pub passed-end : n ≤ e → (lowest ≡ fault₁₂ s) × (Ends s el × Only 4 el₀ el)
  passed-end l =
      let all : (x : Node) → In x (survivors s) → number s x < e = λ x i. omega (arith, number-low s h₇ x (survivor s x i).0, A.1.1.1) in
      (lowest-end P.least all, (filled-end s (survivors s) 4 (end_of s) el e all P.ends, P.only))

  pub passed-rows : ElementRows s el
  passed-rows = rows-over s P.only (omega arith) A.0

  passed-gones : Gones s el
  passed-gones = column-over s P.only 2 (omega arith) (λ z. omega arith) A.1.0

  pub passed-nexts : Nexts s el
  passed-nexts = column-over s P.only 3 (omega arith) (λ z. omega arith) A.1.1.0

  module _ (l : e < n) where
    pub turn-number : Numbers s e
    turn-number = element-at s h₇ e (omega (arith, A.1.1.1))

    pub turn-element : {p : ℕ} → p ≡ get_or el (5 * e + 0) 0 → Element s e p
    turn-element r = row-element h₇ passed-rows turn-number r

    -- it is gone
    pub turn-gone : {b : Bool} → b ≡ not (eqb (get_or el (5 * e + 2) 0) 0) → b ≡ true → Passed s el₀ el (e + 1) lowest
    turn-gone r z =
        let gone : (x : Node) → In x (survivors s) → number s x ≡ e → ⊥ = λ x i m. not-both (sym (gone-told s el passed-gones r x (survivor s x i).0 m) ∙ z) (survivor s x i).1 in
        record { least = lowest-more P.least (λ x i m. absurd (gone x i m)); only = P.only; ends = filled-skip s (survivors s) 4 (end_of s) el e gone P.ends }

    -- it survives, and o is written as the number of the end of its chain
    module _ (o : Option ℕ) {el' : List ℕ} (w : el' ≡ set el (5 * e + 4) (cell_of o)) where
      pub turn-judged : ElementRows s el' × Gones s el'
      turn-judged =
          let o = only_set {k = 4} (omega arith) (only_same 4 el) e (cell_of o) in
          rw w (rows-over s o (omega arith) passed-rows, column-over s o 2 (omega arith) (λ z. omega arith) passed-gones)

      module _ (V : EndAt s e o) {u : Bool} (F : FaultAt s e u) where
        written : {m : Option ℕ} → Lowest s (e + 1) m → Passed s el₀ el' (e + 1) m
        unfolding end_of
        written L =
            let room = row_room h₇ passed-rows turn-number in
            rw w (record {
              least = L;
              only = only_set (omega arith) P.only e (cell_of o);
              ends = filled-one s (survivors s) 4 (end_of s) el e (cell_of o) (omega (arith, room)) (λ x i m. ap cell_of (V x (survivor s x i).0 m)) P.ends;
            })

        pub turn-fit : u ≡ false → Passed s el₀ el' (e + 1) lowest
        turn-fit h = written (lowest-more P.least (λ x i m. sym (F x (survivor s x i).0 m) ∙ h))

        pub turn-fault : {b : Bool} {p m : ℕ} → b ≡ not (eqb (get_or el (5 * e + 2) 0) 0) → p ≡ get_or el (5 * e + 0) 0 → b ≡ false → u ≡ true → m ≡ min (unwrap_or lowest p) p → Passed s el₀ el' (e + 1) (Some m)
        turn-fault rc rp z h rm =
            let E = turn-element rp in
            let i = survives s E.it E.tree (sym (gone-told s el passed-gones rc E.it E.tree E.num) ∙ z) in
            rw rm (written (lowest-take P.least E.it i E.at (sym (F E.it E.tree E.num) ∙ h) (λ y j n. number-inj s h₇ y E.it (survivor s y j).0 E.tree (n ∙ sym E.num))))
