-- The elements of the tree listed by their numbers, record by record, and a record's instances along their thread.
-- Assumes nothing.
use Prim.Native.Nat.{◌*◌, ◌+◌, ◌<◌, ◌≤◌, ℕ}
use borrow.Author.Tests.{eqb-false, eqb-true}
use lib.Dec.{eqb}
use lib.ListN.{get_or, length, length-set, set}
use lib.Seq.{get_or-set_other, get_or-set_same}
use mathlib.Core.Bool.{true, false}
use mathlib.Core.List.{List}
use mathlib.Core.Logic.{◌⊎◌, ⊎_elim}
use mathlib.Core.Path.{◌∙◌, ◌≡◌, ap, sym}
use native.Mathlib.Omega.{arith}
use Rattle.names.specs.Lists.{In}
use Rattle.names.proofs.Tests.{by_cases}
use Rattle.recipe.specs.Definitions.{holder}
use Rattle.recipe.specs.Records.{Recipe, is_element, is_model, kind, places}
use Rattle.shadow.specs.Columns.{order}
use Rattle.tree.specs.Numbers.{number}
use Rattle.tree.specs.Tree.{Node, node, nodes, tree_elements}
use Rattle.tree.proofs.Numbering.{number-few, number-inj}
use Rattle.targets.specs.Targeted.{Targeted}
use Rattle.elements.specs.Columns.{ElementRows}
use Rattle.elements.specs.Listing.{Entry, Listed}
use Rattle.marks.proofs.Threads.{Done, Holds, has-row, path, this-in}
use Rattle.marks.proofs.Following.{Following, follow-on, follows-holds}
use Rattle.tree.specs.declared.InstancesOf.{InstancesOf}
use Rattle.tree.specs.Steps.{StepsTo}
use Rattle.std.specs.Prelude.{Some}

-- the row of the element of number n, and the others, after `put_element`
abbrev pub entered : List ℕ → ℕ → ℕ → ℕ → List ℕ
entered el n p i = set (set (set el (5 * n + 0) p) (5 * n + 1) i) (5 * n + 3) 0

module _ (el : List ℕ) (n p i : ℕ) (room : 5 * n + 4 < length el) where
  entered-record : get_or (entered el n p i) (5 * n + 0) 0 ≡ p
  entered-record =
      get_or-set_other (set (set el (5 * n + 0) p) (5 * n + 1) i) (5 * n + 3) (5 * n + 0) 0 0 (λ z. omega arith)
      ∙ get_or-set_other (set el (5 * n + 0) p) (5 * n + 1) (5 * n + 0) i 0 (λ z. omega arith)
      ∙ get_or-set_same el (5 * n + 0) p 0 (omega arith)

  entered-instance : get_or (entered el n p i) (5 * n + 1) 0 ≡ i
  entered-instance =
      get_or-set_other (set (set el (5 * n + 0) p) (5 * n + 1) i) (5 * n + 3) (5 * n + 1) 0 0 (λ z. omega arith)
      ∙ get_or-set_same (set el (5 * n + 0) p) (5 * n + 1) i 0 (omega (arith, length-set el (5 * n + 0) p))

  entered-step : get_or (entered el n p i) (5 * n + 3) 0 ≡ 0
  entered-step =
      get_or-set_same (set (set el (5 * n + 0) p) (5 * n + 1) i) (5 * n + 3) 0 0
      (omega (arith, length-set (set el (5 * n + 0) p) (5 * n + 1) i, length-set el (5 * n + 0) p))

  entered-other : (m j : ℕ) → j < 5 → (m ≡ n → ⊥) → get_or (entered el n p i) (5 * m + j) 0 ≡ get_or el (5 * m + j) 0
  entered-other m j l h =
      get_or-set_other (set (set el (5 * n + 0) p) (5 * n + 1) i) (5 * n + 3) (5 * m + j) 0 0 (λ z. h (row 3 (omega arith) z))
      ∙ get_or-set_other (set el (5 * n + 0) p) (5 * n + 1) (5 * m + j) i 0 (λ z. h (row 1 (omega arith) z))
      ∙ get_or-set_other el (5 * n + 0) (5 * m + j) p 0 (λ z. h (row 0 (omega arith) z))
    where
      row : (k : ℕ) → k < 5 → 5 * m + j ≡ 5 * n + k → m ≡ n
      row k a z = omega arith

module _ (s : Recipe) where
  element-kind : (p : ℕ) → is_element s p ≡ true → kind s p ≡ 2
  unfolding is_element
  element-kind p e = eqb-true (kind s p) 2 e

  not-model : (p : ℕ) → is_element s p ≡ true → is_model s p ≡ false
  unfolding is_model
  not-model p e = rw (element-kind p e)

  pub listed_same : (el : List ℕ) (D E : Node → Type 0) → ((q : Node) → In q (nodes s (is_element s)) → E q → D q) → ((q : Node) → In q (nodes s (is_element s)) → D q → E q)
      → Listed s D el → Listed s E el
  unfolding tree_elements
  listed_same el D E f g L x i d = L x i (f x i d)

  pub listed-none : (el : List ℕ) → Listed s (λ x. x.place < 0) el
  listed-none el x i d = absurd (omega arith)

  pub listed-rows : (el : List ℕ) → 5 * length (tree_elements s) ≤ length el → Listed s (λ x. Unit {0}) el → ElementRows s el
  listed-rows el l L = record { room = l; records = λ x i. (L x i tt).at; within = λ x i. (L x i tt).few; paths = λ x i. (L x i tt).path-is }

-- ---- an element record in one instance
module _ {s : Recipe} {t inst : List ℕ} {insts : ℕ} (T : Targeted s t inst insts) (p : ℕ) (here : In p (places s)) (sort : is_element s p ≡ true) where
  module _ (i : ℕ) {f o : ℕ} (h : Holds s (holder s p) i) (rf : f ≡ get_or inst (6 * i + 2) 0) (ro : o ≡ get_or t (p + 1) 0) where
    abbrev this : Node
    this = node (path s i) p

    element-this : In this (tree_elements s)
    unfolding tree_elements
    element-this = this-in s (is_element s) p i here (not-model s p sort) sort h

    this-number : number s this ≡ f + o
    unfolding number node
    this-number =
        omega (arith, T.planted.rows.start i (has-row T h.0), T.planted.measured.linked.numbered.orders p here sort, ap (λ (d : ℕ). order s d p) h.1)

    pub this-few : f + o < 1024
    this-few = omega (arith, this-number, number-few s T.planted.row₇ this element-this)

    listed-one : (el : List ℕ) (D : Node → Type 0) → 5 * 1024 ≤ length el → Listed s D el → Listed s (λ q. D q ⊎ (q ≡ this)) (entered el (f + o) p i)
    unfolding node
    listed-one el D room L x j d =
        let few = this-few in
        let fits : 5 * (f + o) + 4 < length el = omega arith in
        by_cases (eqb (number s x) (f + o))
        (λ z.
        let y : number s x ≡ f + o = eqb-true (number s x) (f + o) z in
        let same : x ≡ this = number-inj s T.planted.row₇ x this j element-this (y ∙ sym this-number) in
        record {
          at = rw y (entered-record el (f + o) p i fits ∙ ap (λ (v : Node). v.place) (sym same));
          few = rw (y, entered-instance el (f + o) p i fits) h.0;
          path-is = rw (y, entered-instance el (f + o) p i fits) (ap (λ (v : Node). v.path) (sym same));
          no_step = rw y (entered-step el (f + o) p i fits);
        })
        (λ z.
        let y = eqb-false (number s x) (f + o) z in
        let E : Entry s el x = L x j (⊎_elim (λ (u : D x). u) (λ (u : x ≡ this). absurd (y (ap (number s) u ∙ this-number))) d) in
        record {
          at = entered-other el (f + o) p i fits (number s x) 0 (omega arith) y ∙ E.at;
          few = rw (entered-other el (f + o) p i fits (number s x) 1 (omega arith) y) E.few;
          path-is = rw (entered-other el (f + o) p i fits (number s x) 1 (omega arith) y) E.path-is;
          no_step = entered-other el (f + o) p i fits (number s x) 3 (omega arith) y ∙ E.no_step;
        })

  -- the turn of instance i
  pub list-turn : {a b : InstancesOf} (i : ℕ) {f o : ℕ} (el : List ℕ) {el' : List ℕ} → f ≡ get_or inst (6 * i + 2) 0 → o ≡ get_or t (p + 1) 0 → 5 * 1024 ≤ length el
      → el' ≡ entered el (f + o) p i → Following s inst p (λ D. Listed s D el) a → StepsTo a (Some i) b → Following s inst p (λ D. Listed s D el') b
  list-turn i {f} {o} el rf ro l r g e =
      rw r
      (follow-on T p here (is_element s) (λ D. Listed s D (entered el (f + o) p i)) (listed_same s (entered el (f + o) p i)) g e
      (λ L. listed-one i (follows-holds T p here g e) rf ro el (Done s p i) l L))
