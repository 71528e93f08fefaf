-- The elements of the tree by their numbers, and the columns of their rows: a pass that writes one column keeps the others.
-- Assumes nothing.
use Rattle.std.specs.Prelude.{None, unwrap_or}
use Prim.Native.Nat.{◌*◌, ◌+◌, ◌-◌, ◌<◌, ◌≤◌, suc, zero, ℕ}
use borrow.Author.Tests.{eqb-false, eqb-true, ne_eqb}
use lib.Dec.{eqb}
use lib.ListN.{get_or-map, get_or, length, length-map, length-set, set}
use lib.Seq.{get_or-set_other, get_or-set_same}
use mathlib.Core.Bool.{true}
use mathlib.Core.List.{List, []}
use mathlib.Core.Path.{◌∙◌, ◌≡◌, ap, refl, sym}
use native.Mathlib.Nat.{add-zero}
use native.Mathlib.Omega.{arith}
use Rattle.names.specs.Lists.{In}
use Rattle.names.proofs.Lists.{get_or-in, in-get_or}
use Rattle.names.proofs.Tests.{by_cases, by-option}
use Rattle.recipe.specs.Definitions.{element_in, holder, main}
use Rattle.recipe.specs.Records.{Recipe, is_element, places}
use Rattle.recipe.proofs.Definitions.{Held, element-in, in-elements}
use Rattle.shadow.specs.Columns.{order}
use Rattle.shadow.specs.Shadow.{linked}
use Rattle.shadow.proofs.Cells.{row_room as record-room}
use Rattle.tree.specs.Faults.{fault₇, most_elements}
use Rattle.tree.specs.Numbers.{number, run, weight}
use Rattle.targets.specs.Targeted.{Aimed}
use Rattle.tree.specs.Tree.{Node, definition_at, node, tree_elements}
use Rattle.tree.proofs.Instances.{elements-most}
use Rattle.tree.proofs.Nodes.{in_tree}
use Rattle.tree.proofs.Numbering.{number-few, number-inj, run_length, tree-numbers}
use Rattle.targets.proofs.Resolving.{not-zero}
use Rattle.elements.specs.Columns.{ElementRows}
use Rattle.elements.specs.Gone.{Element, Numbers}
use Rattle.elements.specs.Listing.{Only}

-- ---- which element has the number e
run_at : (k w i d : ℕ) → i < w → get_or (run k w) i d ≡ k + i
run_at k zero i d h = absurd (omega arith)
run_at k (suc w) zero d h = sym (add-zero k)
run_at k (suc w) (suc i) d h = run_at (suc k) w i d (omega arith) ∙ omega arith

module _ (s : Recipe) where
  pub element-held : (x : Node) → In x (tree_elements s) → Held s (is_element s) (definition_at s x.path) x.place
  element-held x i = in-elements s (definition_at s x.path) x.place (in_tree s x i).1

  module _ (h₇ : fault₇ s ≡ None) where
    weight_is : length (tree_elements s) ≡ weight s main
    weight_is = sym (length-map (tree_elements s) (number s)) ∙ ap length (tree-numbers s h₇) ∙ run_length 0 (weight s main)

    pub element-number : (e : ℕ) → e < length (tree_elements s) → number s (get_or (tree_elements s) e (node [] 0)) ≡ e
    element-number e l =
        let d = number s (node [] 0) in
        sym (get_or-map (number s) (tree_elements s) e (node [] 0))
        ∙ ap (λ (y : List ℕ). get_or y e d) (tree-numbers s h₇)
        ∙ run_at 0 (weight s main) e d (omega (arith, weight_is))
        ∙ omega arith

    pub element-at : (e : ℕ) → e < length (tree_elements s) → Numbers s e
    element-at e l = (get_or (tree_elements s) e (node [] 0), get_or-in (tree_elements s) e (node [] 0) l, element-number e l)

    pub number-low : (x : Node) → In x (tree_elements s) → number s x < length (tree_elements s)
    number-low x i =
        let r = in-get_or (tree_elements s) x (node [] 0) i in
        let n : number s x ≡ r.0 = ap (number s) r.1.1 ∙ element-number r.0 r.1.0 in
        omega (arith, n, r.1.0)

    pub elements-few : length (tree_elements s) ≤ 1024
    unfolding most_elements
    elements-few = elements-most s h₇

-- what is said of one element is said of each that has its number
pub of-element : {A : Type 0} {s : Recipe} {e q : ℕ} → fault₇ s ≡ None → (E : Element s e q) (F : Node → A) {b : A} → b ≡ F E.it
    → (v : Node) → In v (tree_elements s) → number s v ≡ e → b ≡ F v
of-element {s = s} h₇ E F h v i n = h ∙ ap F (number-inj s h₇ E.it v E.tree i (E.num ∙ sym n))

-- ---- the row of the element of number z
module _ {s : Recipe} {el : List ℕ} (h₇ : fault₇ s ≡ None) (R : ElementRows s el) {z : ℕ} where
  pub place_is : (v : Node) → In v (tree_elements s) → number s v ≡ z → v.place ≡ get_or el (5 * z + 0) 0
  place_is v i e = sym (R.records v i) ∙ ap (λ (k : ℕ). get_or el (5 * k + 0) 0) e

  module _ (N : Numbers s z) where
    pub row_room : 5 * z + 5 ≤ length el
    row_room = omega (arith, R.room, number-low s h₇ N.0 N.1, N.2)

    pub row-element : {q : ℕ} → q ≡ get_or el (5 * z + 0) 0 → Element s z q
    row-element r = record { it = N.0; tree = N.1; num = N.2; at = place_is N.0 N.1 N.2 ∙ sym r }

    pub row-place : {q : ℕ} → q ≡ get_or el (5 * z + 0) 0 → In q (places s) × (is_element s q ≡ true)
    row-place r =
        let H = element-held s N.0 N.1 in
        let a = place_is N.0 N.1 N.2 ∙ sym r in (rw a at H.placed, rw a at H.passes)

-- ---- the element that a field names, as `link` reads it from its cell
pub link_is : (s : Recipe) (x : Node) (f : List ℕ) {c : ℕ} → c ≡ unwrap_or (element_in s x.place f) 0 → linked c ≡ element_in s x.place f
link_is s x f e =
    by-option (element_in s x.place f)
    (λ n. rw (e, n))
    (λ k n.
    let r = (in-elements s (holder s x.place) k (element-in s x.place f k n).2).inside in
    rw (e, n, ne_eqb k 0 (not-zero s (holder s x.place) k r)))

-- ---- two elements of one instance, by the cells of their records
module _ {s : Recipe} {t : List ℕ} (A : Aimed s t) where
  pub element-room : (x : Node) → In x (tree_elements s) → x.place + 13 ≤ length t
  element-room x i = record-room A.measured.linked.numbered.shadowed x.place (element-held s x i).placed

  pub order-cell : (x : Node) → In x (tree_elements s) → get_or t (x.place + 1) 0 ≡ order s (definition_at s x.path) x.place
  order-cell x i =
      let h = element-held s x i in
      A.measured.linked.numbered.orders x.place h.placed h.passes ∙ ap (λ (d : ℕ). order s d x.place) h.held

  -- the element of number e, at q, and the one at m in the same instance
  module _ {e q : ℕ} (E : Element s e q) (m : ℕ) (j : In (node E.it.path m) (tree_elements s)) where
    pub sibling-room : m + 13 ≤ length t
    unfolding node
    sibling-room = element-room (node E.it.path m) j

    module _ {a c : ℕ} (u : a ≡ get_or t (q + 1) 0) (v : c ≡ get_or t (m + 1) 0) where
      pub sibling-number : (a ≤ e) × (e - a + c ≡ number s (node E.it.path m))
      unfolding number node
      sibling-number =
          let x = order-cell E.it E.tree in
          let y = order-cell (node E.it.path m) j in
          let g : get_or t (E.it.place + 1) 0 ≡ get_or t (q + 1) 0 = ap (λ (z : ℕ). get_or t (z + 1) 0) E.at in
          (omega (arith, E.num), omega (arith, E.num))

      pub sibling-few : fault₇ s ≡ None → e - a + c < 1024
      sibling-few h₇ = omega (arith, sibling-number.1, number-few s h₇ (node E.it.path m) j)

-- ---- columns
pub only_same : (k : ℕ) (a : List ℕ) → Only k a a
only_same k a = record { long = refl; as-was = λ e j l n. refl }

pub only_set : {k : ℕ} {a b : List ℕ} → k < 5 → Only k a b → (e v : ℕ) → Only k a (set b (5 * e + k) v)
only_set {k} {a} {b} h o e v = record {
  long = length-set b (5 * e + k) v ∙ o.long;
  as-was = λ i j l n. get_or-set_other b (5 * e + k) (5 * i + j) v 0 (λ z. n (one i j l z)) ∙ o.as-was i j l n;
}
  where
    one : (i j : ℕ) → j < 5 → 5 * i + j ≡ 5 * e + k → j ≡ k
    one i j l z = omega arith

pub only_then : {k : ℕ} {a b c : List ℕ} → Only k a b → Only k b c → Only k a c
only_then o q = record { long = q.long ∙ o.long; as-was = λ e j l n. q.as-was e j l n ∙ o.as-was e j l n }

module _ (s : Recipe) {k : ℕ} {a b : List ℕ} (o : Only k a b) where
  pub rows-over : 2 ≤ k → ElementRows s a → ElementRows s b
  rows-over h r = record {
    room = omega (arith, o.long, r.room);
    records = λ x i. o.as-was (number s x) 0 (omega arith) (λ z. omega arith) ∙ r.records x i;
    within = λ x i. rw (o.as-was (number s x) 1 (omega arith) (λ z. omega arith)) (r.within x i);
    paths = λ x i. rw (o.as-was (number s x) 1 (omega arith) (λ z. omega arith)) (r.paths x i);
  }

  pub column-over : {f : Node → ℕ} (j : ℕ) → j < 5 → (j ≡ k → ⊥) → ((x : Node) → In x (tree_elements s) → get_or a (5 * number s x + j) 0 ≡ f x)
      → (x : Node) → In x (tree_elements s) → get_or b (5 * number s x + j) 0 ≡ f x
  column-over j l n g x i = o.as-was (number s x) j l n ∙ g x i

pub below_more : {m e : ℕ} → m < e + 1 → (m ≡ e → ⊥) → m < e
below_more a b = omega arith

-- a pass over the elements by their numbers, that fills column k of those among xs with what f gives
abbrev pub ColumnFilled : Recipe → List Node → ℕ → (Node → ℕ) → ℕ → List ℕ → Type 0
ColumnFilled s xs k f e el = (x : Node) → In x xs → number s x < e → get_or el (5 * number s x + k) 0 ≡ f x

module _ (s : Recipe) (xs : List Node) (k : ℕ) (f : Node → ℕ) (el : List ℕ) where
  pub filled-start : ColumnFilled s xs k f 0 el
  filled-start x i l = absurd (omega arith)

  pub filled-skip : (e : ℕ) → ((x : Node) → In x xs → number s x ≡ e → ⊥) → ColumnFilled s xs k f e el → ColumnFilled s xs k f (e + 1) el
  filled-skip e h g x i l = g x i (below_more l (h x i))

  pub filled-one : (e v : ℕ) → 5 * e + k < length el → ((x : Node) → In x xs → number s x ≡ e → v ≡ f x) → ColumnFilled s xs k f e el → ColumnFilled s xs k f (e + 1) (set el (5 * e + k) v)
  filled-one e v room h g x i l =
      by_cases (eqb (number s x) e)
      (λ b.
      let q = eqb-true (number s x) e b in
      ap (λ (n : ℕ). get_or (set el (5 * e + k) v) (5 * n + k) 0) q ∙ get_or-set_same el (5 * e + k) v 0 room ∙ h x i q)
      (λ b.
      let n = eqb-false (number s x) e b in
      get_or-set_other el (5 * e + k) (5 * number s x + k) v 0 (λ z. n (other x z)) ∙ g x i (below_more l n))
    where
      other : (y : Node) → 5 * number s y + k ≡ 5 * e + k → number s y ≡ e
      other y z = omega arith

  pub filled-end : (e : ℕ) → ((x : Node) → In x xs → number s x < e) → ColumnFilled s xs k f e el → (x : Node) → In x xs → get_or el (5 * number s x + k) 0 ≡ f x
  filled-end e h g x i = g x i (h x i)
