-- What is gone, by the cells: the owner of a replaced-by, the target of a deletion or replacement, and their children.
-- Assumes nothing.
use Rattle.std.specs.Prelude.{None, Option, Some, option_map}
use Prim.Native.Nat.{◌*◌, ◌+◌, ◌-◌, ◌<◌, ◌≤◌, ℕ}
use borrow.Author.Tests.{eq-eqb, eqb-true, ne_eqb}
use lib.Dec.{eqb}
use lib.ListN.{get_or, length}
use mathlib.Core.Bool.{Bool, ◌&&◌, ◌||◌, cond, false, not, or-false, true}
use mathlib.Core.List.{List}
use mathlib.Core.Logic.{inr, ⊎_elim}
use mathlib.Core.Path.{◌∙◌, ◌≡◌, ap, refl, sym}
use native.Mathlib.Omega.{arith}
use Rattle.names.specs.Lists.{In, among, any}
use Rattle.names.proofs.Lists.{any-in, any-cong, any-or, any_some, among_one, among_two}
use Rattle.names.proofs.Tests.{and_left, and_right, both, both_ways, not-both, or_cases, or_left}
use Rattle.recipe.specs.Definitions.{element_in}
use Rattle.recipe.specs.Reading.{fault₅}
use Rattle.recipe.specs.Records.{Recipe, is_deletion, is_mark, is_replaced_by, is_replacement, kind, parent_field}
use Rattle.shadow.specs.Shadow.{linked}
use Rattle.tree.specs.Faults.{fault₇, fault₈}
use Rattle.tree.specs.Numbers.{number}
use Rattle.tree.specs.Tree.{Node, node, parent_of, same_node, tree_elements}
use Rattle.tree.proofs.Instances.{depth}
use Rattle.tree.proofs.Nodes.{nodes-in, parent_in}
use Rattle.tree.proofs.Numbering.{number-few}
use Rattle.targets.specs.Targeted.{Aimed}
use Rattle.marks.specs.Cells.{AllStamped, aim_number, gone_cell, is_set, mark_cell, owner_cell, port_cell, stamps}
use Rattle.elements.specs.Columns.{Gones}
use Rattle.elements.specs.Gone.{Element, GoneAt}
use Rattle.marks.specs.Marks.{aims_at, from, is_gone, is_marked_gone, owner, owns_by, removes, tree_marks, tree_pointers}
use Rattle.elements.proofs.Elements.{of-element, element-held, element-room, link_is, sibling-number}
use Rattle.marks.proofs.Marks.{aim-in, aim-some, is-mark, mark-pointer, owner-in, pointer-placed}
use Rattle.marks.proofs.Pass.{stamped-any}
use Rattle.marks.proofs.Relations.{aimed-is, node-number}
use Rattle.marks.proofs.Stamps.{Sort, sorts, stamps-by, stamps-mark, stamps-port}

-- ---- which cells are one
cell-owner : (n o : ℕ) → eqb (owner_cell n) (owner_cell o) ≡ eqb n o
unfolding owner_cell
cell-owner n o =
    both_ways {a = eqb (12 * n) (12 * o)} {b = eqb n o}
    (λ e. let q = eqb-true (12 * n) (12 * o) e in eq-eqb n o (omega arith))
    (λ e. let q = eqb-true n o e in eq-eqb (12 * n) (12 * o) (omega arith))

cell-gone : (n e : ℕ) → eqb (gone_cell n) (gone_cell e) ≡ eqb n e
unfolding gone_cell
cell-gone n e =
    both_ways {a = eqb (12 * n + 11) (12 * e + 11)} {b = eqb n e}
    (λ h. let q = eqb-true (12 * n + 11) (12 * e + 11) h in eq-eqb n e (omega arith))
    (λ h. let q = eqb-true n e h in eq-eqb (12 * n + 11) (12 * e + 11) (omega arith))

owner-not-gone : (n e : ℕ) → eqb (owner_cell n) (gone_cell e) ≡ false
unfolding owner_cell gone_cell
owner-not-gone n e = ne_eqb (12 * n) (12 * e + 11) (λ z. omega arith)

gone-not-owner : (n e : ℕ) → eqb (gone_cell n) (owner_cell e) ≡ false
unfolding owner_cell gone_cell
gone-not-owner n e = ne_eqb (12 * n + 11) (12 * e) (λ z. omega arith)

module _ (n e k : ℕ) (h : k ≤ 4) where
  owner-not-mark : eqb (owner_cell n) (mark_cell e k) ≡ false
  unfolding owner_cell mark_cell
  owner-not-mark = ne_eqb (12 * n) (12 * e + (5 - k)) (λ z. omega arith)

  gone-not-mark : eqb (gone_cell n) (mark_cell e k) ≡ false
  unfolding gone_cell mark_cell
  gone-not-mark = ne_eqb (12 * n + 11) (12 * e + (5 - k)) (λ z. omega arith)

  owner-not-port : eqb (owner_cell n) (port_cell e k) ≡ false
  unfolding owner_cell port_cell
  owner-not-port = ne_eqb (12 * n) (12 * e + (6 + k)) (λ z. omega arith)

  gone-not-port : eqb (gone_cell n) (port_cell e k) ≡ false
  unfolding gone_cell port_cell
  gone-not-port = ne_eqb (12 * n + 11) (12 * e + (6 + k)) (λ z. omega arith)

module _ (s : Recipe) (h₅ : fault₅ s ≡ None) (h₇ : fault₇ s ≡ None) (h₈ : fault₈ s ≡ None) where
  -- the marks of the tree are those of its marks and ports that are marks
  marks-any : (g : Node → Bool) → any (λ q. is_mark s q.place && g q) (tree_pointers s) ≡ any g (tree_marks s)
  unfolding tree_marks
  marks-any g =
      both_ways {a = any (λ q. is_mark s q.place && g q) (tree_pointers s)} {b = any g (tree_marks s)}
      (λ e.
      let r = any_some (λ q. is_mark s q.place && g q) (tree_pointers s) e in
      let h = pointer-placed s r.0 r.1 in
      any-in g (tree_marks s) r.0
      (nodes-in s (is_mark s) r.0 (record { instance = h.instance; inside = h.inside; passes = and_left (is_mark s r.0.place) _ r.2 }))
      (and_right (is_mark s r.0.place) _ r.2))
      (λ e.
      let r = any_some g (tree_marks s) e in
      any-in (λ q. is_mark s q.place && g q) (tree_pointers s) r.0 (mark-pointer s r.0 r.1) (both (is-mark s r.0 r.1) r.2))

  module _ (x : Node) (j : In x (tree_elements s)) (q : Node) (i : In q (tree_pointers s)) where
    deep : length q.path ≤ 4
    deep = depth s h₇ q.path (pointer-placed s q i).instance

    -- the target, by its number
    aims-number : aims_at s q x ≡ eqb (number s x) (aim_number s q)
    unfolding aims_at
    aims-number =
        let a = aim-some s h₈ q i in
        let y = from q.path a.0 in
        rw (a.1, aimed-is s q y a.1) (node-number s h₅ h₇ h₈ x y j (aim-in s h₇ q y i a.1))

    owns-number : is_replaced_by s q.place ≡ true → same_node x (owner s q) ≡ eqb (number s x) (number s (owner s q))
    owns-number b = node-number s h₅ h₇ h₈ x (owner s q) j (owner-in s h₅ q i (inr b))

    abbrev sets : Bool
    sets = among (owner_cell (number s x)) (stamps s q) || among (gone_cell (number s x)) (stamps s q)

    port-case : Sort s q.place true false false → sets ≡ is_mark s q.place && (removes s x q || owns_by s x q)
    port-case a =
        rw (stamps-port s q a, among_one (owner_cell (number s x)) (port_cell (aim_number s q) (length q.path)), among_one (gone_cell (number s x)) (port_cell (aim_number s q) (length q.path)), owner-not-port (number s x) (aim_number s q) (length q.path) deep, gone-not-port (number s x) (aim_number s q) (length q.path) deep)
        (rw a.is-mark)

    no-removal : is_replaced_by s q.place ≡ true → removes s x q ≡ false
    unfolding removes is_deletion is_replacement is_replaced_by
    no-removal b = let k : kind s q.place ≡ 7 = eqb-true (kind s q.place) 7 b in rw k

    by-case : Sort s q.place false true true → sets ≡ is_mark s q.place && (removes s x q || owns_by s x q)
    unfolding owns_by
    by-case a =
        rw (stamps-by s q a, among_two (owner_cell (number s x)) (mark_cell (aim_number s q) (length q.path)) (owner_cell (number s (owner s q))), among_two (gone_cell (number s x)) (mark_cell (aim_number s q) (length q.path)) (owner_cell (number s (owner s q))), owner-not-mark (number s x) (aim_number s q) (length q.path) deep, gone-not-mark (number s x) (aim_number s q) (length q.path) deep, cell-owner (number s x) (number s (owner s q)), gone-not-owner (number s x) (number s (owner s q)))
        (rw (a.is-mark, no-removal a.is-by, a.is-by, owns-number a.is-by) (or-false (eqb (number s x) (number s (owner s q)))))

    is-removal : Sort s q.place false true false → removes s x q ≡ aims_at s q x
    unfolding removes is_mark
    is-removal a =
        let m : is_deletion s q.place || is_replacement s q.place || is_replaced_by s q.place ≡ true = a.is-mark in
        let n : is_deletion s q.place || is_replacement s q.place ≡ true =
        ⊎_elim (λ (z : is_deletion s q.place || is_replacement s q.place ≡ true). z) (λ (z : is_replaced_by s q.place ≡ true). not-both z a.is-by)
        (or_cases (is_deletion s q.place || is_replacement s q.place) (is_replaced_by s q.place) m) in
        rw n

    mark-case : Sort s q.place false true false → sets ≡ is_mark s q.place && (removes s x q || owns_by s x q)
    unfolding owns_by
    mark-case a =
        rw (stamps-mark s q a, among_two (owner_cell (number s x)) (mark_cell (aim_number s q) (length q.path)) (gone_cell (aim_number s q)), among_two (gone_cell (number s x)) (mark_cell (aim_number s q) (length q.path)) (gone_cell (aim_number s q)), owner-not-mark (number s x) (aim_number s q) (length q.path) deep, gone-not-mark (number s x) (aim_number s q) (length q.path) deep, owner-not-gone (number s x) (aim_number s q), cell-gone (number s x) (aim_number s q))
        (rw (a.is-mark, is-removal a, a.is-by, aims-number) (sym (or-false (eqb (number s x) (aim_number s q)))))

    sets-law : sets ≡ is_mark s q.place && (removes s x q || owns_by s x q)
    sets-law = ⊎_elim port-case (⊎_elim by-case mark-case) (sorts s q.place (pointer-placed s q i).passes)

  -- the two cells say whether an element is marked as gone
  pub marked-law : (t : List ℕ) → AllStamped s t → (x : Node) → In x (tree_elements s)
      → is_set t (owner_cell (number s x)) || is_set t (gone_cell (number s x)) ≡ is_marked_gone s x
  unfolding is_marked_gone
  marked-law t S x j =
      let A : Node → Bool = λ q. among (owner_cell (number s x)) (stamps s q) in
      let B : Node → Bool = λ q. among (gone_cell (number s x)) (stamps s q) in
      let C : (c : ℕ) → is_set t c ≡ any (λ q. among c (stamps s q)) (tree_pointers s) = stamped-any s t (λ q. Unit {0}) (λ q. true) (λ q d. refl) (λ q d. tt) S in
      ap (λ (b : Bool). b || is_set t (gone_cell (number s x))) (C (owner_cell (number s x)))
      ∙ ap (λ (b : Bool). any A (tree_pointers s) || b) (C (gone_cell (number s x)))
      ∙ sym (any-or A B (tree_pointers s))
      ∙ any-cong (λ q. A q || B q) (λ q. is_mark s q.place && (removes s x q || owns_by s x q)) (tree_pointers s) (λ q i. sets-law x j q i)
      ∙ marks-any (λ r. removes s x r || owns_by s x r)

-- ---- an element and its parent
module _ {s : Recipe} {t cells : List ℕ} (A : Aimed s t) (h₇ : fault₇ s ≡ None) (S : AllStamped s cells) {e q : ℕ} (E : Element s e q) where
  abbrev x : Node
  x = E.it

  abbrev marked : ℕ → Bool
  marked n = is_set cells (owner_cell n) || is_set cells (gone_cell n)

  marked-is : (y : Node) → In y (tree_elements s) → marked (number s y) ≡ is_marked_gone s y
  marked-is = marked-law s A.measured.linked.row₅ h₇ A.row₈ cells S

  pub gone-low : e < 1024
  gone-low = omega (arith, number-few s h₇ x E.tree, E.num)

  pub gone-room : q + 13 ≤ length t
  gone-room = omega (arith, element-room A x E.tree, E.at)

  -- what the code answers
  module _ {b : Bool} (h : b ≡ marked e) where
    own : is_marked_gone s x ≡ b
    own = sym (marked-is x E.tree) ∙ ap marked E.num ∙ sym h

    pub gone-own : b ≡ true → GoneAt s e true
    unfolding is_gone
    gone-own z = of-element h₇ E (is_gone s) (sym (or_left (is_marked_gone s x) _ (own ∙ z)))

    module _ {o : Option ℕ} (r : o ≡ linked (get_or t (q + 3) 0)) where
      parent_is : o ≡ element_in s x.place (parent_field s x.place)
      parent_is =
          let i = element-held s x E.tree in
          r ∙ link_is s x (parent_field s x.place) (ap (λ (z : ℕ). get_or t (z + 3) 0) (sym E.at) ∙ A.measured.linked.parents x.place i.placed i.passes)

      pub gone-none : b ≡ false → o ≡ None → GoneAt s e false
      unfolding is_gone parent_of
      gone-none z n = of-element h₇ E (is_gone s) (rw (own ∙ z, sym parent_is ∙ n))

      module _ {m : ℕ} (n : o ≡ Some m) where
        a-parent : parent_of s x ≡ Some (node x.path m)
        unfolding parent_of
        a-parent = ap (option_map (node x.path)) (sym parent_is ∙ n)

        pub parent-tree : In (node x.path m) (tree_elements s)
        parent-tree = parent_in s x (node x.path m) E.tree a-parent

        module _ {a c : ℕ} (u : a ≡ get_or t (q + 1) 0) (v : c ≡ get_or t (m + 1) 0) where
          pub gone-parent : {k : Bool} → b ≡ false → k ≡ marked (e - a + c) → GoneAt s e k
          unfolding is_gone
          gone-parent z g = of-element h₇ E (is_gone s) (rw (own ∙ z, a-parent) (g ∙ ap marked (sibling-number A E m parent-tree u v).1 ∙ marked-is (node x.path m) parent-tree))

-- ---- what column 2 says, as `is_gone` reads it
pub gone-told : (s : Recipe) (el : List ℕ) {e : ℕ} {b : Bool} → Gones s el → b ≡ not (eqb (get_or el (5 * e + 2) 0) 0) → GoneAt s e b
gone-told s el G r x i n =
    r ∙ ap (λ (k : ℕ). not (eqb (get_or el (5 * k + 2) 0) 0)) (sym n) ∙ ap (λ (c : ℕ). not (eqb c 0)) (G x i) ∙ flag (is_gone s x)
  where
    flag : (g : Bool) → not (eqb (cond g 1 0) 0) ≡ g
    flag true = refl
    flag false = refl
