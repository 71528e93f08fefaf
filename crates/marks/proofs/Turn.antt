-- A mark or port in one instance: what the code reads of it, what it asks of the cells and sets in them.
-- Assumes nothing.
use Rattle.std.specs.Prelude.{None, Some}
use Prim.Native.Nat.{◌*◌, ◌+◌, ◌-◌, ◌<◌, ◌≤◌, ℕ}
use borrow.Author.Tests.{eqb-false, eqb-true}
use lib.Dec.{eqb, ltb}
use lib.ListN.{get_or, length, length-set, set}
use lib.Seq.{get_or-set_other, get_or-set_same}
use mathlib.Core.Bool.{Bool, ◌&&◌, ◌||◌, false, or_assoc, or-false, or-true, true}
use mathlib.Core.List.{List, [], ◌∷◌}
use mathlib.Core.Logic.{◌⊎◌, ⊎_elim}
use mathlib.Core.Path.{◌∙◌, ◌≡◌, ap, refl, sym}
use native.Mathlib.Omega.{arith}
use Rattle.names.specs.Lists.{In, among, any}
use Rattle.names.proofs.Lists.{among_one, among_two}
use Rattle.names.proofs.Tests.{by_cases, not-both, or_cases, or_right}
use Rattle.recipe.specs.Definitions.{holder, main, owner_of}
use Rattle.recipe.specs.Records.{Recipe, port_kind, replaced_by_kind, mark_kind, owned_kind, pointer_kind, is_owned, is_pointer, is_port, is_replaced_by, is_replacement, kind, places}
use Rattle.recipe.proofs.Bodies.{owned-kind, pointer-kind}
use Rattle.recipe.proofs.Definitions.{Held, in-elements}
use Rattle.recipe.proofs.Rows.{owner-element}
use Rattle.recipe.specs.Records.{is_element}
use Rattle.shadow.specs.Columns.{order}
use Rattle.shadow.proofs.Cells.{row_room}
use Rattle.recipe.proofs.Reading.{place-low}
use Rattle.tree.specs.Steps.{StepsTo}
use Rattle.tree.specs.declared.InstancesOf.{InstancesOf}
use Rattle.tree.specs.Faults.{fault₈}
use Rattle.tree.specs.Numbers.{first_at, number, number_in, reach}
use Rattle.tree.specs.Tree.{Node, definition_at, instances, node, target}
use Rattle.tree.proofs.Instances.{below-append, depth}
use Rattle.tree.proofs.Numbering.{number-few}
use Rattle.tree.proofs.Trees.{first-append}
use Rattle.names.proofs.Lists.{get_or-in}
use Rattle.targets.specs.Targeted.{Targeted}
use Rattle.marks.specs.Cells.{Stamped, aim_number, asks, gone_cell, is_set, mark_cell, meets, owner_cell, port_cell, stamped, stamps}
use Rattle.marks.specs.declared.Pointer.{Pointer}
use Rattle.marks.specs.Faults.{conflicts_with_earlier}
use Rattle.marks.specs.Marks.{conflict, from, owner, tree_pointers}
use Rattle.marks.specs.Pointers.{InCells, ReadAt, in_row}
use Rattle.marks.proofs.Marks.{aim-in, aim-some, aim-target, owner-in, pointer-holder}
use Rattle.marks.proofs.Pass.{not-model, query, stamped-one, stamped-same}
use Rattle.marks.proofs.Records.{stamped-by, stamped-other, stamped-port}
use Rattle.marks.proofs.Relations.{aimed-is}
use Rattle.marks.proofs.Threads.{Done, Holds, found-one, has-row, path, this-in}
use Rattle.marks.proofs.Following.{Following, follow-on}

-- ---- the numbers of targets and owners, from those of their instance
module _ (s : Recipe) where
  -- an element seen from an instance
  pub number-from : (path : List ℕ) (t : Node) → number s (from path t) ≡ first_at s path + number_in s (definition_at s path) t
  unfolding number from node first_at definition_at number_in
  number-from path t =
      omega (arith, first-append s main path t.path, ap (λ (d : ℕ). order s d t.place) (below-append s main path t.path))

  reach-is : (p : ℕ) (t : Node) → target s p ≡ Some t → reach s p ≡ number_in s (holder s p) t
  unfolding reach
  reach-is p t e = rw (e, reach)

  -- (b): the target of a record of an instance, by two numbers
  pub aimed-number : (h₈ : fault₈ s ≡ None) (r : Node) → In r (tree_pointers s) → aim_number s r ≡ first_at s r.path + reach s r.place
  aimed-number h₈ r h =
      let a = aim-some s h₈ r h in
      let t = aim-target s r (from r.path a.0) a.1 in
      aimed-is s r (from r.path a.0) a.1 ∙ ap (number s) t.2 ∙ number-from r.path t.0
      ∙ ap (λ (d : ℕ). first_at s r.path + number_in s d t.0) (sym (pointer-holder s r h))
      ∙ ap (λ (j : ℕ). first_at s r.path + j) (sym (reach-is r.place t.0 t.1))

  owner-number : (r : Node) → In r (tree_pointers s) → number s (owner s r) ≡ first_at s r.path + order s (holder s r.place) (owner_of s r.place)
  unfolding number owner node
  owner-number r h = ap (λ (d : ℕ). first_at s r.path + order s d (owner_of s r.place)) (sym (pointer-holder s r h))

-- ---- cells after a store
set-cell : (t : List ℕ) (a c : ℕ) → a < length t → is_set (set t a 1) c ≡ is_set t c || eqb c a
set-cell t a c h =
    by_cases (eqb c a)
    (λ e. let q = eqb-true c a e in rw (e, q, get_or-set_same t a 1 0 h) (sym (or-true (is_set t a))))
    (λ e. rw (e, get_or-set_other t a c 1 0 (eqb-false c a e)) (sym (or-false (is_set t c))))

set-two : (t : List ℕ) (a b c : ℕ) → a < length t → b < length t → is_set (set (set t a 1) b 1) c ≡ is_set t c || among c (a ∷ b ∷ [])
set-two t a b c h k =
    set-cell (set t a 1) b c (omega (arith, length-set t a 1))
    ∙ ap (λ (z : Bool). z || eqb c b) (set-cell t a c h)
    ∙ or_assoc (is_set t c) (eqb c a) (eqb c b)
    ∙ ap (λ (z : Bool). is_set t c || z) (sym (among_two c a b))

-- a store keeps the length
pub stamped-length : (k e o d : ℕ) (t : List ℕ) {t' : List ℕ} → t' ≡ stamped t k e o d → length t' ≡ length t
unfolding stamped
stamped-length k e o d t q =
    ap length q
    ∙ by_cases (port_kind k) (λ a. rw a (simp length-set))
    (λ a.
    by_cases (replaced_by_kind k) (λ b. rw (a, b) (simp length-set))
    (λ b. by_cases (mark_kind k) (λ m. rw (a, m, b) (simp length-set)) (λ m. rw (a, m, b))))

-- what the code has read of the record at p in instance i: its kind, its target's number from f on, its owner's in its definition, and f
pub record Read (s : Recipe) (t inst : List ℕ) (p i k e o f : ℕ) : Type 0 where
  pub holds : Holds s (holder s p) i
  pub kind-is : k ≡ get_or s.bytes p 0
  pub target_is : e ≡ get_or t (p + 9) 0
  pub owner-is : owned_kind k ≡ true → o ≡ get_or t (get_or t (p + 3) 0 + 1) 0
  pub first-is : f ≡ get_or inst (6 * i + 2) 0

-- the record r, one at p, conflicts with an earlier one
abbrev pub clash : Recipe → ℕ → Node → Bool
clash s p r = any (λ q. ltb q.place p && conflict s q r) (tree_pointers s)

-- ---- where the cells of a record lie
module _ {s : Recipe} {t inst : List ℕ} {insts : ℕ} (T : Targeted s t inst insts) (p : ℕ) (here : In p (places s)) where
  pub record-room : p + 13 ≤ length t
  record-room = row_room T.planted.measured.linked.numbered.shadowed p here

  -- its owner
  owner-held : is_owned s p ≡ true → Held s (is_element s) (holder s p) (owner_of s p)
  owner-held b = in-elements s (holder s p) (owner_of s p) (owner-element s T.planted.measured.linked.row₅ p here (or_cases (is_replacement s p) (is_replaced_by s p) b))

  pub owned-is : {k : ℕ} → k ≡ get_or s.bytes p 0 → owned_kind k ≡ true → is_owned s p ≡ true
  unfolding kind
  owned-is {k} e h = owned-kind s p ∙ (ap owned_kind (sym e) ∙ h)

  -- what `owner_order` requires
  pub owner-asks : (p + 3 < length t) × (owned_kind (get_or s.bytes p 0) ≡ true → get_or t (p + 3) 0 + 1 < length t)
  owner-asks =
      let r = record-room in (
        omega arith,
        λ h.
            let b = owned-is {k = get_or s.bytes p 0} refl h in
            omega (arith, T.planted.measured.linked.owners p here b, row_room T.planted.measured.linked.numbered.shadowed (owner_of s p) (owner-held b).placed),
      )

  -- what `Pointer::read` requires
  pub read-room : (p < length s.bytes) × ((p + 9 < length t) × (owned_kind (get_or s.bytes p 0) ≡ true → get_or t (p + 3) 0 + 1 < length t))
  read-room = (omega (arith, place-low s p here), (omega (arith, record-room), owner-asks.1))

-- ---- a mark or port in one instance
module _ {s : Recipe} {t inst : List ℕ} {insts : ℕ} (T : Targeted s t inst insts) (p : ℕ) (here : In p (places s)) (sort : is_pointer s p ≡ true) where
  abbrev pub it : ℕ → Node
  it i = node (path s i) p

  pub it-in : (i : ℕ) → Holds s (holder s p) i → In (it i) (tree_pointers s)
  unfolding tree_pointers
  it-in i h = this-in s (is_pointer s) p i here (not-model s p sort) sort h

  module _ {i k e o f : ℕ} (w : Read s t inst p i k e o f) where
    ptr : In (it i) (tree_pointers s)
    ptr = it-in i w.holds

    first-eq : f ≡ first_at s (path s i)
    first-eq = w.first-is ∙ T.planted.rows.start i (has-row T w.holds.0)

    pub aim-eq : f + e ≡ aim_number s (it i)
    unfolding node tree_pointers
    aim-eq = omega (arith, first-eq, w.target_is, T.numbers (it i) ptr, aimed-number s T.aimed.row₈ (it i) ptr)

    own-order : is_owned s p ≡ true → owned_kind k ≡ true → o ≡ order s (holder s p) (owner_of s p)
    own-order b h =
        let E = owner-held T p here b in
        w.owner-is h
        ∙ ap (λ (z : ℕ). get_or t (z + 1) 0) (T.planted.measured.linked.owners p here b)
        ∙ T.planted.measured.linked.numbered.orders (owner_of s p) E.placed E.passes
        ∙ ap (λ (d : ℕ). order s d (owner_of s p)) E.held

    pub own-step : owned_kind k ≡ true → f + o ≡ number s (owner s (it i))
    unfolding node
    own-step h = omega (arith, first-eq, own-order (owned-is T p here w.kind-is h) h, owner-number s (it i) ptr)

    pub aim-few : f + e < 1024
    unfolding node
    aim-few =
        let a = aim-some s T.aimed.row₈ (it i) ptr in
        let x = from (path s i) a.0 in
        omega (arith, aim-eq, aimed-is s (it i) x a.1, number-few s T.planted.row₇ x (aim-in s T.planted.row₇ (it i) x ptr a.1))

    pub own-few : owned_kind k ≡ true → f + o < 1024
    unfolding node
    own-few h =
        omega (
          arith,
          own-step h,
          number-few s T.planted.row₇ (owner s (it i))
              (owner-in s T.planted.measured.linked.row₅ (it i) ptr (or_cases (is_replacement s p) (is_replaced_by s p) (owned-is T p here w.kind-is h))),
        )

    by-owned : replaced_by_kind k ≡ true → owned_kind k ≡ true
    by-owned h = or_right (eqb k 6) (eqb k 7) h

    mark-is : port_kind k ≡ false → mark_kind k ≡ true
    unfolding kind
    mark-is n =
        ⊎_elim (λ (m : mark_kind k ≡ true). m) (λ (m : port_kind k ≡ true). not-both m n)
        (or_cases (mark_kind k) (port_kind k) (ap pointer_kind w.kind-is ∙ (sym (pointer-kind s p) ∙ sort)))

    module _ {d : ℕ} (q : d ≡ get_or inst (6 * i + 1) 0) where
      depth-eq : d ≡ length (path s i)
      depth-eq = q ∙ T.planted.rows.depth i (has-row T w.holds.0)

      -- what `meets_any` and `stamp` require
      fits : InCells (record { kind = k; target = f + e; owner = f + o; depth = d })
      fits = record {
        target = aim-few;
        depth = omega (arith, depth-eq, depth s T.planted.row₇ (path s i) (get_or-in (instances s) i [] w.holds.0));
        owner = λ h. own-few (by-owned h);
      }

      -- the test of the cells is the test for a conflict with an earlier record
      pub meets-law : (u : List ℕ) → Stamped s (λ q. q.place < p) u → meets u k (f + e) (f + o) d ≡ any (λ q. ltb q.place p && conflict s q (it i)) (tree_pointers s)
      unfolding meets asks is_port is_replaced_by kind node
      meets-law u h =
          let Q = query s T.planted.measured.linked.row₅ T.planted.row₇ T.aimed.row₈ p u h (it i) ptr in
          let K = w.kind-is in
          by_cases (port_kind k)
          (λ a. rw (a, aim-eq, depth-eq) (sym (Q _ _ _ _ (λ c. rw (sym K, a)))))
          (λ a. by_cases (replaced_by_kind k)
          (λ b. rw (a, b, own-step (by-owned b), aim-eq, depth-eq) (sym (Q _ _ _ _ (λ c. rw (sym K, a, b)))))
          (λ b. rw (a, mark-is a, b, aim-eq, depth-eq) (sym (Q _ _ _ _ (λ c. rw (sym K, a, b))))))

      -- and the cells set are its stamps
      stamps-port : port_kind k ≡ true → stamps s (it i) ≡ (12 * (f + e) + (6 + d)) ∷ []
      unfolding stamps is_port kind node port_cell
      stamps-port a = rw (sym w.kind-is, a, aim-eq, depth-eq)

      stamps-by : port_kind k ≡ false → replaced_by_kind k ≡ true → stamps s (it i) ≡ (12 * (f + e) + (5 - d)) ∷ (12 * (f + o)) ∷ []
      unfolding stamps is_port is_replaced_by kind node mark_cell owner_cell
      stamps-by a b = rw (sym w.kind-is, a, b, own-step (by-owned b), aim-eq, depth-eq)

      stamps-other : port_kind k ≡ false → replaced_by_kind k ≡ false → stamps s (it i) ≡ (12 * (f + e) + (5 - d)) ∷ (12 * (f + e) + 11) ∷ []
      unfolding stamps is_port is_replaced_by kind node mark_cell gone_cell
      stamps-other a b = rw (sym w.kind-is, a, b, aim-eq, depth-eq)

      pub stamped-law : (u : List ℕ) (c : ℕ) → length u ≡ 12 * 1024 → is_set (stamped u k (f + e) (f + o) d) c ≡ is_set u c || among c (stamps s (it i))
      stamped-law u c l =
          let F = fits in
          by_cases (port_kind k)
          (λ a.
          rw (← stamped-port u k (f + e) (f + o) d a, stamps-port a)
          (set-cell u (12 * (f + e) + (6 + d)) c (omega arith) ∙ ap (λ (b : Bool). is_set u c || b) (sym (among_one c (12 * (f + e) + (6 + d))))))
          (λ a. by_cases (replaced_by_kind k)
          (λ b.
          let O = F.owner b in
          rw (← stamped-by u k (f + e) (f + o) d a b, stamps-by a b) (set-two u (12 * (f + e) + (5 - d)) (12 * (f + o)) c (omega arith) (omega arith)))
          (λ b.
          rw (← stamped-other u k (f + e) (f + o) d a (mark-is a) b, stamps-other a b) (set-two u (12 * (f + e) + (5 - d)) (12 * (f + e) + 11) c (omega arith) (omega arith))))

      -- one instance more has set its cells
      pub entered : (u : List ℕ) (D : Node → Type 0) → length u ≡ 12 * 1024 → Stamped s D u → Stamped s (λ q. D q ⊎ (q ≡ it i)) (stamped u k (f + e) (f + o) d)
      entered u D l S = stamped-one s u (stamped u k (f + e) (f + o) d) D (it i) ptr (λ c. stamped-law u c l) S

  -- ---- instance i: x is what is read of the record, y the same in the instance
  module _ {i : ℕ} (h : Holds s (holder s p) i) {x y : Pointer} (r : ReadAt s.bytes t p x) (e : y ≡ in_row x inst i) where
    read : Read s t inst p i x.kind x.target x.owner (get_or inst (6 * i + 2) 0)
    read = record { holds = h; kind-is = r.kind; target_is = r.target; owner-is = r.owner; first-is = refl }

    pub step-fits : InCells y
    step-fits = rw e (fits read refl)

    -- the test of its cells
    module _ {u : List ℕ} {m : Bool} (S : Stamped s (λ q. q.place < p) u) (met : m ≡ meets u y.kind y.target y.owner y.depth) where
      pub step-clash : clash s p (it i) ≡ m
      step-clash = sym (meets-law read refl u S) ∙ sym (rw e at met)

      pub check-hit : m ≡ true → true ≡ conflicts_with_earlier s p
      unfolding conflicts_with_earlier tree_pointers node
      check-hit b = sym (found-one s (is_pointer s) p (clash s p) (it i) (ptr read) refl (step-clash ∙ b))

    -- its cells are set
    step-entered : (u : List ℕ) (D : Node → Type 0) → length u ≡ 12 * 1024 → Stamped s D u → Stamped s (λ q. D q ⊎ (q ≡ it i)) (stamped u y.kind y.target y.owner y.depth)
    step-entered u D l S = rw e (entered read refl u D l S)

    pub enter-turn : {a b : InstancesOf} (u : List ℕ) {u' : List ℕ} → length u ≡ 12 * 1024 → u' ≡ stamped u y.kind y.target y.owner y.depth
        → Following s inst p (λ D. Stamped s D u) a → StepsTo a (Some i) b → Following s inst p (λ D. Stamped s D u') b
    enter-turn u {u'} l q g z = follow-on T p here (is_pointer s) (λ D. Stamped s D u') (stamped-same s u') g z (λ S. rw q (step-entered u (Done s p i) l S))
