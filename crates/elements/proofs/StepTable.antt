-- The column of steps, filled mark by mark.
-- Assumes nothing.
use Rattle.std.specs.Prelude.{None, Some}
use Prim.Native.Nat.{◌*◌, ◌+◌, ◌<◌, ◌≤◌, ℕ}
use borrow.Author.Tests.{eqb-false, eqb-true, ne_eqb}
use lib.Dec.{eqb}
use lib.ListN.{get_or, length, set}
use lib.Seq.{get_or-set_other, get_or-set_same}
use mathlib.Core.Bool.{false, true}
use mathlib.Core.List.{List}
use mathlib.Core.Logic.{◌⊎◌, inl, inr, ⊎_elim}
use mathlib.Core.Path.{◌∙◌, ◌≡◌, ap, refl, sym}
use native.Mathlib.Omega.{arith}
use Rattle.names.specs.Lists.{In, first}
use Rattle.names.proofs.Lists.{none_first, some_first}
use Rattle.names.proofs.Tests.{and_left, and_right, both, by_cases, by-option, not-both, or_cases, or_left, or_right}
use Rattle.recipe.specs.Reading.{fault₄, fault₅}
use Rattle.recipe.specs.Records.{Recipe, is_mark, is_owned, is_pointer, is_port, is_replaced_by, is_replacement, kind, owned_kind, places, replaced_by_kind}
use Rattle.recipe.proofs.Bodies.{owned-kind}
use Rattle.recipe.proofs.Rows.{replaced-by-mark, replacement-mark}
use Rattle.tree.specs.Faults.{fault₇, fault₈}
use Rattle.tree.specs.Numbers.{number}
use Rattle.tree.specs.Tree.{Node, node, nodes, tree_elements}
use Rattle.tree.proofs.Nodes.{node-same, nodes-in, same-node}
use Rattle.tree.proofs.Numbering.{number-inj}
use Rattle.targets.specs.Targeted.{Targeted}
use Rattle.marks.specs.Cells.{aim_number}
use Rattle.elements.specs.Columns.{Nexts}
use Rattle.marks.specs.Faults.{fault₉}
use Rattle.elements.specs.Listing.{Only}
use Rattle.marks.specs.Marks.{aim, from, owner, owns_by, replaces, step, tree_marks}
use Rattle.elements.specs.Steps.{NoSteps, Went, from_of, step_of, stepped, to_of}
use Rattle.elements.proofs.Elements.{only_set}
use Rattle.marks.proofs.Marks.{aim-in, aim-some, aimed, aims, mark-placed, mark-pointer, owner-in}
use Rattle.marks.proofs.Pass.{not-model}
use Rattle.marks.proofs.Relations.{aimed-is}
use Rattle.elements.proofs.Steps.{one-mark, one-owner, owner-free, step_down_lem, step-none, step-up}
use Rattle.marks.proofs.Threads.{Done, path, this-in}
use Rattle.marks.proofs.Following.{Following, follow-on, follows-holds}
use Rattle.tree.specs.declared.InstancesOf.{InstancesOf}
use Rattle.tree.specs.Steps.{StepsTo}
use Rattle.marks.proofs.Turn.{Read, aim-eq, aim-few, own-few, own-step}

-- the same marks
pub went-same : (s : Recipe) (el : List ℕ) (D E : Node → Type 0) → ((q : Node) → In q (nodes s (is_owned s)) → E q → D q) → ((q : Node) → In q (nodes s (is_owned s)) → D q → E q)
    → Went s D el → Went s E el
went-same s el D E f g w = record {
  has = λ q i a d. w.has q i a (f q (owned q i a) d);
  others = λ x i h. w.others x i (λ q j a d z. h q j a (g q (owned q j a) d) z);
}
  where
    owned : (q : Node) → In q (tree_marks s) → is_owned s q.place ≡ true → In q (nodes s (is_owned s))
    owned q i a = let h = mark-placed s q i in nodes-in s (is_owned s) q (record { instance = h.instance; inside = h.inside; passes = a })

pub went-none : (s : Recipe) (el : List ℕ) → NoSteps s el → Went s (λ q. q.place < 0) el
went-none s el n = record { has = λ q i a d. absurd (omega arith); others = λ x i h. n x i }

module _ (s : Recipe) (h₄ : fault₄ s ≡ None) (h₅ : fault₅ s ≡ None) (h₇ : fault₇ s ≡ None) (h₈ : fault₈ s ≡ None) (h₉ : fault₉ s ≡ None) where
  -- a mark's target, by its number
  record AimedAt (r : Node) : Type 0 where
    x : Node
    is : aim s r ≡ Some x
    tree : In x (tree_elements s)
    num : aim_number s r ≡ number s x

  the-aim : (r : Node) → In r (tree_marks s) → AimedAt r
  the-aim r i =
      let a = aim-some s h₈ r (mark-pointer s r i) in
      let y = from r.path a.0 in
      record { x = y; is = a.1; tree = aim-in s h₇ r y (mark-pointer s r i) a.1; num = aimed-is s r y a.1 }

  step-rep : (p : ℕ) → is_owned s p ≡ true → is_replaced_by s p ≡ false → is_replacement s p ≡ true
  step-rep p h b = ⊎_elim (λ (e : is_replacement s p ≡ true). e) (λ (e : is_replaced_by s p ≡ true). absurd (not-both e b)) (or_cases (is_replacement s p) (is_replaced_by s p) h)

  from-by : (r : Node) → is_replaced_by s r.place ≡ true → from_of s r ≡ number s (owner s r)
  unfolding from_of
  from-by r b = rw b

  from-rep : (r : Node) → is_replaced_by s r.place ≡ false → from_of s r ≡ aim_number s r
  unfolding from_of
  from-rep r b = rw b

  -- two steps from one element are one mark
  pub one-step : (q r : Node) → In q (tree_marks s) → In r (tree_marks s) → is_owned s q.place ≡ true → is_owned s r.place ≡ true → from_of s q ≡ from_of s r → q ≡ r
  one-step q r i j a b e =
      let A = the-aim q i in
      let B = the-aim r j in
      by_cases (is_replaced_by s q.place)
      (λ k. by_cases (is_replaced_by s r.place)
      (λ l. one-owner s h₄ h₅ h₉ q r i j k l
      (number-inj s h₇ (owner s q) (owner s r) (owner-in s h₅ q (mark-pointer s q i) (inr k)) (owner-in s h₅ r (mark-pointer s r j) (inr l)) (sym (from-by q k) ∙ e ∙ from-by r l)))
      (λ l. let n : B.x ≡ owner s q = number-inj s h₇ B.x (owner s q) B.tree (owner-in s h₅ q (mark-pointer s q i) (inr k)) (sym B.num ∙ sym (from-rep r l) ∙ sym e ∙ from-by q k) in
      absurd (owner-free s h₄ h₅ h₉ r q q j i (step-rep r.place b l) k (B.is ∙ ap Some n))))
      (λ k. by_cases (is_replaced_by s r.place)
      (λ l. let n : A.x ≡ owner s r = number-inj s h₇ A.x (owner s r) A.tree (owner-in s h₅ r (mark-pointer s r j) (inr l)) (sym A.num ∙ sym (from-rep q k) ∙ e ∙ from-by r l) in
      absurd (owner-free s h₄ h₅ h₉ q r r i j (step-rep q.place a k) l (A.is ∙ ap Some n)))
      (λ l. let n : B.x ≡ A.x = number-inj s h₇ B.x A.x B.tree A.tree (sym B.num ∙ sym (from-rep r l) ∙ sym e ∙ from-rep q k ∙ A.num) in
      one-mark s h₄ h₅ h₉ q r A.x i j A.is (B.is ∙ ap Some n)))

  -- one more mark
  pub went-more : (D : Node → Type 0) (el : List ℕ) (r : Node) → In r (tree_marks s) → is_owned s r.place ≡ true → 5 * from_of s r + 3 < length el → Went s D el
      → Went s (λ q. D q ⊎ (q ≡ r)) (set el (5 * from_of s r + 3) (to_of s r))
  went-more D el r j b l w = record {
    has = λ q i a d. by_cases (eqb (from_of s q) (from_of s r))
        (λ e.
        let z = eqb-true (from_of s q) (from_of s r) e in
        ap (λ (y : ℕ). get_or (set el (5 * from_of s r + 3) (to_of s r)) (5 * y + 3) 0) z
        ∙ get_or-set_same el (5 * from_of s r + 3) (to_of s r) 0 l ∙ ap (to_of s) (sym (one-step q r i j a b z)))
        (λ e.
        let n = eqb-false (from_of s q) (from_of s r) e in
        ⊎_elim
        (λ (y : D q). get_or-set_other el (5 * from_of s r + 3) (5 * from_of s q + 3) (to_of s r) 0 (λ z. n (row (from_of s q) (from_of s r) z)) ∙ w.has q i a y)
        (λ (y : q ≡ r). absurd (n (ap (from_of s) y))) d);
    others = λ x i h.
        get_or-set_other el (5 * from_of s r + 3) (5 * number s x + 3) (to_of s r) 0 (λ z. h r j b (inr refl) (sym (row (number s x) (from_of s r) z)))
        ∙ w.others x i (λ q k a d z. h q k a (inl d) z);
  }
    where
      row : (m n : ℕ) → 5 * m + 3 ≡ 5 * n + 3 → m ≡ n
      row m n z = omega arith

  by-step : (r : Node) → is_replaced_by s r.place ≡ true → is_owned s r.place ≡ true
  by-step r k = or_right (is_replacement s r.place) (is_replaced_by s r.place) k

  rep_step : (r : Node) → is_replacement s r.place ≡ true → is_owned s r.place ≡ true
  rep_step r k = or_left (is_replacement s r.place) (is_replaced_by s r.place) k

  not-by : (r : Node) → is_replacement s r.place ≡ true → is_replaced_by s r.place ≡ false
  unfolding is_replacement is_replaced_by
  not-by r k = ne_eqb (kind s r.place) 7 (λ z. let q = eqb-true (kind s r.place) 6 k in omega arith)

  to-by : (r : Node) → is_replaced_by s r.place ≡ true → to_of s r ≡ aim_number s r + 1
  unfolding to_of
  to-by r k = rw k

  to-rep : (r : Node) → is_replaced_by s r.place ≡ false → to_of s r ≡ number s (owner s r) + 1
  unfolding to_of
  to-rep r k = rw k

  -- all marks: the table has each element's step
  pub went-all : (el : List ℕ) → Went s (λ q. Unit {0}) el → Nexts s el
  unfolding step_of replaces owns_by
  went-all el w x i =
      by-option (first (replaces s x) (tree_marks s))
      (λ p. by-option (first (owns_by s x) (tree_marks s))
      (λ p'.
      let z : step s x ≡ None = step-none s h₄ h₅ h₉ x
      (λ r j. none_first (replaces s x) (tree_marks s) r p j) (λ r j. none_first (owns_by s x) (tree_marks s) r p' j) in
      rw (z, step_of)
      (w.others x i
      (λ r j a d e. by_cases (is_replaced_by s r.place)
      (λ k.
      let n : owner s r ≡ x = number-inj s h₇ (owner s r) x (owner-in s h₅ r (mark-pointer s r j) (inr k)) i (sym (from-by r k) ∙ e) in
      not-both (both k (rw n (node-same x))) (none_first (owns_by s x) (tree_marks s) r p' j))
      (λ k.
      let A = the-aim r j in
      let n : A.x ≡ x = number-inj s h₇ A.x x A.tree i (sym A.num ∙ sym (from-rep r k) ∙ e) in
      not-both (both (step-rep r.place a k) (aimed s r x (A.is ∙ ap Some n))) (none_first (replaces s x) (tree_marks s) r p j)))))
      (λ r p'.
      let f = some_first (owns_by s x) (tree_marks s) r p' in
      let k : is_replaced_by s r.place ≡ true = and_left (is_replaced_by s r.place) _ f.1 in
      let n : x ≡ owner s r = same-node x (owner s r) (and_right (is_replaced_by s r.place) _ f.1) in
      let A = the-aim r f.0 in
      let z : step s x ≡ Some A.x = ap (step s) n ∙ step_down_lem s h₄ h₅ h₉ r f.0 k ∙ A.is in
      ap (λ (y : ℕ). get_or el (5 * y + 3) 0) (ap (number s) n ∙ sym (from-by r k))
      ∙ w.has r f.0 (by-step r k) tt ∙ to-by r k ∙ ap (λ (y : ℕ). y + 1) A.num ∙ rw (z, step_of)))
      (λ r p.
      let f = some_first (replaces s x) (tree_marks s) r p in
      let k : is_replacement s r.place ≡ true = and_left (is_replacement s r.place) _ f.1 in
      let a : aim s r ≡ Some x = aims s r x (and_right (is_replacement s r.place) _ f.1) in
      let z : step s x ≡ Some (owner s r) = step-up s h₄ h₅ h₉ r x f.0 k a in
      ap (λ (y : ℕ). get_or el (5 * y + 3) 0) (sym (aimed-is s r x a) ∙ sym (from-rep r (not-by r k)))
      ∙ w.has r f.0 (rep_step r k) tt ∙ to-rep r (not-by r k) ∙ rw (z, step_of))

-- ---- one record, in the instances of its definition
module _ {s : Recipe} {t inst : List ℕ} {insts : ℕ} (T : Targeted s t inst insts) (h₉ : fault₉ s ≡ None) (p : ℕ) (here : In p (places s)) (st : is_owned s p ≡ true) where
  is-step-mark : is_mark s p ≡ true
  is-step-mark = ⊎_elim (replacement-mark s p) (replaced-by-mark s p) (or_cases (is_replacement s p) (is_replaced_by s p) st)

  pub sort : is_pointer s p ≡ true
  sort = or_left (is_mark s p) (is_port s p) is-step-mark

  module _ {i k e o f : ℕ} (w : Read s t inst p i k e o f) where
    abbrev this : Node
    this = node (path s i) p

    step-this : In this (tree_marks s)
    unfolding tree_marks
    step-this = this-in s (is_mark s) p i here (not-model s p sort) is-step-mark w.holds

    by_kind : is_replaced_by s p ≡ replaced_by_kind k
    unfolding is_replaced_by kind
    by_kind = ap replaced_by_kind (sym w.kind-is)

    own-kind : owned_kind k ≡ true
    unfolding kind
    own-kind = ap owned_kind w.kind-is ∙ (sym (owned-kind s p) ∙ st)

    -- what `put_step` requires
    pub step_fits : (f + e < 1024) × (f + o < 1024)
    step_fits = (aim-few T p here sort w, own-few T p here sort w own-kind)

    stepped-is : (el : List ℕ) → stepped el k (f + e) (f + o) ≡ set el (5 * from_of s this + 3) (to_of s this)
    unfolding from_of to_of node
    stepped-is el =
        by_cases (replaced_by_kind k)
        (λ z. rw (z, by_kind ∙ z, aim-eq T p here sort w, own-step T p here sort w own-kind))
        (λ z. rw (z, by_kind ∙ z, aim-eq T p here sort w, own-step T p here sort w own-kind))

    from-few : from_of s this < 1024
    unfolding from_of node
    from-few =
        let F = step_fits in
        by_cases (is_replaced_by s p) (λ z. rw z (omega (arith, own-step T p here sort w own-kind))) (λ z. rw z (omega (arith, aim-eq T p here sort w)))

    pub stepped-one : (el : List ℕ) (D : Node → Type 0) → 5 * 1024 ≤ length el → Went s D el → Went s (λ q. D q ⊎ (q ≡ this)) (stepped el k (f + e) (f + o))
    unfolding node
    stepped-one el D l v =
        rw (stepped-is el)
        (went-more s T.planted.measured.linked.row₄ T.planted.measured.linked.row₅ T.planted.row₇ T.aimed.row₈ h₉ D el this step-this st (omega (arith, from-few)) v)

    pub stepped-only : {a el el' : List ℕ} → el' ≡ stepped el k (f + e) (f + o) → Only 3 a el → Only 3 a el'
    stepped-only {a} {el} r q = rw (r ∙ stepped-is el) (only_set (omega arith) q (from_of s this) (to_of s this))

  -- the turn of instance i: what is read, and the table behind it
  module _ {W : (Node → Type 0) → Type 0} {a b : InstancesOf} (i : ℕ) (g : Following s inst p W a) (z : StepsTo a (Some i) b) where
    pub step-read : {e o f : ℕ} → e ≡ get_or t (p + 9) 0 → (owned_kind (get_or s.bytes p 0) ≡ true → o ≡ get_or t (get_or t (p + 3) 0 + 1) 0) → f ≡ get_or inst (6 * i + 2) 0
        → Read s t inst p i (get_or s.bytes p 0) e o f
    step-read re ro rf = record { holds = follows-holds T p here g z; kind-is = refl; target_is = re; owner-is = ro; first-is = rf }

  pub step-turn : {a b : InstancesOf} {i k e o f : ℕ} (el : List ℕ) {el' : List ℕ} → Read s t inst p i k e o f → 5 * 1024 ≤ length el → el' ≡ stepped el k (f + e) (f + o)
      → Following s inst p (λ D. Went s D el) a → StepsTo a (Some i) b → Following s inst p (λ D. Went s D el') b
  step-turn {i = i} {k} {e} {o} {f} el w l r g z =
      rw r
      (follow-on T p here (is_owned s) (λ D. Went s D (stepped el k (f + e) (f + o))) (went-same s (stepped el k (f + e) (f + o))) g z
      (λ v. stepped-one w el (Done s p i) l v))
