-- Row 20's pass: a factor of a kind 8 in one instance, whether it is at fault, and the search along the instances.
-- Assumes nothing.
use Rattle.std.specs.Prelude.{None, Option, Some, unwrap_or}
use Prim.Native.Nat.{◌*◌, ◌+◌, ◌≤◌, ℕ}
use borrow.Author.Tests.{eqb-true}
use lib.Dec.{eqb}
use lib.ListN.{get_or, length}
use mathlib.Core.Bool.{Bool, ◌&&◌, ◌||◌, false, not, true}
use mathlib.Core.List.{List}
use mathlib.Core.Path.{◌∙◌, ◌≡◌, ap, sym}
use native.Mathlib.Omega.{arith}
use Rattle.names.specs.Lists.{In}
use Rattle.names.specs.Names.{field_at, is_blank}
use Rattle.names.proofs.Tests.{by-option, some-none, the-some}
use Rattle.recipe.specs.Definitions.{element_in, holder}
use Rattle.recipe.specs.Reading.{fault₅}
use Rattle.recipe.specs.Records.{Recipe, extent_field, field, is_factors, is_model, kind, next, places, time_field}
use Rattle.recipe.proofs.Definitions.{element-in}
use Rattle.recipe.proofs.Reading.{readable, readable-fits}
use Rattle.recipe.proofs.RecordLengths.{length-factors}
use Rattle.shadow.specs.Shadow.{linked}
use Rattle.tree.specs.Faults.{fault₇}
use Rattle.tree.specs.Numbers.{first_at, number}
use Rattle.tree.specs.Tree.{Node, node, nodes, tree_elements}
use Rattle.tree.proofs.ByRecord.{by-none}
use Rattle.tree.proofs.Nodes.{in-nodes, node-holder, tree-in}
use Rattle.marks.specs.Faults.{factor_named, has_factor_fault, is_factor, is_factor_fault, is_unfactored}
use Rattle.marks.specs.Marks.{chain_end}
use Rattle.marks.proofs.Chain.{chain-in}
use Rattle.marks.proofs.Threads.{Holds, has-row, path, this-in}
use Rattle.targets.specs.Targeted.{Targeted}
use Rattle.elements.specs.Columns.{Gones}
use Rattle.elements.specs.Gone.{Numbers}
use Rattle.elements.proofs.Elements.{link_is}
use Rattle.elements.proofs.Gone.{gone-told}
use Rattle.references.specs.References.{ClassAt}
use Rattle.factor_ends.specs.FactorEnds.{Factor, FactorAt, FactorEnd, end_from}
use Rattle.factor_ends.specs.FactorFaults.{FactorFaultAt, FactorField, FactorTold}

-- ---- whether an end does
pub factor-told : (s : Recipe) (el : List ℕ) {z k : ℕ} {b : Bool} → Gones s el → b ≡ not (eqb (get_or el (5 * z + 2) 0) 0) → ClassAt s z k → FactorTold s z (not b && eqb k 3)
unfolding is_factor
factor-told s el G rg K v i e = rw (gone-told s el G rg v i e, K v i e)

-- ---- a factor of the kind 8 x, by the end of its chain
module _ {s : Recipe} {f at : ℕ} {o : Option ℕ} {x : Node} (F : FactorField s f o at x) where
  abbrev the_field : List ℕ
  the_field = field_at s.width s.bytes at

  of_field : Factor s f x.path o
  unfolding node
  of_field =
      let P = in-nodes s (is_factors s) x F.inside in
      record {
        inside = P.instance;
        first = F.first;
        tree = λ e n. tree-in s (node x.path e) P.instance (rw (node-holder s P) at (element-in s x.place the_field e (sym F.is ∙ n)).2);
      }

  -- what `factor_end` requires
  pub at_field : FactorAt s f o
  at_field = record { path = x.path; is = of_field }

  module _ {b : Bool} (r : b ≡ is_blank the_field) where
    pub factor-blank : b ≡ true → false ≡ is_factor_fault s x the_field
    unfolding is_factor_fault
    factor-blank h = rw (sym r ∙ h)

    pub factor-undeclared : FactorEnd s f o None → b ≡ false → true ≡ is_factor_fault s x the_field
    unfolding is_factor_fault factor_named
    factor-undeclared Z h =
        by-option o
        (λ k. rw (sym r ∙ h, sym F.is ∙ k))
        (λ e k. some-none (sym (Z x.path of_field ∙ ap (end_from s x.path) k)))

    module _ {z : ℕ} (Z : FactorEnd s f o (Some z)) (h₅ : fault₅ s ≡ None) (h₇ : fault₇ s ≡ None) where
      reaches : (e : ℕ) × ((o ≡ Some e) × (In (chain_end s (node x.path e)) (tree_elements s) × (number s (chain_end s (node x.path e)) ≡ z)))
      unfolding chain_end
      reaches =
          by-option o
          (λ k. some-none (Z x.path of_field ∙ ap (end_from s x.path) k))
          (λ e k. (e, (k, (chain-in s h₅ h₇ 5 (node x.path e) (of_field.tree e k), sym (the-some (Z x.path of_field ∙ ap (end_from s x.path) k))))))

      -- what `is_factor` requires
      pub ended-numbers : Numbers s z
      ended-numbers = let e = reaches in (chain_end s (node x.path e.0), e.1.1.0, e.1.1.1)

      pub factor-ended : {u : Bool} → b ≡ false → FactorTold s z u → not u ≡ is_factor_fault s x the_field
      unfolding is_factor_fault factor_named
      factor-ended h U =
          let e = reaches in
          rw (sym r ∙ h, sym F.is ∙ e.1.0) (ap not (U (chain_end s (node x.path e.0)) e.1.1.0 e.1.1.1))

-- ---- the search along the instances
-- a record that is no kind 8
pub not-factors : (s : Recipe) (p : ℕ) → is_factors s p ≡ false → is_unfactored s p ≡ false
unfolding is_unfactored
not-factors s p k = by-none s (is_factors s) p k (has_factor_fault s)

module _ {s : Recipe} {t inst : List ℕ} {insts : ℕ} (T : Targeted s t inst insts) (p : ℕ) (here : In p (places s)) (sort : is_factors s p ≡ true) where
  kind-is : kind s p ≡ 8
  unfolding is_factors
  kind-is = eqb-true (kind s p) 8 sort

  -- the factor fields are in the recipe
  pub factors-low : p + 1 + (s.width + s.width) + s.width ≤ length s.bytes
  unfolding next
  factors-low = omega (arith, readable-fits s p (readable s p here), length-factors s.width kind-is)

  pub no-model : is_model s p ≡ false
  unfolding is_model
  no-model = rw kind-is

  -- instance i is one of its definition, and f the number of the first element there
  module _ (i : ℕ) (h : Holds s (holder s p) i) {f : ℕ} (rf : f ≡ get_or inst (6 * i + 2) 0) where
    abbrev this : Node
    this = node (path s i) p

    this-one : In this (nodes s (is_factors s))
    this-one = this-in s (is_factors s) p i here no-model sort h

    first-is : f ≡ first_at s (path s i)
    first-is = rf ∙ T.planted.rows.start i (has-row T h.0)

    -- a field of it, by the cell that keeps what the field names
    at_cell : (at c : ℕ) {o : Option ℕ} → at + s.width ≤ length s.bytes → c ≡ unwrap_or (element_in s p (field_at s.width s.bytes at)) 0 → o ≡ linked c → FactorField s f o at this
    unfolding node
    at_cell at c low n r = record { inside = this-one; first = first-is; low = low; is = r ∙ link_is s this (field_at s.width s.bytes at) n }

    pub time-at : {o : Option ℕ} → o ≡ linked (get_or t (p + 3) 0) → FactorField s f o (p + 1 + s.width) this
    unfolding time_field field
    time-at r = at_cell _ _ (omega (arith, factors-low)) (T.planted.measured.linked.times p here sort) r

    pub extent-at : {o : Option ℕ} → o ≡ linked (get_or t (p + 5) 0) → FactorField s f o (p + 1 + (s.width + s.width)) this
    unfolding extent_field field
    extent-at r = at_cell _ _ factors-low (T.planted.measured.linked.extents p here sort) r

    module _ {n m : Option ℕ} {b c : Bool} (rn : n ≡ linked (get_or t (p + 3) 0)) (rm : m ≡ linked (get_or t (p + 5) 0))
        (hb : FactorFaultAt s f n (p + 1 + s.width) b) (hc : FactorFaultAt s f m (p + 1 + (s.width + s.width)) c) where
      pub judged : b || c ≡ has_factor_fault s this
      unfolding has_factor_fault node time_field extent_field field
      judged = rw (hb this (time-at rn), hc this (extent-at rm))
