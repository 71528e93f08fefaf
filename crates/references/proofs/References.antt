-- Row 12's pass: the reference of an element, the end of its chain, and the lowest record of a survivor whose reference is at fault.
-- Assumes nothing.
use Rattle.std.specs.Prelude.{None, Option, Some, option_map}
use Prim.Native.Nat.{◌*◌, ◌+◌, ◌-◌, ◌<◌, ◌≤◌, ℕ}
use borrow.Author.Tests.{eqb-true}
use lib.Dec.{eqb}
use lib.ListN.{get_or, length}
use mathlib.Core.Bool.{Bool, ◌&&◌, ◌||◌, false, not, true}
use mathlib.Core.List.{List}
use mathlib.Core.Path.{◌∙◌, ◌≡◌, ap, refl, sym}
use native.Mathlib.Omega.{arith}
use Rattle.names.specs.Lists.{In}
use Rattle.names.specs.Names.{is_blank}
use Rattle.names.proofs.Tests.{by-option, not_none, some-map}
use Rattle.flat_table.specs.Classes.{reference_allowed}
use Rattle.recipe.specs.Definitions.{element_in}
use Rattle.recipe.specs.Reading.{fault₅}
use Rattle.recipe.specs.Records.{Recipe, byte, class, is_element, kind, next, places, reference_field}
use Rattle.recipe.proofs.Going.{class_low}
use Rattle.recipe.proofs.Reading.{readable, readable-fits}
use Rattle.recipe.proofs.RecordLengths.{length_three}
use Rattle.shadow.specs.Shadow.{linked}
use Rattle.tree.specs.Faults.{fault₇}
use Rattle.tree.specs.Numbers.{number}
use Rattle.tree.specs.Tree.{Node, node, reference_of, tree_elements}
use Rattle.tree.proofs.Nodes.{reference-in}
use Rattle.tree.proofs.Numbering.{number-few}
use Rattle.targets.specs.Targeted.{Aimed}
use Rattle.elements.specs.Columns.{ElementRows, Gones, Nexts}
use Rattle.references.specs.Ends.{end_number}
use Rattle.marks.specs.Faults.{is_reference, is_reference_fault}
use Rattle.elements.specs.Gone.{Element, Numbers}
use Rattle.marks.specs.Marks.{chain_end, is_gone}
use Rattle.references.specs.References.{ClassAt, EndAt, FaultAt, UnfitAt}
use Rattle.references.specs.Ends.{Stepping, followed}
use Rattle.marks.proofs.Chain.{chain-in}
use Rattle.elements.proofs.Elements.{of-element, element-held, element-room, link_is, place_is, row-place, sibling-number}
use Rattle.references.proofs.Ends.{end-law, stepping}
use Rattle.elements.proofs.Gone.{gone-told}

module _ (s : Recipe) where
  -- the reference field of an element is in the recipe
  pub reference-low : (p : ℕ) → In p (places s) → is_element s p ≡ true → p + 1 + (s.width + (1 + s.width)) + s.width ≤ length s.bytes
  unfolding next is_element
  reference-low p i e =
      let k = eqb-true (kind s p) 2 e in
      omega (arith, readable-fits s p (readable s p i), length_three s.width (kind s p) (omega arith) (omega arith) (λ z. omega arith) (λ z. omega arith) (λ z. omega arith))

-- ---- the end of the chain from a reference
module _ {s : Recipe} {t el : List ℕ} (A : Aimed s t) (h₇ : fault₇ s ≡ None) (R : ElementRows s el) (G : Nexts s el) {e p : ℕ} (E : Element s e p) where
  abbrev x : Node
  x = E.it

  pub referring-room : p + 13 ≤ length t
  referring-room = omega (arith, element-room A x E.tree, E.at)

  module _ {o : Option ℕ} (r : o ≡ linked (get_or t (p + 4) 0)) where
    refers-is : o ≡ element_in s x.place (reference_field s x.place)
    refers-is =
        let i = element-held s x E.tree in
        r ∙ link_is s x (reference_field s x.place) (ap (λ (z : ℕ). get_or t (z + 4) 0) (sym E.at) ∙ A.measured.linked.references x.place i.placed i.passes)

    pub end_none : o ≡ None → EndAt s e None
    unfolding reference_of
    end_none z = of-element h₇ E (end_number s) (rw (sym refers-is ∙ z))

    module _ {m : ℕ} (n : o ≡ Some m) where
      abbrev y : Node
      y = node x.path m

      a-reference : reference_of s x ≡ Some y
      unfolding reference_of
      a-reference = ap (option_map (node x.path)) (sym refers-is ∙ n)

      pub named-tree : In y (tree_elements s)
      named-tree = reference-in s x y E.tree a-reference

      module _ {a c : ℕ} (u : a ≡ get_or t (p + 1) 0) (v : c ≡ get_or t (m + 1) 0) where
        -- what `chain_end` requires
        pub reference-steps : Stepping el (e - a + c)
        reference-steps = rw (sibling-number A E m named-tree u v).1 (stepping s A.measured.linked.row₅ h₇ el G y named-tree R.room)

        module _ {z : ℕ} (q : z ≡ followed el 5 (e - a + c)) where
          end_is : z ≡ number s (chain_end s y)
          end_is = q ∙ ap (followed el 5) (sibling-number A E m named-tree u v).1 ∙ end-law s A.measured.linked.row₅ h₇ el G y named-tree

          pub end-few : z < 1024
          unfolding chain_end
          end-few = omega (arith, end_is, number-few s h₇ (chain_end s y) (chain-in s A.measured.linked.row₅ h₇ 5 y named-tree))

          pub end-some : EndAt s e (Some z)
          end-some = of-element h₇ E (end_number s) (rw a-reference (ap Some end_is))

-- ---- whether an end does
module _ {s : Recipe} {el : List ℕ} (h₇ : fault₇ s ≡ None) (R : ElementRows s el) {z : ℕ} where
  module _ {q : ℕ} (r : q ≡ get_or el (5 * z + 0) 0) where
    -- what `class_at` requires
    pub row-class : Numbers s z → q + 1 + s.width < length s.bytes
    row-class N = let P = row-place h₇ R N r in class_low s q P.0 P.1

    pub class-told : {k : ℕ} → k ≡ get_or s.bytes (q + 1 + s.width) 0 → ClassAt s z k
    unfolding class byte
    class-told rk v i e = rw (rk, r, place_is h₇ R v i e)

pub unfit : (s : Recipe) (el : List ℕ) (c : ℕ) {z k : ℕ} {b m : Bool} → Gones s el → b ≡ not (eqb (get_or el (5 * z + 2) 0) 0) → ClassAt s z k → m ≡ reference_allowed c (Some k) → UnfitAt s c z (b || not m)
unfit s el c G rg K rm v i e = rw (gone-told s el G rg v i e, rm, K v i e)

-- ---- the test, of an element at p
module _ (s : Recipe) (v : Node) (p : ℕ) (a : v.place ≡ p) where
  test-blank : is_blank (reference_field s p) ≡ true → is_reference_fault s v ≡ not (reference_allowed (class s p) None)
  unfolding is_reference_fault
  test-blank b = rw (a, b)

  test-none : is_blank (reference_field s p) ≡ false → reference_of s v ≡ None → is_reference_fault s v ≡ true
  unfolding is_reference_fault
  test-none b n = rw (n, a, b)

  test-end : (y : Node) → is_blank (reference_field s p) ≡ false → reference_of s v ≡ Some y
      → is_reference_fault s v ≡ is_gone s (chain_end s y) || not (reference_allowed (class s p) (Some (class s (chain_end s y).place)))
  unfolding is_reference_fault is_reference
  test-end y b n = rw (n, a, b) (sym (neither (is_gone s (chain_end s y)) _))
    where
      neither : (g k : Bool) → g || not k ≡ not (not g && k)
      neither true k = refl
      neither false k = refl

-- ---- the reference of an element, by the end of its chain
module _ {s : Recipe} (h₅ : fault₅ s ≡ None) (h₇ : fault₇ s ≡ None) {e p : ℕ} (E : Element s e p) {b : Bool} (q : b ≡ is_blank (reference_field s p)) where
  pub fault-blank : {c : ℕ} {k : Bool} → b ≡ true → c ≡ get_or s.bytes (p + 1 + s.width) 0 → k ≡ reference_allowed c None → FaultAt s e (not k)
  unfolding class byte
  fault-blank h rc k = of-element h₇ E (is_reference_fault s) (rw (k, rc, test-blank s E.it p E.at (sym q ∙ h)))

  pub fault-none : b ≡ false → EndAt s e None → FaultAt s e true
  fault-none h Z =
      by-option (reference_of s E.it)
      (λ o. of-element h₇ E (is_reference_fault s) (sym (test-none s E.it p E.at (sym q ∙ h) o)))
      (λ y o. not_none {a = number s (chain_end s y)} (Z E.it E.tree E.num ∙ rw o))

  module _ {z : ℕ} (Z : EndAt s e (Some z)) where
    reaches : (y : Node) × ((reference_of s E.it ≡ Some y) × (In (chain_end s y) (tree_elements s) × (number s (chain_end s y) ≡ z)))
    unfolding chain_end
    reaches =
        let y = some-map (λ y. number s (chain_end s y)) (reference_of s E.it) z (sym (Z E.it E.tree E.num)) in
        (y.0, (y.1, (chain-in s h₅ h₇ 5 y.0 (reference-in s E.it y.0 E.tree y.1), sym y.2)))

    -- what `is_unfit` requires
    pub end-numbers : Numbers s z
    end-numbers = let r = reaches in (chain_end s r.0, r.1.1.0, r.1.1.1)

    pub fault-end : {c : ℕ} {u : Bool} → b ≡ false → c ≡ get_or s.bytes (p + 1 + s.width) 0 → UnfitAt s c z u → FaultAt s e u
    unfolding class byte
    fault-end h rc U =
        let r = reaches in
        of-element h₇ E (is_reference_fault s) (rw (U (chain_end s r.0) r.1.1.0 r.1.1.1, rc, test-end s E.it p E.at r.0 (sym q ∙ h) r.1.0))
