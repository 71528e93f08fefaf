-- Survivors: a child goes with its parent, so a survivor's parent survives; and where row 12 does not apply, so does the end of the chain
-- from its reference, of a class that its own allows. Assumes nothing.
use Rattle.std.specs.Prelude.{None, Some}
use mathlib.Core.Path.{◌≡◌, refl, sym, ◌∙◌}
use mathlib.Core.Logic.{⊎_elim}
use Prim.Native.Nat.{ℕ, ◌<◌}
use mathlib.Core.Bool.{Bool, true, false, not, ◌&&◌, false≢true, true≢false}
use lib.Dec.{eqb}
use borrow.Author.Tests.{eqb-true, eq-eqb, not-true, not-false}
use Rattle.names.specs.Lists.{In, any, holds}
use Rattle.names.specs.Names.{is_blank}
use Rattle.names.proofs.Tests.{by_cases, by-option, not-both, the-some, and_left, and_right, and_none, or_right, or_cases, some-map}
use Rattle.names.proofs.Lists.{in-keep, keep-in, none_first, not-any}
use Rattle.flat_table.specs.Classes.{has_parent, parent_allowed, reference_allowed}
use Rattle.recipe.specs.Records.{Recipe, places, class, parent_field, reference_field}
use Rattle.recipe.specs.Definitions.{holder, elements, element_in}
use Rattle.recipe.specs.Reading.{fault₅}
use Rattle.recipe.proofs.Definitions.{in-elements, element-in}
use Rattle.recipe.proofs.Rows.{filled-parent}
use Rattle.tree.specs.Tree.{Node, node, tree_elements, parent_of, reference_of, definition_at}
use Rattle.tree.specs.Faults.{fault₇}
use Rattle.tree.proofs.Nodes.{in_tree, element-holder, parent_in, reference-in}
use Rattle.marks.specs.Marks.{is_marked_gone, is_gone, survivors, chain_end}
use Rattle.marks.specs.Faults.{is_reference, is_reference_fault, fault₁₂}
use Rattle.marks.proofs.Chain.{chain-in}

module _ (s : Recipe) where
  -- ---- survivors are the elements of the tree that are not gone
  pub survivor : (x : Node) → In x (survivors s) → In x (tree_elements s) × (is_gone s x ≡ false)
  unfolding survivors
  survivor x i =
      let r = in-keep (λ y. not (is_gone s y)) (tree_elements s) x i in
      (r.0, not-true (is_gone s x) r.1)

  pub survives : (x : Node) → In x (tree_elements s) → is_gone s x ≡ false → In x (survivors s)
  unfolding survivors
  survives x i g = keep-in (λ y. not (is_gone s y)) (tree_elements s) x i (rw g)

  -- ---- "or a child of a gone element", where row 5 does not apply
  module _ (h₅ : fault₅ s ≡ None) where
    place_in : (x : Node) → In x (tree_elements s) → In x.place (elements s (holder s x.place))
    place_in x i = rw (element-holder s x i) (in_tree s x i).1

    -- what a parent is: a reaction, that stands earlier
    pub parent-class : (x y : Node) → In x (tree_elements s) → parent_of s x ≡ Some y
        → (y.path ≡ x.path) × (y.place < x.place) × (parent_allowed (class s x.place) (Some (class s y.place)) ≡ true)
    unfolding parent_of node
    parent-class x y i e =
        let r = some-map (node x.path) (element_in s x.place (parent_field s x.place)) y e in
        let b = (element-in s x.place (parent_field s x.place) r.0 r.1).0 in
        let f = filled-parent s h₅ (holder s x.place) x.place (place_in x i) b in
        let q : f.0 ≡ r.0 = the-some (sym f.1 ∙ r.1) in
        rw r.2 (refl, rw q at f.2, rw q at f.3)

    -- and a reaction has no parent
    pub no-grandparent : (x y : Node) → In x (tree_elements s) → parent_of s x ≡ Some y → parent_of s y ≡ None
    unfolding parent_allowed has_parent
    no-grandparent x y i e =
        by-option (parent_of s y)
        (λ p. p)
        (λ z p.
        let four : class s y.place ≡ 4 = eqb-true (class s y.place) 4 (and_right (has_parent (class s x.place)) _ (parent-class x y i e).2) in
        let up = and_left (has_parent (class s y.place)) _ (parent-class y z (parent_in s x y i e) p).2 in
        absurd (false≢true (rw four at up)))

    pub gone-child : (x y : Node) → In x (tree_elements s) → parent_of s x ≡ Some y → is_gone s y ≡ true → is_gone s x ≡ true
    unfolding is_gone
    gone-child x y i e g =
        ⊎_elim
        (λ (m : is_marked_gone s y ≡ true). or_right (is_marked_gone s x) _ (rw e m))
        (λ (m : holds (is_marked_gone s) (parent_of s y) ≡ true). absurd (false≢true (rw (no-grandparent x y i e) at m)))
        (or_cases (is_marked_gone s y) _ g)

    pub parent-survives : (x y : Node) → In x (survivors s) → parent_of s x ≡ Some y → In y (survivors s)
    parent-survives x y i e =
        let r = survivor x i in
        survives y (parent_in s x y r.0 e)
        (by_cases (is_gone s y) (λ g. not-both (gone-child x y r.0 e g) r.1) (λ g. g))

  -- ---- row 12
  module _ (h₁₂ : fault₁₂ s ≡ None) where
    no-reference-fault : (x : Node) → In x (survivors s) → is_reference_fault s x ≡ false
    unfolding fault₁₂
    no-reference-fault x i =
        let t : ℕ → Node → Bool = λ p y. eqb y.place p && is_reference_fault s y in
        let placed = (in-elements s (definition_at s x.path) x.place (in_tree s x (survivor x i).0).1).placed in
        and_none (eqb x.place x.place) (is_reference_fault s x) (eq-eqb x.place x.place refl)
        (not-any (t x.place) (survivors s) x (none_first (λ p. any (t p) (survivors s)) (places s) x.place h₁₂ placed) i)

    pub blank-reference : (x : Node) → In x (survivors s) → is_blank (reference_field s x.place) ≡ true → reference_allowed (class s x.place) None ≡ true
    unfolding is_reference_fault
    blank-reference x i b = not-false (reference_allowed (class s x.place) None) (rw b at (no-reference-fault x i))

    pub filled-reference : (x : Node) → In x (survivors s) → is_blank (reference_field s x.place) ≡ false
        → (y : Node) × (reference_of s x ≡ Some y) × (is_gone s (chain_end s y) ≡ false)
        × (reference_allowed (class s x.place) (Some (class s (chain_end s y).place)) ≡ true)
    unfolding is_reference_fault is_reference
    filled-reference x i b =
        by-option (reference_of s x)
        (λ p. absurd (true≢false (rw (b, p) at (no-reference-fault x i))))
        (λ y p.
        let h : is_reference s x (chain_end s y) ≡ true = not-false (is_reference s x (chain_end s y)) (rw (b, p) at (no-reference-fault x i)) in
        (y, p, not-true (is_gone s (chain_end s y)) (and_left (not (is_gone s (chain_end s y))) _ h), and_right (not (is_gone s (chain_end s y))) _ h))

    -- "That end is never a gone element", nor one of a wrong class
    pub reference-end : (x y : Node) → In x (survivors s) → reference_of s x ≡ Some y
        → (is_gone s (chain_end s y) ≡ false) × (reference_allowed (class s x.place) (Some (class s (chain_end s y).place)) ≡ true)
    unfolding reference_of
    reference-end x y i e =
        let r = some-map (node x.path) (element_in s x.place (reference_field s x.place)) y e in
        let f = filled-reference x i (element-in s x.place (reference_field s x.place) r.0 r.1).0 in
        let q : f.0 ≡ y = the-some (sym f.1 ∙ e) in
        (rw q at f.2, rw q at f.3)

    -- so it survives
    pub end-survives : fault₅ s ≡ None → fault₇ s ≡ None → (x y : Node) → In x (survivors s) → reference_of s x ≡ Some y → In (chain_end s y) (survivors s)
    unfolding chain_end
    end-survives h₅ h₇ x y i e =
        survives (chain_end s y) (chain-in s h₅ h₇ 5 y (reference-in s x y (survivor x i).0 e)) (reference-end x y i e).0
