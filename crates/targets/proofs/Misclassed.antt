-- Row 10's pass: one record of it, by the classes of its owner and its target.
-- Assumes nothing.
use Rattle.std.specs.Prelude.{Some}
use Prim.Native.Nat.{◌+◌, ◌<◌, ◌≤◌, ℕ}
use lib.Dec.{eqb}
use lib.ListN.{get_or, length}
use mathlib.Core.Bool.{Bool, false, not, true}
use mathlib.Core.List.{List}
use mathlib.Core.Logic.{⊎_elim}
use mathlib.Core.Path.{◌∙◌, ◌≡◌, refl, sym}
use Rattle.names.proofs.Tests.{or_cases, or_left}
use Rattle.recipe.specs.Definitions.{holder, owner_of}
use Rattle.recipe.specs.declared.Records.{Records}
use Rattle.recipe.specs.Records.{Recipe, byte, class, is_element, is_mark, is_owned, is_port, is_replaced_by, is_replacement, kind, owned_kind}
use Rattle.recipe.specs.Steps.{StepsTo}
use Rattle.recipe.proofs.Bodies.{owned-kind}
use Rattle.recipe.proofs.Definitions.{Held, in-elements}
use Rattle.recipe.proofs.Going.{Going, Here, class_low, going-hit, going_on, here}
use Rattle.recipe.proofs.Rows.{owner-element, replaced-by-mark, replacement-mark}
use Rattle.recipe.proofs.Steps.{Over, over-step}
use Rattle.shadow.specs.Shadow.{Shadowed}
use Rattle.shadow.proofs.Cells.{row_room}
use Rattle.tree.specs.Faults.{fault₁₀, is_class_fault}
use Rattle.targets.specs.Targeted.{Aimed}
use Rattle.tree.specs.Tree.{Node, definition_below, target}
use Rattle.tree.proofs.Rows.{target-exists}
use Rattle.tree.proofs.Targets.{target-walk, walk-element}

-- no record before the next one is misclassed
abbrev pub Judged : Recipe → Records → Type 0
Judged s a = Over s a × Going s (is_class_fault s) a.at

-- ---- a step to the record at p
module _ {s : Recipe} {t : List ℕ} (A : Aimed s t) {v w : Records} {p : ℕ} (g : Judged s v) (step : StepsTo v (Some p) w) where
  c₀ : Shadowed s t
  c₀ = A.measured.linked.numbered.shadowed

  this : Here s (is_class_fault s) p
  this = let z = over-step g.0 step in here s (is_class_fault s) p c₀.whole (rw z.place at g.1) z.inside

  pub row_here : p + 13 ≤ length t
  row_here = row_room c₀ p this.place

  pub judged-hit : is_class_fault s p ≡ true → Some p ≡ fault₁₀ s
  unfolding fault₁₀
  judged-hit h = sym (going-hit this h)

  pub judged-on : is_class_fault s p ≡ false → Judged s w
  judged-on h = let z = over-step g.0 step in (z.over, rw z.on (going_on this h refl))

  -- a record without an owner
  pub not-owned : {b : Bool} → b ≡ owned_kind (get_or s.bytes p 0) → b ≡ false → is_class_fault s p ≡ false
  unfolding is_class_fault kind
  not-owned b k = rw (owned-kind s p ∙ sym b ∙ k)

  -- one with an owner
  module _ {b : Bool} (q : b ≡ owned_kind (get_or s.bytes p 0)) (is : b ≡ true) where
    owned : is_owned s p ≡ true
    unfolding kind
    owned = owned-kind s p ∙ sym q ∙ is

    is-mark : is_mark s p ≡ true
    is-mark = ⊎_elim (replacement-mark s p) (replaced-by-mark s p) (or_cases (is_replacement s p) (is_replaced_by s p) owned)

    the-target : (x : Node) × (target s p ≡ Some x)
    the-target = target-exists s A.row₈ p this.place (or_left (is_mark s p) (is_port s p) is-mark)

    abbrev x : Node
    x = the-target.0

    target-element : Held s (is_element s) (definition_below s (holder s p) x.path) x.place
    target-element = in-elements s _ x.place (walk-element s (holder s p) x.path x.place (target-walk s p x the-target.1))

    owner-held : Held s (is_element s) (holder s p) (owner_of s p)
    owner-held = in-elements s (holder s p) (owner_of s p) (owner-element s A.measured.linked.row₅ p this.place (or_cases (is_replacement s p) (is_replaced_by s p) owned))

    own_is : {o : ℕ} → o ≡ get_or t (p + 3) 0 → o ≡ owner_of s p
    own_is e = e ∙ A.measured.linked.owners p this.place owned

    aim-is : {o : ℕ} → o ≡ get_or t (p + 10) 0 → o ≡ x.place
    aim-is e = e ∙ A.targets p this.place (or_left (is_mark s p) (is_port s p) is-mark) x the-target.1

    -- both class bytes are in the recipe
    pub own-low : {o : ℕ} → o ≡ get_or t (p + 3) 0 → o + 1 + s.width < length s.bytes
    own-low e = rw (own_is e) (class_low s (owner_of s p) owner-held.placed owner-held.passes)

    pub aim-low : {o : ℕ} → o ≡ get_or t (p + 10) 0 → o + 1 + s.width < length s.bytes
    aim-low e = rw (aim-is e) (class_low s x.place target-element.placed target-element.passes)

    -- and to compare them is the test
    pub misclassed : {o u a b : ℕ} → o ≡ get_or t (p + 3) 0 → u ≡ get_or t (p + 10) 0 → a ≡ get_or s.bytes (o + 1 + s.width) 0 → b ≡ get_or s.bytes (u + 1 + s.width) 0
        → is_class_fault s p ≡ not (eqb a b)
    unfolding is_class_fault class byte
    misclassed e f y z = rw (owned, the-target.1, y, z, own_is e, aim-is f)
