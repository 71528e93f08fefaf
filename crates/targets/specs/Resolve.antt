-- Targets as they are found: what the cells 9 and 10 of the shadow keep, and what resolving a port or mark leaves there.
-- Assumes nothing.
use Rattle.std.specs.Prelude.{◌+◌, ◌<◌, ℕ, get_or, Bool, true, List, [], ◌∷◌, ◌≡◌, Some, is_some}
use Rattle.names.specs.Lists.{In}
use Rattle.recipe.specs.Definitions.{holder}
use Rattle.recipe.specs.Records.{Recipe, is_pointer, places}
use Rattle.shadow.specs.Shadow.{Kept}
use Rattle.shadow.specs.Columns.{Measured}
use Rattle.tree.specs.Numbers.{number_in, reach}
use Rattle.tree.specs.Tree.{Node, target}
use Rattle.tree.specs.Walk.{OffsetsKnown}

-- the elements before the subtree that the port or mark at r names: 0 where it names none
pub record OffsetOf (t : List ℕ) (r f : ℕ) : Type 0 where
  pub small : f < 65536
  pub blank : get_or t (r + 4) 0 ≡ 0 → f ≡ 0
  pub filled : (get_or t (r + 4) 0 ≡ 0 → ⊥) → f ≡ get_or t (get_or t (r + 4) 0 + 7) 0

-- what is kept of r's target: its place, and its number where the offsets are known and it fits
pub record Keeps (s : Recipe) (t : List ℕ) (r place num : ℕ) : Type 0 where
  pub node : Node
  pub there : target s r ≡ Some node
  pub at : place ≡ node.place
  pub counts : OffsetsKnown s t (holder s r) → number_in s (holder s r) node < 65536 → num ≡ number_in s (holder s r) node

-- the cells that are being filled: what they have is right. A target at 0 is none yet: there main stands, never an element.
abbrev pub Memo : Recipe → List ℕ → Type 0
Memo s t = (r : ℕ) → In r (places s) → is_pointer s r ≡ true → (get_or t (r + 10) 0 ≡ 0 → ⊥) → Keeps s t r (get_or t (r + 10) 0) (get_or t (r + 9) 0)

-- what resolving the port or mark at r requires
pub record ResolveRequires (s : Recipe) (t : List ℕ) (r : ℕ) : Type 0 where
  pub measured : Measured s t
  pub memo : Memo s t
  pub place : In r (places s)
  pub sort : is_pointer s r ≡ true

-- what it leaves: all that was kept, and r's target if there is one
pub record Resolved (s : Recipe) (t t' : List ℕ) (r : ℕ) (ok : Bool) : Type 0 where
  pub found : ok ≡ is_some (target s r)
  pub own : ok ≡ true → get_or t' (r + 10) 0 ≡ 0 → ⊥
  pub memo : Memo s t'
  pub stays : (q : ℕ) → In q (places s) → (get_or t (q + 10) 0 ≡ 0 → ⊥) → get_or t' (q + 10) 0 ≡ 0 → ⊥
  pub kept : Kept s (9 ∷ 10 ∷ []) t t'

-- the shadow has the targets' numbers, where the offsets are known and the number fits
abbrev pub TargetNumbers : Recipe → List ℕ → Type 0
TargetNumbers s t = (r : ℕ) → In r (places s) → is_pointer s r ≡ true → OffsetsKnown s t (holder s r) → reach s r < 65536 → get_or t (r + 9) 0 ≡ reach s r
