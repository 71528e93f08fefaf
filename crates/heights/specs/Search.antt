-- What the search for a definition that reaches itself has met, and how that grows.
-- Assumes nothing.
use Rattle.std.specs.Prelude.{◌≡◌, true, false, ℕ, ◌+◌, ◌/◌, ◌≤◌, ◌<◌, get_or, Option, None, Some}
use Rattle.names.specs.Lists.{In}
use Rattle.recipe.specs.Records.{Recipe}
use Rattle.recipe.specs.Definitions.{submodels, model_of}
use Rattle.heights.specs.declared.Worklist.{Worklist}

-- none is met
abbrev pub IsEmpty : Worklist → Type 0
IsEmpty a = (a.head ≡ 0) × (a.tail ≡ 0)

-- the definition at e is met
abbrev pub IsMarked : Worklist → ℕ → Type 0
IsMarked a e = get_or a.mark (e / 13) false ≡ true

-- besides what was, only such places are queued as P holds of
pub record Grown (P : ℕ → Type 0) (a b : Worklist) : Type 0 where
  pub head : b.head ≡ a.head
  pub more : a.tail ≤ b.tail
  pub keeps : (j : ℕ) → get_or a.mark j false ≡ true → get_or b.mark j false ≡ true
  pub same : (i : ℕ) → i < a.tail → get_or b.queue i 0 ≡ get_or a.queue i 0
  pub new : (i : ℕ) → a.tail ≤ i → i < b.tail → P (get_or b.queue i 0)

-- the next is taken, if one is left
abbrev pub Takes : Worklist → Option ℕ → Worklist → Type 0
Takes a None b = (a.tail ≤ a.head) × (b ≡ a)
Takes a (Some e) b = (a.head < a.tail) × (e ≡ get_or a.queue a.head 0) × (b.head ≡ a.head + 1) × (b.tail ≡ a.tail) × (b.mark ≡ a.mark) × (b.queue ≡ a.queue)

-- e is the model of a submodel of d
abbrev pub ModelBelow : Recipe → ℕ → ℕ → Type 0
ModelBelow s d e = (m : ℕ) × In m (submodels s d) × (model_of s m ≡ e)
