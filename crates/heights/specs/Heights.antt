-- Heights of definitions, in cell 6 of their records, as they are settled depth first: 0 is a definition not seen yet, 65535 one in progress.
-- Assumes nothing.
use Rattle.std.specs.Prelude.{◌≡◌, Bool, true, ◌&&◌, List, [], ◌∷◌, ℕ, ◌+◌, ◌≤◌, ◌<◌, length, get_or, ltb, eqb, None}
use Rattle.names.specs.Lists.{In, keep}
use Rattle.recipe.specs.Records.{Recipe}
use Rattle.recipe.specs.Definitions.{definitions, submodels, model_of}
use Rattle.recipe.specs.Reaching.{Reach}
use Rattle.recipe.specs.Reading.{fault₆}
use Rattle.shadow.specs.Shadow.{Kept}
use Rattle.shadow.specs.Columns.{Linked}
use Rattle.heights.specs.declared.Progress.{Progress}
use Rattle.heights.specs.declared.Progress.TheVariants.{Unseen, InProgress, Settled}

abbrev pub height_of : List ℕ → ℕ → ℕ
height_of t d = get_or t (d + 6) 0

abbrev pub is_unseen : ℕ → Bool
is_unseen h = eqb h 0

abbrev pub is_settled : ℕ → Bool
is_settled h = ltb 0 h && ltb h 65535

-- how far a definition of height h is
abbrev pub IsProgress : ℕ → Progress → Type 0
IsProgress h Unseen = h ≡ 0
IsProgress h InProgress = h ≡ 65535
IsProgress h (Settled k) = (k ≡ h) × (is_settled h ≡ true)

-- how many definitions have a height that passes the test
abbrev pub count_of : (ℕ → Bool) → Recipe → List ℕ → ℕ
count_of f s t = length (keep (λ d. f (height_of t d)) (definitions s))

-- the models of the submodels of a settled definition are settled below it, and no height is over the number of settled definitions
pub record Partly (s : Recipe) (t : List ℕ) : Type 0 where
  pub falls : (d m : ℕ) → is_settled (height_of t d) ≡ true → In m (submodels s d) → (is_settled (height_of t (model_of s m)) ≡ true) × (height_of t (model_of s m) < height_of t d)
  pub low : (d : ℕ) → In d (definitions s) → is_settled (height_of t d) ≡ true → height_of t d ≤ count_of is_settled s t

-- only heights are written: those seen stay as they are, and nothing new is in progress
pub record HeightsAdded (s : Recipe) (t₀ t : List ℕ) : Type 0 where
  pub kept : Kept s (6 ∷ []) t₀ t
  pub same : (x : ℕ) → In x (definitions s) → 1 ≤ height_of t₀ x → height_of t x ≡ height_of t₀ x
  pub busy : (x : ℕ) → In x (definitions s) → height_of t x ≡ 65535 → height_of t₀ x ≡ 65535

-- what settling d asks: each definition in progress reaches it
pub record SettleFromRequires (s : Recipe) (t : List ℕ) (d : ℕ) : Type 0 where
  pub linked : Linked s t
  pub partly : Partly s t
  pub definition : In d (definitions s)
  pub path : (x : ℕ) → In x (definitions s) → height_of t x ≡ 65535 → Reach s x d

-- d is settled besides what was, at height h
pub record Grows (s : Recipe) (t₀ t : List ℕ) (d h : ℕ) : Type 0 where
  pub partly : Partly s t
  pub grown : HeightsAdded s t₀ t
  pub own : is_settled (height_of t d) ≡ true
  pub height : h ≡ height_of t d

-- row 6 applies
abbrev pub IsCyclic : Recipe → Type 0
IsCyclic s = fault₆ s ≡ None → ⊥
