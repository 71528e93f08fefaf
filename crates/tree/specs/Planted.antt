-- The tree as tables: the instances as rows of six numbers, in tree order, and the cells of the shadow that the tree fills.
--
--      of an instance: 0 its definition, 1 its depth, 2 the number of its first element, 3 its submodel record, 4 the number of the
--      instance around it, 5 one more than the number of the next instance of the same definition, or 0
--
-- Assumes nothing.
use Rattle.std.specs.Prelude.{◌*◌, ◌+◌, ◌<◌, ◌≤◌, suc, ℕ, eqb, drop, get_or, length, cond, List, [], ◌++◌, ◌∷◌, ◌≡◌, None}
use Rattle.names.specs.Lists.{In}
use Rattle.recipe.specs.Definitions.{definitions, holder, main, submodels}
use Rattle.recipe.specs.Records.{Recipe, places}
use Rattle.shadow.specs.Shadow.{Cell, Kept, Shadowed}
use Rattle.shadow.specs.Columns.{Measured}
use Rattle.tree.specs.Faults.{fault₇}
use Rattle.tree.specs.Numbers.{ahead, first_at}
use Rattle.tree.specs.Tree.{definition_at, instances}

-- one more than the number of the first instance of definition d among those at the paths, the first of which has the number i; or 0
abbrev pub instance_from : Recipe → ℕ → ℕ → List (List ℕ) → ℕ
instance_from s d i [] = 0
instance_from s d i (path ∷ paths) = cond (eqb (definition_at s path) d) (suc i) (instance_from s d (suc i) paths)

-- the rows of the n instances
pub record InstanceRows (s : Recipe) (inst : List ℕ) (n : ℕ) : Type 0 where
  pub count : n ≡ length (instances s)
  pub few : n ≤ 64
  pub room : 6 * n ≤ length inst
  pub model : (i : ℕ) → i < n → get_or inst (6 * i + 0) 0 ≡ definition_at s (get_or (instances s) i [])
  pub depth : (i : ℕ) → i < n → get_or inst (6 * i + 1) 0 ≡ length (get_or (instances s) i [])
  pub start : (i : ℕ) → i < n → get_or inst (6 * i + 2) 0 ≡ first_at s (get_or (instances s) i [])
  pub below : (i : ℕ) → i < n → 0 < i → get_or inst (6 * i + 4) 0 < i
  pub above : (i : ℕ) → i < n → 0 < i → get_or (instances s) i [] ≡ get_or (instances s) (get_or inst (6 * i + 4) 0) [] ++ (get_or inst (6 * i + 3) 0 ∷ [])
  pub same : (i : ℕ) → i < n
      → get_or inst (6 * i + 5) 0 ≡ instance_from s (definition_at s (get_or (instances s) i [])) (suc i) (drop (suc i) (instances s))

-- what threading the instances of each definition requires: their definitions, and that no definition has a first one yet
pub record ThreadRequires (s : Recipe) (t inst : List ℕ) (n : ℕ) : Type 0 where
  pub shadowed : Shadowed s t
  pub some : In main (definitions s)
  pub count : n ≡ length (instances s)
  pub few : n ≤ 64
  pub room : 6 * n ≤ length inst
  pub model : (i : ℕ) → i < n → get_or inst (6 * i + 0) 0 ≡ definition_at s (get_or (instances s) i [])
  pub clear : Cell (places s) 8 (λ d. 0) t

-- they are threaded: the last column of each row and cell 8 of each definition; all else is kept
pub record Threaded (s : Recipe) (t₀ inst₀ t inst : List ℕ) (n : ℕ) : Type 0 where
  pub kept : Kept s (8 ∷ []) t₀ t
  pub long : length inst ≡ length inst₀
  pub others : (i k : ℕ) → k < 5 → get_or inst (6 * i + k) 0 ≡ get_or inst₀ (6 * i + k) 0
  pub same : (i : ℕ) → i < n
      → get_or inst (6 * i + 5) 0 ≡ instance_from s (definition_at s (get_or (instances s) i [])) (suc i) (drop (suc i) (instances s))
  pub firsts : Cell (definitions s) 8 (λ d. instance_from s d 0 (instances s)) t

-- rows 1 to 7 and 19 do not apply: the instances, the elements before each submodel's subtree, and each definition's first instance
pub record Planted (s : Recipe) (t inst : List ℕ) (n : ℕ) : Type 0 where
  pub measured : Measured s t
  pub row₇ : fault₇ s ≡ None
  pub rows : InstanceRows s inst n
  pub offsets : (path : List ℕ) → In path (instances s) → (m : ℕ) → In m (submodels s (definition_at s path)) → get_or t (m + 7) 0 ≡ ahead s (holder s m) m
  pub firsts : Cell (definitions s) 8 (λ d. instance_from s d 0 (instances s)) t
