-- What the tree walk counts and writes: row 7's counts, the rows of the instances, and the elements before each submodel's subtree.
-- Assumes nothing.
use Rattle.std.specs.Prelude.{◌*◌, ◌+◌, ◌-◌, ◌<◌, ◌≤◌, suc, zero, ℕ, ltb, get_or, length, Bool, ◌||◌, true, List, [], ◌++◌, ◌∷◌, ◌≡◌}
use Rattle.std.proofs.lemmas.List.Edits.{sets}
use Rattle.names.specs.Lists.{In, any}
use Rattle.recipe.specs.Definitions.{definitions, elements, holder, model_of, submodels}
use Rattle.recipe.specs.Records.{Recipe}
use Rattle.shadow.specs.Shadow.{Kept}
use Rattle.shadow.specs.Columns.{Linked}
use Rattle.tree.specs.Faults.{most_elements, most_instances}
use Rattle.tree.specs.Numbers.{ahead, total, weight_in}
use Rattle.tree.specs.Tree.{Submodels, definition_below, most_depth}

-- the instances of the tree below an instance of d, with it, looked at n deep
unfoldable pub insts_in : ℕ → Recipe → ℕ → ℕ
insts_in zero s d = 1
insts_in (suc n) s d = 1 + total (λ m. insts_in n s (model_of s m)) (submodels s d)

-- there are instances more than n deep
unfoldable pub deep_in : ℕ → Recipe → ℕ → Bool
deep_in zero s d = any (λ m. true) (submodels s d)
deep_in (suc n) s d = any (λ m. deep_in n s (model_of s m)) (submodels s d)

-- with i instances and e elements before it, too much
unfoldable pub over : ℕ → Recipe → ℕ → ℕ → ℕ → Bool
over n s d i e = ltb most_instances (i + insts_in n s d) || ltb most_elements (e + weight_in n s d) || deep_in n s d

-- the rows of the subtrees of the submodels, the first element's number e, the first row's number i: f gives one's rows, w its elements, c its instances
abbrev pub rows_over : (ℕ → ℕ → ℕ → List ℕ) → (ℕ → ℕ) → (ℕ → ℕ) → ℕ → ℕ → List ℕ → List ℕ
rows_over f w c e i [] = []
rows_over f w c e i (m ∷ ms) = f m e i ++ rows_over f w c (e + w m) (i + c m) ms

-- an instance's row, its number i, is its definition, its depth, the number of its first element, the place m of its submodel record, the
-- number u of the instance around it, and a 0 where the next instance of its definition will stand; its subtree's rows follow
unfoldable pub rows_in : ℕ → Recipe → ℕ → ℕ → ℕ → ℕ → ℕ → ℕ → List ℕ
rows_in zero s d k e i m u = d ∷ k ∷ e ∷ m ∷ u ∷ 0 ∷ []
rows_in (suc n) s d k e i m u =
    d ∷ k ∷ e ∷ m ∷ u ∷ 0
    ∷ rows_over (λ q x j. rows_in n s (model_of s q) (suc k) x j q i) (λ q. weight_in n s (model_of s q)) (λ q. insts_in n s (model_of s q))
    (e + length (elements s d)) (suc i) (submodels s d)

-- the shadow has the number of elements before the submodel's subtree
abbrev pub OffsetRight : Recipe → List ℕ → ℕ → Type 0
OffsetRight s t m = get_or t (m + 7) 0 ≡ ahead s (holder s m) m

-- it has the numbers of all submodels below d, however deep
abbrev pub OffsetsKnown : Recipe → List ℕ → ℕ → Type 0
OffsetsKnown s t d = (path : List ℕ) → Submodels s d path → (m : ℕ) → In m (submodels s (definition_below s d path)) → OffsetRight s t m

-- it has those of all submodels below, n deep
unfoldable pub Covered : ℕ → Recipe → ℕ → List ℕ → Type 0
Covered zero s d t = Unit {0}
Covered (suc n) s d t = (m : ℕ) → In m (submodels s d) → OffsetRight s t m × Covered n s (model_of s m) t

-- what a walk below the instance of row i requires: its row is written, and itself it is within the limits
pub record WalkRequires (s : Recipe) (t inst : List ℕ) (i e n : ℕ) : Type 0 where
  pub linked : Linked s t
  pub definition : In (get_or inst (6 * i + 0) 0) (definitions s)
  pub few : i < most_instances
  pub light : e + length (elements s (get_or inst (6 * i + 0) 0)) ≤ most_elements
  pub flat : n ≤ most_depth
  pub room : 6 * most_instances ≤ length inst

-- what one that goes through has written: the rows behind that of instance i, of definition d, and the offsets below
pub record Grown (s : Recipe) (n d i e : ℕ) (t inst t' inst' : List ℕ) (j x : ℕ) : Type 0 where
  pub insts : j ≡ i + insts_in n s d
  pub elems : x ≡ e + weight_in n s d
  pub rows : (inst₀ : List ℕ) (m u : ℕ) → inst ≡ sets inst₀ (6 * i) (d ∷ (most_depth - n) ∷ e ∷ m ∷ u ∷ 0 ∷ [])
      → inst' ≡ sets inst₀ (6 * i) (rows_in n s d (most_depth - n) e i m u)
  pub keeps : (q : ℕ) → OffsetRight s t q → OffsetRight s t' q
  pub covers : Covered n s d t'

-- what every walk leaves: the other cells, and a table of rows as long
pub record WalkKeeps (s : Recipe) (t inst t' inst' : List ℕ) : Type 0 where
  pub kept : Kept s (7 ∷ []) t t'
  pub long : length inst' ≡ length inst
