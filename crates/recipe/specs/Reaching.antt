-- 01's "Tree and targets": which definition reaches which, as a test and as a plain relation, which `proofs/Reaching.antt` shows to be one.
-- Assumes nothing.
use Rattle.std.specs.Prelude.{ℕ, zero, suc, ◌≡◌, Bool, false, ◌||◌, length, eqb}
use Rattle.names.specs.Lists.{In, any}
use Rattle.recipe.specs.Records.{Recipe}
use Rattle.recipe.specs.Definitions.{definitions, submodels, model_of}

-- "A definition reaches the definition of each model named in its submodel records, and every definition reached from there":
-- d reaches e by at most n submodel records
unfoldable pub reaches_in : ℕ → Recipe → ℕ → ℕ → Bool
reaches_in zero s d e = false
reaches_in (suc n) s d e = any (λ m. eqb (model_of s m) e || reaches_in n s (model_of s m) e) (submodels s d)

-- d reaches e: by as many submodel records as there are definitions, if at all
unfoldable pub reaches : Recipe → ℕ → ℕ → Bool
reaches s d e = reaches_in (length (definitions s)) s d e

-- the same without a count: some chain of submodel records leads from d to e
pub data Reach (s : Recipe) : ℕ → ℕ → Type 0 where
  direct : {d e : ℕ} (m : ℕ) → In m (submodels s d) → model_of s m ≡ e → Reach s d e
  onward : {d e : ℕ} (m : ℕ) → In m (submodels s d) → Reach s (model_of s m) e → Reach s d e
