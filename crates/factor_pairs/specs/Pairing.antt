-- What the pass of row 19 knows on its way: of the kind 8 records before p, which submodel has which.
-- Assumes nothing.
use Rattle.std.specs.Prelude.{ℕ, ◌+◌, ◌<◌, ◌≡◌, true, false, List, get_or}
use Rattle.names.specs.Lists.{In}
use Rattle.recipe.specs.Records.{Recipe, kind, is_submodel, places}
use Rattle.recipe.specs.Definitions.{scales}

-- the kind 8 at f, before p, gives the submodel m its factors
pub record Gives (s : Recipe) (p m f : ℕ) : Type 0 where
  pub placed : In f (places s)
  pub earlier : f < p
  pub is : scales s m f ≡ true

-- cell 5 of each submodel has such a one, or 0 where there is none; of all other records it is as it was
pub record PairedTo (s : Recipe) (t₀ t : List ℕ) (p : ℕ) : Type 0 where
  pub others : (q : ℕ) → In q (places s) → (kind s q ≡ 4 → ⊥) → get_or t (q + 5) 0 ≡ get_or t₀ (q + 5) 0
  pub free : (m : ℕ) → In m (places s) → is_submodel s m ≡ true → get_or t (m + 5) 0 ≡ 0 → (f : ℕ) → In f (places s) → f < p → scales s m f ≡ false
  pub given : (m : ℕ) → In m (places s) → is_submodel s m ≡ true → (get_or t (m + 5) 0 ≡ 0 → ⊥) → Gives s p m (get_or t (m + 5) 0)
