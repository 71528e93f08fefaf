-- `Records::is_twin` meets its contract: the key and the name of a position are its entry.
-- Assumes nothing.
use mathlib.Core.Path.{ap, ◌∙◌}
use mathlib.Core.List.{◌∷◌}
use Prim.Native.Nat.{ℕ}
use Rattle.names.specs.Lists.{same}
use Rattle.name_index.specs.Positions.{total_entry}
use Rattle.name_index.proofs.Records.is_twin.Goals as goal

pub returns : goal.returns
returns c = c.is_at.ensures ∙ ap (same (total_entry c.args.self.now c.args.q)) (ap (λ (k : ℕ). k ∷ c.name.result.now) c.key.ensures ∙ c.name.ensures)
