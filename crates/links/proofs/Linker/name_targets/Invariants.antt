-- `Linker::name_targets` meets its contract: the invariant: cell 5 of the records passed is filled.
-- Assumes nothing.
use mathlib.Core.List.{[], ◌∷◌}
use Rattle.recipe.proofs.Steps.{Over}
use Rattle.shadow.proofs.Cells.{Walking, Filling}
use Rattle.record_index.specs.Indexed.{recipe_of}
use Rattle.links.proofs.Targets.{name_cell}
use Rattle.links.proofs.Linker.name_targets.Given as goal

abbrev pub invariant-loop-p : goal.invariant-loop-p
invariant-loop-p l =
    Over (recipe_of l.self.index) l.p-iterator
    × (Walking (recipe_of l.self.index) (5 ∷ []) l.initial.t l.t l.p-iterator.at × Filling (recipe_of l.self.index) (5 ∷ []) (name_cell (recipe_of l.self.index) l.initial.t) l.initial.t l.t l.p-iterator.at)
