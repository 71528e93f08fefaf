-- `Linker::link_records` meets its contract: the invariant: the cells 3 to 5 of the records passed are filled, and none of these is undeclared.
-- Assumes nothing.
use mathlib.Core.List.{[], ◌∷◌}
use Rattle.recipe.specs.Reading.{is_undeclared}
use Rattle.recipe.proofs.Going.{Going}
use Rattle.recipe.proofs.Steps.{Over}
use Rattle.shadow.proofs.Cells.{Walking, Filling}
use Rattle.record_index.specs.Indexed.{recipe_of}
use Rattle.links.proofs.Targets.{link_cell}
use Rattle.links.proofs.Linker.link_records.Given as goal

abbrev pub invariant-loop-p : goal.invariant-loop-p
invariant-loop-p l =
    Over (recipe_of l.self.index) l.p-iterator
    × (Walking (recipe_of l.self.index) (5 ∷ 4 ∷ 3 ∷ []) l.initial.t l.t l.p-iterator.at
    × (Filling (recipe_of l.self.index) (5 ∷ 4 ∷ 3 ∷ []) (link_cell (recipe_of l.self.index)) l.initial.t l.t l.p-iterator.at × Going (recipe_of l.self.index) (is_undeclared (recipe_of l.self.index)) l.p-iterator.at))
