-- `flat_names::fill_rows` meets its contract: the invariant: the rows of the first i instances.
-- Assumes nothing.
use Rattle.recipe.specs.Records.{recipe}
use Rattle.flat_names.proofs.Filling.{Rowed}
use Rattle.flat_names.proofs.fill_rows.Given as goal

abbrev pub invariant-loop-i : goal.invariant-loop-i
invariant-loop-i l = Rowed (recipe l.s) l.initial.pre l.initial.len l.pre l.len l.n l.i
