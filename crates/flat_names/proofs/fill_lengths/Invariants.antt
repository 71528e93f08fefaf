-- `flat_names::fill_lengths` meets its contract: the invariant: the lengths of the first i instances.
-- Assumes nothing.
use Rattle.recipe.specs.Records.{recipe}
use Rattle.flat_names.proofs.Filling.{Lengthening}
use Rattle.flat_names.proofs.fill_lengths.Given as goal

abbrev pub invariant-loop-i : goal.invariant-loop-i
invariant-loop-i l = Lengthening (recipe l.s) l.len l.n l.i
