-- `composer::write_table` meets its contract: with the records of the survivors that are left, what is written is the whole table.
-- Assumes nothing.
use Rattle.recipe.specs.Records.{recipe}
use Rattle.composer.specs.Surviving.{survivors_left}
use Rattle.composer.proofs.Room.{Flattening}
use Rattle.composer.proofs.write_table.Given as goal

abbrev pub invariant-loop-e : goal.invariant-loop-e
invariant-loop-e l = Flattening (recipe l.from.fates.source.now) l.from.fates.elements.now l.from.fates.elems l.initial.out l.out (survivors_left l.e-iterator) l.p
