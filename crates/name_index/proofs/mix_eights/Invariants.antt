-- `name_index::mix_eights` meets its contract: the invariant: what is left to mix from the eight k on.
-- Assumes nothing.
use Rattle.name_index.proofs.Hashing.{Mixing}
use Rattle.name_index.proofs.mix_eights.Given as goal

abbrev pub invariant-loop-eight : goal.invariant-loop-eight
invariant-loop-eight l = Mixing l.f l.eight-index l.h
