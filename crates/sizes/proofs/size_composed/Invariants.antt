-- `sizes::size_composed` meets its contract: the survivors are counted, and the longest flat name is kept.
-- Assumes nothing.
use Rattle.recipe.specs.Records.{recipe}
use Rattle.composer.specs.Surviving.{survivors_left}
use Rattle.sizes.proofs.Sizing.{Sizing}
use Rattle.sizes.proofs.size_composed.Given as goal

abbrev pub invariant-loop-e : goal.invariant-loop-e
invariant-loop-e l = Sizing (recipe l.c.tree.source.now) l.c.elements.now l.c.size.elems (survivors_left l.e-iterator) l.count l.longest
