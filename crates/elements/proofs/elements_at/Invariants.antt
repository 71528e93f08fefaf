-- `elements::elements_at` meets its contract: the instances before the next one have the element in the table.
-- Assumes nothing.
use Rattle.recipe.specs.Records.{recipe}
use Rattle.elements.specs.Listing.{Listed}
use Rattle.marks.proofs.Following.{Following}
use Rattle.elements.proofs.elements_at.Given as goal

abbrev pub invariant-loop-i : goal.invariant-loop-i
invariant-loop-i l = Following (recipe l.tree.source.now) l.tree.instances.now l.p (λ D. Listed (recipe l.tree.source.now) D l.el) l.i-iterator
