-- `elements::steps_at` meets its contract: the instances before the next one have their steps in the table.
-- Assumes nothing.
use Rattle.recipe.specs.Records.{recipe}
use Rattle.elements.specs.Listing.{Only}
use Rattle.elements.specs.Steps.{Went}
use Rattle.marks.proofs.Following.{Following}
use Rattle.elements.proofs.steps_at.Given as goal

abbrev pub invariant-loop-i : goal.invariant-loop-i
invariant-loop-i l = Following (recipe l.tree.source.now) l.tree.instances.now l.p (λ D. Went (recipe l.tree.source.now) D l.el) l.i-iterator × Only 3 l.initial.el l.el
