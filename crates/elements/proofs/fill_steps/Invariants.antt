-- `elements::fill_steps` meets its contract: the steps of the records before the next one are in the table.
-- Assumes nothing.
use mathlib.Core.Bool.{false}
use Rattle.recipe.specs.Records.{recipe}
use Rattle.elements.specs.Listing.{Only}
use Rattle.elements.specs.Steps.{Went}
use Rattle.marks.proofs.Passing.{Passing}
use Rattle.elements.proofs.fill_steps.Given as goal

abbrev pub invariant-loop-p : goal.invariant-loop-p
invariant-loop-p l = Passing (recipe l.tree.source.now) (λ q. false) (λ D. Went (recipe l.tree.source.now) D l.el) l.p-iterator × Only 3 l.initial.el l.el
