-- `elements::list_elements` meets its contract: the elements of the records before the next one are in the table.
-- Assumes nothing.
use mathlib.Core.Bool.{false}
use Rattle.recipe.specs.Records.{recipe}
use Rattle.elements.specs.Listing.{Listed}
use Rattle.marks.proofs.Passing.{Passing}
use Rattle.elements.proofs.list_elements.Given as goal

abbrev pub invariant-loop-p : goal.invariant-loop-p
invariant-loop-p l = Passing (recipe l.tree.source.now) (λ q. false) (λ D. Listed (recipe l.tree.source.now) D l.el) l.p-iterator
