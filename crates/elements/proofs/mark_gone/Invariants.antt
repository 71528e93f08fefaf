-- `elements::mark_gone` meets its contract: the elements with numbers below e are marked.
-- Assumes nothing.
use mathlib.Core.Bool.{cond}
use Rattle.recipe.specs.Records.{recipe}
use Rattle.tree.specs.Tree.{tree_elements}
use Rattle.elements.specs.Listing.{Only}
use Rattle.marks.specs.Marks.{is_gone}
use Rattle.elements.proofs.Elements.{ColumnFilled}
use Rattle.elements.proofs.mark_gone.Given as goal

abbrev pub invariant-loop-e : goal.invariant-loop-e
invariant-loop-e l =
    let s = recipe l.aims.source.now in
    Only 2 l.initial.el l.el × ColumnFilled s (tree_elements s) 2 (λ x. cond (is_gone s x) 1 0) l.e l.el
