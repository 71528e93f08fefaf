-- `recipe::submodel_offset` meets its contract: of a deletion, and of the others.
-- Assumes nothing.
use mathlib.Core.Path.{sym, ◌∙◌}
use borrow.Author.Tests.{eqb-true}
use Rattle.recipe.proofs.Bodies.{offset-behind}
use Rattle.recipe.proofs.submodel_offset.Goals as goal

pub returns-then-is_deletion : goal.returns-then-is_deletion
returns-then-is_deletion c = let e = eqb-true c.args.k 5 (sym c.is_deletion.ensures ∙ c.if-is_deletion.true) in rw e

pub returns : goal.returns
returns c =
    offset-behind c.args.w c.args.k c.requires (sym c.is_deletion.ensures ∙ c.if-is_deletion.false)
