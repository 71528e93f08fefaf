-- `recipe::first_unreadable` meets its contract: the search stops where reading stops.
-- Assumes nothing.
use Rattle.std.proofs.Common.{rules}
use Rattle.recipe.specs.Records.{recipe}
use Rattle.recipe.proofs.Unread.{unread-first}
use Rattle.recipe.proofs.first_unreadable.Goals as goal

pub returns : goal.returns
returns c = unread-first (recipe c.args.s.now) _ _ (λ x q k. search rules) (λ x q k. search rules) _ _ c.of.ensures c.find.ensures.ran
