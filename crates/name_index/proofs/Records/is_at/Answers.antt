-- `Records::is_at` meets its contract: the order of entries says what is the same.
-- Assumes nothing.
use mathlib.Core.Path.{ap, ◌∙◌}
use mathlib.Core.List.{◌∷◌}
use Rattle.std.specs.Ordering.{is_eq}
use Rattle.names.proofs.Orders.{cmp-same}
use Rattle.name_index.specs.Positions.{total_entry}
use Rattle.name_index.proofs.Records.is_at.Goals as goal

pub returns : goal.returns
returns c = c.is_eq.ensures ∙ (ap is_eq c.order_at.ensures ∙ cmp-same (total_entry c.args.self.now c.args.p) (c.args.key ∷ c.args.name.now))
