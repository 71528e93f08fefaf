-- `Records::comes_before` meets its contract: the order of entries says what comes before.
-- Assumes nothing.
use mathlib.Core.Path.{ap, ◌∙◌}
use mathlib.Core.List.{◌∷◌}
use Rattle.std.specs.Ordering.{is_lt}
use Rattle.names.proofs.Orders.{cmp-before}
use Rattle.name_index.specs.Positions.{total_entry}
use Rattle.name_index.proofs.Records.comes_before.Goals as goal

pub returns : goal.returns
returns c = c.is_lt.ensures ∙ (ap is_lt c.order_at.ensures ∙ cmp-before (total_entry c.args.self.now c.args.p) (c.args.key ∷ c.args.name.now))
