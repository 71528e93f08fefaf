-- `Records::order_at` meets its contract: the keys decide, or else the names.
-- Assumes nothing.
use mathlib.Core.Path.{◌∙◌}
use Rattle.name_index.proofs.Hashing.{order-key, order-name}
use Rattle.name_index.proofs.Positions.{key-first}
use Rattle.name_index.proofs.Records.order_at.Goals as goal

pub returns-then-k-key : goal.returns-then-k-key
returns-then-k-key c = order-key _ (key-first c.args.self.now c.args.p c.key-k.ensures) c.if-k-key.true c.cmp.ensures

pub returns : goal.returns
returns c = c.compare.ensures ∙ order-name _ c.name.ensures c.key-k.ensures c.if-k-key.false
