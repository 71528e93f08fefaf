-- `Records::compare` meets its contract: the keys decide, or else the names.
-- Assumes nothing.
use mathlib.Core.Path.{ap, ◌∙◌}
use Rattle.std.specs.Ordering.{nat_cmp}
use Rattle.std.specs.Cmp.Lexicographic.{slice_cmp}
use Rattle.name_index.specs.Positions.{total_entry}
use Rattle.name_index.proofs.Hashing.{order-name}
use Rattle.name_index.proofs.Positions.{key-first, stands-key, stands-name}
use Rattle.name_index.proofs.Records.compare.Goals as goal

pub returns-then-k-m : goal.returns-then-k-m
returns-then-k-m c =
    let r = c.args.self.now in
    stands-key (total_entry r) _ _ (key-first r c.args.p c.key-k.ensures) (key-first r c.args.q c.key-m.ensures) c.if-k-m.true c.cmp.ensures

pub returns : goal.returns
returns c =
    let r = c.args.self.now in
    stands-name (total_entry r) _ _
    (c.compare.ensures ∙ (order-name _ c.name.ensures c.key-k.ensures (c.if-k-m.false ∙ c.key-m.ensures) ∙ ap (slice_cmp nat_cmp (total_entry r c.args.p)) c.name-2.ensures))
    c.cmp-2.ensures c.then.ensures
