-- `NameIndex::find` meets its contract: from what stands at the place of the name.
-- Assumes nothing.
use mathlib.Core.Path.{sym, ◌∙◌}
use mathlib.Core.List.{◌∷◌}
use borrow.Author.Rules.{rules}
use Rattle.names.specs.Order.{before}
use Rattle.std.proofs.lemmas.List.Sorted.{IsPartitionPoint-from_clause}
use Rattle.name_index.specs.Positions.{total_entry}
use Rattle.name_index.proofs.Finds.{is-parted, point, found-here, other-here, none-here}
use Rattle.name_index.proofs.NameIndex.find.Goals as goal

pub returns-then-is_at : goal.returns-then-is_at
returns-then-is_at c =
    let i = c.args.self.now in
    let f = c.args.key ∷ c.args.name.now in
    let parts = IsPartitionPoint-from_clause (λ p. before (total_entry i.records p) f) i.order.now _ c.partition_point-at.ensures.partitioned (is-parted i.records i.order.now i.sorted f) (λ a x g k. search rules) in
    found-here i.records i.order.now i.sorted f _ (point i.records i.order.now i.sorted f _ c.partition_point-at.ensures.bound parts) c.if-at-self.true (sym c.is_at.ensures ∙ c.if-is_at.true)

pub returns-else-is_at : goal.returns-else-is_at
returns-else-is_at c =
    let i = c.args.self.now in
    let f = c.args.key ∷ c.args.name.now in
    let parts = IsPartitionPoint-from_clause (λ p. before (total_entry i.records p) f) i.order.now _ c.partition_point-at.ensures.partitioned (is-parted i.records i.order.now i.sorted f) (λ a x g k. search rules) in
    other-here i.records i.order.now i.sorted f _ (point i.records i.order.now i.sorted f _ c.partition_point-at.ensures.bound parts) c.if-at-self.true (sym c.is_at.ensures ∙ c.if-is_at.false)

pub returns-else-at-self : goal.returns-else-at-self
returns-else-at-self c =
    let i = c.args.self.now in
    let f = c.args.key ∷ c.args.name.now in
    let parts = IsPartitionPoint-from_clause (λ p. before (total_entry i.records p) f) i.order.now _ c.partition_point-at.ensures.partitioned (is-parted i.records i.order.now i.sorted f) (λ a x g k. search rules) in
    none-here i.records i.order.now i.sorted f _ (point i.records i.order.now i.sorted f _ c.partition_point-at.ensures.bound parts) c.if-at-self.false
