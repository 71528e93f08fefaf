-- `NameIndex::first_repeat` meets its contract: the invariant: the least of the repeats among the pairs passed, if there is one.
-- Assumes nothing.
use mathlib.Core.Path.{sym, ap, ◌∙◌}
use native.Mathlib.Omega.{arith}
use borrow.Author.Rules.{rules}
use borrow.Author.Tests.{tests}
use Rattle.std.specs.Slice.Iter.{windows_size, windows_rest}
use Rattle.std.proofs.lemmas.Option.{MatchOption-at_none, MatchOption-at_some}
use Rattle.name_index.proofs.Finds.{pair, pair-low, earlier, to-start, to-twin, to-other, to-pass, to-end}
use Rattle.name_index.proofs.NameIndex.first_repeat.Goals as goal
use Rattle.name_index.proofs.NameIndex.first_repeat.Goals.{else-is_none_or-via-then-is_none_or+else-is_twin, else-is_none_or-via-else-is_none_or}

pub loop-pair-init : goal.loop-pair-init
loop-pair-init c = let i = c.args.self.now in
    to-start i.records i.order.now i.sorted (ap windows_size c.into_iter-pair-iterator.ensures.into_iter_gives ∙ c.windows-pair-items.ensures.size) (ap windows_rest c.into_iter-pair-iterator.ensures.into_iter_gives ∙ c.windows-pair-items.ensures.rest)

pub loop-pair-preserved-then-is_twin : goal.loop-pair-preserved-then-is_twin
loop-pair-preserved-then-is_twin c =
    let i = c.args.self.now in
    let w = c.loop-pair.invariant in
    let m = pair i.records i.order.now i.sorted _ c.in-Some.is c.next.ensures.steps w.to in
    let d = earlier i.records i.order.now i.sorted c.loop-pair.first (pair-low i.records i.order.now i.sorted w m)
    (λ e. let z = MatchOption-at_none _ _ e c.is_none_or.ensures in search (rules, tests))
    (λ x e. let z = MatchOption-at_some _ _ x e c.is_none_or.ensures in search (rules, tests)) in
    to-twin i.records i.order.now i.sorted w m (sym d ∙ c.if-is_none_or.true) c.is_twin.ensures c.if-is_twin.true

pub loop-pair-preserved : goal.loop-pair-preserved
loop-pair-preserved c =
    let i = c.args.self.now in
    let w = c.loop-pair.invariant in
    let m = pair i.records i.order.now i.sorted _ c.in-Some.is c.next.ensures.steps w.to in
    let d = earlier i.records i.order.now i.sorted c.loop-pair.first (pair-low i.records i.order.now i.sorted w m)
    (λ e. let z = MatchOption-at_none _ _ e c.is_none_or.ensures in search (rules, tests))
    (λ x e. let z = MatchOption-at_some _ _ x e c.is_none_or.ensures in search (rules, tests)) in
    elim c.else-is_none_or.branch [
      | else-is_none_or-via-then-is_none_or+else-is_twin v ↦ to-other i.records i.order.now i.sorted w m v.is_twin.ensures v.if-is_twin.false
      | else-is_none_or-via-else-is_none_or v ↦ to-pass i.records i.order.now i.sorted w m (sym d ∙ v.if-is_none_or.false)
    ]

pub returns : goal.returns
returns c = let i = c.args.self.now in to-end i.records i.order.now i.sorted c.loop-pair.invariant (omega (arith, c.in-None.ensures.steps.1.0, c.loop-pair.invariant.to.size))
