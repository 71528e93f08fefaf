-- `Records::sort_run` meets its contract: the halves are in order, and merged or in order as they stand.
-- Assumes nothing.
use mathlib.Core.Path.{sym, ◌∙◌}
use Prim.Native.Nat.{◌/◌}
use native.Mathlib.Omega.{arith}
use borrow.Author.Rules.{rules}
use lib.ListN.{length}
use Rattle.std.proofs.lemmas.Fn.{always_returns_same}
use Rattle.name_index.specs.Positions.{total_entry, stands}
use Rattle.name_index.proofs.Sorted.{stands-order}
use Rattle.name_index.proofs.Merging.{joined-moved, joined-sorted, merged-halves-moved, merged-halves-sorted}
use Rattle.name_index.proofs.Records.+sort_run.Goals as goal

pub returns-then-n-spare-clause-sorted : goal.returns-then-n-spare-clause-sorted
returns-then-n-spare-clause-sorted t c =
    let name = total_entry c.args.self.now in c.sort_unstable_by.ensures.sorted (stands name) (stands-order name) (always_returns_same _ _ _ (λ a x f k. search rules))

pub returns-then-is_lt-clause-moved : goal.returns-then-is_lt-clause-moved
returns-then-is_lt-clause-moved t c =
    merged-halves-moved (length c.args.run.now / 2) c.args.run.now c.sort_run.new.run c.sort_run-2.new.run (omega arith) c.sort_run.ensures.moved c.sort_run-2.ensures.moved
    (stands (total_entry c.args.self.now))
    c.merge_halves.ensures

pub returns-then-is_lt-clause-sorted : goal.returns-then-is_lt-clause-sorted
returns-then-is_lt-clause-sorted t c =
    merged-halves-sorted (length c.args.run.now / 2) c.args.run.now c.sort_run.new.run c.sort_run-2.new.run (omega arith) c.sort_run.ensures.moved c.sort_run-2.ensures.moved
    (total_entry c.args.self.now)
    c.sort_run.ensures.sorted
    c.sort_run-2.ensures.sorted
    c.merge_halves.ensures

pub returns-else-is_lt-clause-moved : goal.returns-else-is_lt-clause-moved
returns-else-is_lt-clause-moved t c = joined-moved (length c.args.run.now / 2) c.args.run.now c.sort_run.new.run c.sort_run-2.new.run (omega arith) c.sort_run.ensures.moved c.sort_run-2.ensures.moved

pub returns-else-is_lt-clause-sorted : goal.returns-else-is_lt-clause-sorted
returns-else-is_lt-clause-sorted t c =
    joined-sorted (length c.args.run.now / 2) c.args.run.now c.sort_run.new.run c.sort_run-2.new.run (omega arith) c.sort_run.ensures.moved c.sort_run-2.ensures.moved
    (total_entry c.args.self.now)
    c.sort_run.ensures.sorted
    c.sort_run-2.ensures.sorted
    (sym c.compare.ensures ∙ (sym c.is_lt.ensures ∙ c.if-is_lt.false))
