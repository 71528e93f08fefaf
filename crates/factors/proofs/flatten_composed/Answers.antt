-- `factors::flatten_composed` meets its contract: the rooms decide, and both tables are written where they are enough.
-- Assumes nothing.
use Rattle.recipe.specs.Records.{recipe}
use native.Mathlib.Omega.{arith}
use Rattle.composer.proofs.Handed.{bytes-few}
use Rattle.composer.proofs.Surviving.{counted}
use Rattle.factors.proofs.Handed.{entries-few}
use Rattle.factors.proofs.Answers.{both-outcome, enough, entries-short, table-short}
use Rattle.factors.proofs.flatten_composed.Goals as goal

pub overflow_mul-bytes : goal.overflow_mul-bytes
overflow_mul-bytes c = omega (arith, bytes-few c.args.c.now.composed (counted c.count_survivors-count.ensures c.of.ensures.0) c.record_width.ensures)

pub returns-then-table-bytes : goal.returns-then-table-bytes
returns-then-table-bytes c =
    let s = recipe c.args.c.now.tree.source.now in
    table-short s c.args.table.now c.args.entries.now c.requires (counted c.count_survivors-count.ensures c.of.ensures.0) c.count_entries-k.ensures c.record_width.ensures c.if-table-bytes.true c.from.ensures

pub overflow_mul-k : goal.overflow_mul-k
overflow_mul-k c =
    omega (arith, entries-few c.args.c.now.composed c.count_entries-k.ensures c.entry_width.ensures)

pub returns-then-entries-k : goal.returns-then-entries-k
returns-then-entries-k c =
    let s = recipe c.args.c.now.tree.source.now in
    entries-short s c.args.table.now c.args.entries.now c.requires (counted c.count_survivors-count.ensures c.of.ensures.0) c.count_entries-k.ensures c.record_width.ensures c.entry_width.ensures
    c.if-entries-k.true c.from-then-entries-k.ensures

pub write_both-requires : goal.write_both-requires
write_both-requires c =
    let s = recipe c.args.c.now.tree.source.now in
    enough s c.args.table.now c.args.entries.now c.requires (counted c.count_survivors-count.ensures c.of.ensures.0) c.count_entries-k.ensures c.record_width.ensures c.entry_width.ensures
    c.if-table-bytes.false c.if-entries-k.false

pub returns : goal.returns
returns c =
    let s = recipe c.args.c.now.tree.source.now in
    both-outcome s c.args.table.now c.args.entries.now c.requires (counted c.count_survivors-count.ensures c.of.ensures.0) c.count_entries-k.ensures c.record_width.ensures c.entry_width.ensures
    c.if-table-bytes.false c.if-entries-k.false c.write_both.ensures
