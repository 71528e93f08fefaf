-- `composer::flatten_composed` meets its contract: the room decides, and the table is written where it is enough.
-- Assumes nothing.
use Rattle.recipe.specs.Records.{recipe}
use mathlib.Core.Path.{◌∙◌}
use native.Mathlib.Omega.{arith}
use Rattle.composer.proofs.Handed.{bytes-few, narrow}
use Rattle.composer.proofs.Joining.{enough, flattened, room-keeps, room-refuses, table-written}
use Rattle.composer.proofs.Surviving.{counted}
use Rattle.composer.proofs.flatten_composed.Goals as goal

pub record_width-requires : goal.record_width-requires
record_width-requires c = narrow c.args.c.now.composed

pub overflow_mul-bytes : goal.overflow_mul-bytes
overflow_mul-bytes c = omega (arith, bytes-few c.args.c.now.composed (counted c.count_survivors-count.ensures c.of.ensures.0) c.record_width.ensures)

pub returns-then-table-bytes : goal.returns-then-table-bytes
returns-then-table-bytes c =
    let k = counted c.count_survivors-count.ensures c.of.ensures.0 in
    (c.from.ensures ∙ room-refuses (recipe c.args.c.now.tree.source.now) c.requires k c.record_width.ensures c.args.table.now c.if-table-bytes.true, room-keeps (recipe c.args.c.now.tree.source.now) c.requires k c.record_width.ensures c.args.table.now c.if-table-bytes.true)

pub write_all-requires : goal.write_all-requires
write_all-requires c =
    enough (recipe c.args.c.now.tree.source.now) c.requires (counted c.count_survivors-count.ensures c.of.ensures.0) c.record_width.ensures c.args.table.now c.if-table-bytes.false

pub returns : goal.returns
returns c =
    let k = counted c.count_survivors-count.ensures c.of.ensures.0 in
    (flattened (recipe c.args.c.now.tree.source.now) c.requires k c.record_width.ensures c.args.table.now c.if-table-bytes.false, table-written (recipe c.args.c.now.tree.source.now) c.requires k c.record_width.ensures c.args.table.now c.if-table-bytes.false _ c.write_all.ensures)
