-- `bandrolt::Text::print_rows` meets its contract: each record's line behind those before it.
-- Assumes nothing.
use mathlib.Core.Path.{◌∙◌}
use native.Mathlib.Omega.{arith}
use Rattle.std.specs.Slice.Iter.{chunks_exact_rest}
use Rattle.bandrolt.proofs.Rows.{line-room, lines_more, lines_end}
use Rattle.bandrolt.proofs.Text.print_rows.Goals as goal

pub print_row-requires : goal.print_row-requires
print_row-requires c =
    let long = c.in-Some.ensures.steps.1.1 ∙ c.loop-row.invariant.2 in
    record { whole = long; room = line-room c.loop-row.invariant.3 c.in-Some.row.now (chunks_exact_rest c.next.new.self) c.in-Some.ensures.steps.1.0 long }

pub loop-row-preserved : goal.loop-row-preserved
loop-row-preserved c =
    let long = c.in-Some.ensures.steps.1.1 ∙ c.loop-row.invariant.2 in
    let size = c.in-Some.ensures.steps.0 ∙ c.loop-row.invariant.2 in
    (omega arith, tt, size, lines_more c.loop-row.invariant.3 c.in-Some.row.now (chunks_exact_rest c.next.new.self) c.in-Some.ensures.steps.1.0 long c.print_row.ensures)

pub returns : goal.returns
returns c = lines_end c.loop-row.invariant.3 (omega (arith, c.in-None.ensures.steps.1.0, c.loop-row.invariant.2))
