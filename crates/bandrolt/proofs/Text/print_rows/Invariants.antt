-- `bandrolt::Text::print_rows` meets its contract: the invariant: what stands there and the lines of what is left are all lines.
-- Assumes nothing.
use mathlib.Core.Path.{◌≡◌}
use Rattle.std.specs.Slice.Iter.{chunks_exact_rest, chunks_exact_size}
use Rattle.bandrolt.proofs.Rows.{LinesLeft}
use Rattle.bandrolt.proofs.Text.print_rows.Given as goal

abbrev pub invariant-loop-row : goal.invariant-loop-row
invariant-loop-row l =
    (goal.iterator-loop-row).can_next l.row-iterator
    × (goal.iterator-loop-row).is_finite l.row-iterator
    × (chunks_exact_size l.row-iterator ≡ 205)
    × LinesLeft l.fn.table l.initial.self l.self (chunks_exact_rest l.row-iterator)
