-- The table check passes the closed tables, with the number of their records, and no others; the empty table is closed.
-- Assumes nothing.
use Prim.Native.Nat.{ℕ, ◌*◌}
use mathlib.Core.Path.{◌≡◌, ap, ◌∙◌}
use mathlib.Core.List.{[]}
use native.Mathlib.Omega.{arith}
use native.Mathlib.Nat.{zero-div, zero-mod}
use borrow.Author.Tests.{le-ltb}
use Rattle.names.specs.Judging.{judged, NoneApplies}
use Rattle.names.proofs.Tests.{by-option}
use Rattle.names.proofs.Judging.{none-judged, judged-none, number-positive}
use Rattle.flat_table.specs.Table.{Table, Closed, most_rows, table_answer, table_rows, rows_from, row_count, rows, fault₁₄, fault₁₅, fault₁₆, fault₁₇, verdict_of, table_verdict, flat_width, flat_length}

module _ (w : ℕ) (t : Table) where
  -- "Acceptance gives number 0, place 0 and the number of records"
  pub closed-accepted : Closed w t → table_verdict w t ≡ record { number = 0; place = 0; count = row_count (flat_width w) (flat_length w) t }
  unfolding table_verdict verdict_of table_rows table_answer
  closed-accepted c =
      let h : NoneApplies (table_rows (flat_width w) (flat_length w) t) = (c.row₁₄, (c.row₁₅, (c.row₁₆, (c.row₁₇, tt)))) in
      rw (none-judged (table_rows (flat_width w) (flat_length w) t) h)

  -- no other table has the number 0
  pub accepted-closed : (table_verdict w t).number ≡ 0 → Closed w t
  unfolding table_verdict verdict_of table_rows table_answer
  accepted-closed z =
      let rows = table_rows (flat_width w) (flat_length w) t in
      let count = row_count (flat_width w) (flat_length w) t in
      let h : NoneApplies rows =
      judged-none rows
      (by-option (judged rows) (λ e. e)
      (λ r e. let n = ap (λ o. (table_answer o count).number) e in absurd (omega (arith, number-positive r.reason)))) in
      record { row₁₄ = h.0; row₁₅ = h.1.0; row₁₆ = h.1.1.0; row₁₇ = h.1.1.1.0 }

-- "An empty table is closed"
pub empty-closed : (w : ℕ) → Closed w []
unfolding fault₁₄ fault₁₅ fault₁₆ fault₁₇ rows row_count rows_from
empty-closed w =
    let l : ℕ = flat_length w in
    record { row₁₄ = rw (zero-mod l, le-ltb (most_rows * l) 0 (omega arith)); row₁₅ = rw (zero-div l); row₁₆ = rw (zero-div l); row₁₇ = rw (zero-div l) }

pub empty-accepted : (w : ℕ) → table_verdict w [] ≡ record { number = 0; place = 0; count = 0 }
unfolding row_count
empty-accepted w = closed-accepted w [] (empty-closed w) ∙ rw (zero-div (flat_length w))
