-- How long what is printed can be, so that there is room for it.
-- Assumes nothing.
use mathlib.Core.Path.{◌≡◌, ap}
use Prim.Native.Nat.{ℕ, zero, suc, ◌+◌, ◌*◌, ◌/◌, ◌^◌, ◌≤◌, ◌<◌}
use native.Mathlib.Omega.{arith}
use mathlib.Core.List.{List, [], map, append-nil}
use lib.ListN.{length, take, drop, get_or, length-append, length-take}
use Rattle.names.specs.Lists.{joined}
use Rattle.names.specs.Names.{text, is_blank, non_zero, field_at}
use Rattle.names.proofs.Lists.{while-length}
use Rattle.names.proofs.Tests.{by_cases}
use Rattle.flat_table.specs.Table.{flat_width, flat_length, rows_from, row_count, rows}
use Rattle.composer.specs.Verdicts.{name_width}
use Rattle.composer.specs.Printed.{characters, decimal, shown, table_lines, refusal_line}
use Rattle.bandrolt.specs.Text.{HasRoom, row_lines}
use Rattle.bandrolt.proofs.Decimals.{decimal-length}
use Rattle.bandrolt.proofs.Rows.{line_at, column_at, line-is}
use Rattle.bandrolt.proofs.Lines.{refusal-is, table-is}

word-length : (k : ℕ) → k < 2 ^ 64 → length (decimal k) ≤ 20
word-length k h = decimal-length 19 k (omega arith)

-- a field has no more bytes than are taken, and is shown by one where it is blank
column-length : (t : List ℕ) (p : ℕ) → length (column_at t p) ≤ 69
unfolding characters shown field_at text
column-length t p =
    let few = length-take 68 (drop p t) in
    by_cases (is_blank (take 68 (drop p t)))
    (λ e. rw e (omega arith))
    (λ e. rw e (omega (arith, few, while-length non_zero (take 68 (drop p t)))))

line-length : (t : List ℕ) (p : ℕ) → get_or t p 0 < 256 → length (line_at t p) ≤ 211
unfolding characters
line-length t p h =
    rw (line-is t p, length-append (decimal (get_or t p 0)), length-append (column_at t (p + 1)), length-append (column_at t (p + 69)), length-append (column_at t (p + 137)))
    (omega (arith, decimal-length 2 (get_or t p 0) (omega arith), column-length t (p + 1), column-length t (p + 69), column-length t (p + 137)))

-- there is room for a refusal
pub refusal-fits : {text : List ℕ} (n p : ℕ) → text ≡ [] → n < 2 ^ 64 → p < 2 ^ 64 → HasRoom text (refusal_line n p)
unfolding characters
refusal-fits n p e k l =
    rw (refusal-is n p, length-append (characters "refused "), length-append (decimal n), length-append (characters " at "), length-append (decimal p))
    (omega (arith, ap length e, word-length n k, word-length p l))

module _ (t : List ℕ) (h : (p : ℕ) → get_or t p 0 < 256) where
  lines-length : (n p : ℕ) → length (joined (map (line_at t) (rows_from (flat_width name_width) (flat_length name_width) n p))) ≤ 211 * n
  unfolding rows_from
  lines-length zero p = omega arith
  lines-length (suc n) p = rw length-append (omega (arith, line-length t p (h p), lines-length n (p + flat_length name_width)))

  row_lines-length : length t ≤ 65395 → length (row_lines name_width t) ≤ 67309
  unfolding row_lines rows row_count flat_length flat_width name_width
  row_lines-length l = omega (arith, lines-length (length t / 205) 0)

  -- and for a table
  pub table-fits : {text : List ℕ} (n : ℕ) → text ≡ [] → n < 2 ^ 64 → length t ≤ 65395 → HasRoom text (table_lines name_width n t)
  unfolding characters
  table-fits n e m l =
      rw (table-is n t, length-append (characters "flat "), length-append (decimal n), length-append (characters "\n"), append-nil)
      (omega (arith, ap length e, word-length n m, row_lines-length l))
