-- The lines that are printed, piece by piece.
-- Assumes nothing.
use mathlib.Core.Path.{◌≡◌, refl, sym, ◌∙◌}
use Prim.Native.Nat.{ℕ}
use mathlib.Core.Bool.{Bool, true, false}
use mathlib.Core.List.{List, [], ◌++◌, append_assoc, append-nil}
use lib.ListN.{get_or}
use Rattle.names.specs.Names.{text, is_blank}
use Rattle.composer.specs.Verdicts.{name_width}
use Rattle.composer.specs.Printed.{characters, decimal, shown, table_lines, refusal_line}
use Rattle.bandrolt.specs.Text.{HasRoom, row_lines}
use Rattle.bandrolt.proofs.Texts.{Pieces, pieces}
use Rattle.bandrolt.proofs.Rows.{line_at, column_at, line-is}

-- a field is blank, or its text is shown
module _ (f : List ℕ) {b : Bool} (e : b ≡ is_blank f) where
  pub blank-shown : b ≡ true → shown f ≡ characters "-"
  unfolding shown
  blank-shown h = rw (sym e ∙ h) refl

  pub text-shown : b ≡ false → shown f ≡ text f
  unfolding shown
  text-shown h = rw (sym e ∙ h) refl

-- a refusal's line, and a table's lines, with the end of them apart
pub refusal-is : (n p : ℕ) → refusal_line n p ≡ characters "refused " ++ (decimal n ++ (characters " at " ++ (decimal p ++ characters "\n")))
unfolding refusal_line
refusal-is n p = simp append_assoc

pub table-is : (n : ℕ) (table : List ℕ) → table_lines name_width n table ≡ characters "flat " ++ (decimal n ++ (characters "\n" ++ (row_lines name_width table ++ [])))
unfolding table_lines row_lines
table-is n table = rw append-nil (simp append_assoc)

module _ (t : List ℕ) where
  pub row-pieces : (row : List ℕ) → HasRoom t (line_at row 0) → Pieces t (decimal (get_or row 0 0)) (column_at row 1) (column_at row 69) (column_at row 137) (characters "\n")
  row-pieces row h = pieces t (decimal (get_or row 0 0)) (column_at row 1) (column_at row 69) (column_at row 137) (characters "\n") (rw (line-is row 0) at h)

  pub refusal-pieces : (n p : ℕ) → HasRoom t (refusal_line n p) → Pieces t (characters "refused ") (decimal n) (characters " at ") (decimal p) (characters "\n")
  refusal-pieces n p h = pieces t (characters "refused ") (decimal n) (characters " at ") (decimal p) (characters "\n") (rw (refusal-is n p) at h)

  pub table-pieces : (n : ℕ) (table : List ℕ) → HasRoom t (table_lines name_width n table) → Pieces t (characters "flat ") (decimal n) (characters "\n") (row_lines name_width table) []
  table-pieces n table h = pieces t (characters "flat ") (decimal n) (characters "\n") (row_lines name_width table) [] (rw (table-is n table) at h)
