-- What is said of a table, of the code's rows. Assumes nothing.
use Rattle.std.specs.Prelude.{ℕ}
use Rattle.flat_table.specs.declared.Rows.{Rows}
use Rattle.flat_table.specs.Table.{Table}

abbrev pub in_table : {X : Type 0} → (ℕ → ℕ → Table → X) → Rows → X
in_table f r = f r.layout.width r.layout.stride r.bytes.now
