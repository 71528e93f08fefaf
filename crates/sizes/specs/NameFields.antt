-- The name fields of a flat table, and how many characters each has: what the statement about the longest name is stated with.
-- Assumes nothing.
use Rattle.std.specs.Prelude.{ℕ, List, length}
use Rattle.names.specs.Names.{text}
use Rattle.flat_table.specs.Table.{Table, flat_length, flat_width, row_name, rows}

-- the places of the records of a table of name width w
abbrev pub places_of : ℕ → Table → List ℕ
places_of w t = rows (flat_width w) (flat_length w) t

-- how many characters the name field of the record at p has
abbrev pub characters_at : ℕ → Table → ℕ → ℕ
characters_at w t p = length (text (row_name (flat_width w) (flat_length w) t p))
