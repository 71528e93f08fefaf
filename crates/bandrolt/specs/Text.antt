-- The text that the program puts together before it is written: the room that it has, and what a table prints behind the first line.
-- Assumes nothing.
use Rattle.std.specs.Prelude.{ℕ, ◌+◌, ◌≤◌, List, map, length}
use Rattle.names.specs.Lists.{joined}
use Rattle.flat_table.specs.Table.{Table, rows, flat_width, flat_length}
use Rattle.composer.specs.Printed.{row_line}

-- room for every text that can be printed: a first line of at most 26 bytes, and for each of 319 records at most 211
abbrev pub text_room : ℕ
text_room = 67335

-- there is room for xs behind what was printed
abbrev pub HasRoom : List ℕ → List ℕ → Type 0
HasRoom text xs = length text + length xs ≤ text_room

-- "then a line for each record", of a table of name width w
unfoldable pub row_lines : ℕ → Table → List ℕ
row_lines w t = joined (map (row_line (flat_width w) (flat_length w) t) (rows (flat_width w) (flat_length w) t))
