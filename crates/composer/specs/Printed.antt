-- 01's "Printing program": what it writes for a recipe.
-- Assumes nothing.
use Rattle.std.specs.Prelude.{ℕ, zero, suc, ◌+◌, ◌/◌, ◌%◌, true, false, cond, List, [], ◌∷◌, ◌++◌, map, take, ltb, eqb}
use Prim.Native.Char.{code}
use Prim.Native.String.{String}
use Prim.Native.String as Text
use Rattle.names.specs.Lists.{joined}
use Rattle.names.specs.Names.{text, is_blank}
use Rattle.flat_table.specs.Table.{Table, rows, row_kind, row_name, row_parent, row_reference, flat_width, flat_length}
use Rattle.recipe.specs.Records.{Recipe}
use Rattle.composer.specs.declared.Answer.{Answer}
use Rattle.composer.specs.Flat.{flat}
use Rattle.composer.specs.Verdicts.{recipe_of, verdict}

-- the characters of a text, as bytes
unfoldable pub characters : String → List ℕ
characters Text.[] = []
characters (Text.◌∷◌ c t) = code c ∷ characters t

-- a number in decimal, by at most n digits
unfoldable pub decimal_in : ℕ → ℕ → List ℕ
decimal_in zero k = []
decimal_in (suc n) k = elim (ltb k 10) [ true ↦ (48 + k) ∷ [] | false ↦ decimal_in n (k / 10) ++ ((48 + k % 10) ∷ []) ]

-- a number in decimal: it has no more digits than it counts, and one
unfoldable pub decimal : ℕ → List ℕ
decimal k = decimal_in (suc k) k

-- "with - for a blank": a field without its padding
unfoldable pub shown : List ℕ → List ℕ
shown f = cond (is_blank f) (characters "-") (text f)

-- "kind, name, parent, reference"; "One space parts the fields, and a newline ends every line": the record at p, fields of f bytes and records of l
unfoldable pub row_line : ℕ → ℕ → Table → ℕ → List ℕ
row_line f l t p =
    decimal (row_kind f l t p)
    ++ characters " "
    ++ shown (row_name f l t p)
    ++ characters " "
    ++ shown (row_parent f l t p)
    ++ characters " "
    ++ shown (row_reference f l t p)
    ++ characters "\n"

-- "The first line is "flat " and the count; then a line for each record", of a table of name width w
unfoldable pub table_lines : ℕ → ℕ → Table → List ℕ
table_lines w n t =
    characters "flat " ++ decimal n ++ characters "\n" ++ joined (map (row_line (flat_width w) (flat_length w) t) (rows (flat_width w) (flat_length w) t))

-- "A refusal prints "refused N at P" alone"
unfoldable pub refusal_line : ℕ → ℕ → List ℕ
refusal_line n p = characters "refused " ++ decimal n ++ characters " at " ++ decimal p ++ characters "\n"

-- what the program prints of an answer and the table, of name width w
unfoldable pub printed_of : ℕ → Answer → Table → List ℕ
printed_of w a t = cond (eqb a.number 0) (table_lines w a.count t) (refusal_line a.number a.place)

-- what the program prints of a recipe, with `room` bytes lent for output
unfoldable pub printed : Recipe → ℕ → List ℕ
printed s room = printed_of s.width (verdict s room) (flat s)

-- "It reads standard input into 16,385 bytes": the most that it reads
unfoldable pub input_room : ℕ
input_room = 16385

-- "and lends 65,395 for output"
unfoldable pub output_room : ℕ
output_room = 65395

-- what the program writes, of what stands on its standard input
unfoldable pub program_output : List ℕ → List ℕ
program_output input = printed (recipe_of (take input_room input)) output_room
