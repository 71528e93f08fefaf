-- 02's Paper 4, "How large the table will be", at any name width.
-- Assumes nothing.
use Rattle.std.specs.Prelude.{ℕ, ◌*◌, List, [], ◌∷◌, length, map, max, None, Some}
use Rattle.names.specs.Judging.{row_number}
use Rattle.flat_table.specs.Table.{flat_length}
use Rattle.recipe.specs.Records.{Recipe}
use Rattle.tree.specs.Tree.{Node}
use Rattle.marks.specs.Marks.{survivors}
use Rattle.compose.specs.Rows.{refusal_of}
use Rattle.flat_names.specs.Prefixes.{flat_name}
use Rattle.sizes.specs.declared.Size.{Size}

-- the greatest of these numbers, 0 for none
unfoldable pub greatest : List ℕ → ℕ
greatest [] = 0
greatest (n ∷ ns) = max n (greatest ns)

-- "the length of the survivors' longest flat name (0 if none)"
unfoldable pub longest_name : Recipe → ℕ
longest_name s = greatest (map (λ (x : Node). length (flat_name s x)) (survivors s))

-- "survivors, bytes and the length of the survivors' longest flat name"
unfoldable pub sized : Recipe → Size
sized s = record { number = 0; place = 0; count = length (survivors s); bytes = flat_length s.width * length (survivors s); longest = longest_name s }

-- "with .. all three numbers 0"
unfoldable pub size_refused : ℕ → ℕ → Size
size_refused n p = record { number = n; place = p; count = 0; bytes = 0; longest = 0 }

-- "Refusals are flattening's, all but 13, with the same places"
unfoldable pub size : Recipe → Size
size s = elim (refusal_of s) [ None ↦ sized s | Some r ↦ size_refused (row_number r.reason) r.place ]
