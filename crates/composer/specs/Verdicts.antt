-- 01's "Verdicts": row 13 behind the others, the answer of flattening a recipe into an output, and the output afterwards.
-- Assumes nothing.
use Rattle.names.specs.declared.Reason.TheVariants.{NoRoom}
use Rattle.std.specs.Prelude.{ℕ, ◌*◌, cond, List, [], ◌∷◌, ◌++◌, length, drop, ltb, eqb, None, Option, Some}
use Rattle.names.specs.declared.Refusal.{Refusal}
use Rattle.names.specs.Judging.{row_number, row, judged}
use Rattle.flat_table.specs.Table.{flat_length}
use Rattle.recipe.specs.Records.{Recipe}
use Rattle.recipe.specs.Reading.{at_start}
use Rattle.marks.specs.Marks.{survivors}
use Rattle.compose.specs.Rows.{refusal_of}
use Rattle.composer.specs.declared.Answer.{Answer}
use Rattle.composer.specs.Flat.{flat}

-- "A name field is 12 bytes"
unfoldable pub name_width : ℕ
name_width = 12

-- "A recipe is a byte string": the recipe of these bytes, as 01's calls take it
unfoldable pub recipe_of : List ℕ → Recipe
recipe_of b = record { width = name_width; bytes = b }

-- row 13: "output shorter than 205 × survivors", the output having `room` bytes
unfoldable pub fault₁₃ : Recipe → ℕ → Option ℕ
fault₁₃ s room = at_start (ltb room (flat_length s.width * length (survivors s)))

-- "Flattening returns number 0, place 0, the record count and the byte count 205 × count"
unfoldable pub accepted : ℕ → ℕ → Answer
accepted w n = record { number = 0; place = 0; count = n; bytes = flat_length w * n }

-- "Otherwise it returns the number below, the place .., both counts 0"
unfoldable pub refused : ℕ → ℕ → Answer
refused n p = record { number = n; place = p; count = 0; bytes = 0 }

-- a refusal handed on, or the answer where there is none
unfoldable pub refused_or : Option Refusal → Answer → Answer
refused_or None next = next
refused_or (Some r) next = refused (row_number r.reason) r.place

-- the answer of flattening s into `room` bytes: the recipe's refusal, or row 13, or acceptance
unfoldable pub verdict : Recipe → ℕ → Answer
verdict s room = refused_or (refusal_of s) (refused_or (judged (row NoRoom (fault₁₃ s room) ∷ [])) (accepted s.width (length (survivors s))))

-- "bytes after those are unchanged"; on a refusal "an unchanged output": the output afterwards
unfoldable pub written : Recipe → List ℕ → List ℕ
written s out = cond (eqb (verdict s (length out)).number 0) (flat s ++ drop (length (flat s)) out) out
