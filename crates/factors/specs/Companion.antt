-- 02's Paper 2, "A companion table": its entries, the answer of flattening with factors, and both outputs afterwards, at any name width.
-- Assumes nothing.
use Rattle.names.specs.declared.Reason.TheVariants.{NoRoom}
use Rattle.std.specs.Prelude.{ℕ, zero, suc, ◌+◌, ◌*◌, Bool, cond, ◌||◌, List, [], ◌∷◌, ◌++◌, map, length, get_or, take, drop, ltb, eqb, None, Option, Some, option_map}
use Rattle.names.specs.declared.Refusal.{Refusal}
use Rattle.names.specs.Judging.{row_number, row, judged}
use Rattle.names.specs.Lists.{joined, keep}
use Rattle.flat_table.specs.Table.{flat_length, flat_width}
use Rattle.recipe.specs.Records.{Recipe, class, extent_field, time_field}
use Rattle.recipe.specs.Definitions.{factors_of}
use Rattle.recipe.specs.Reading.{at_start}
use Rattle.tree.specs.Numbers.{run}
use Rattle.tree.specs.Tree.{Node, most_depth, node}
use Rattle.marks.specs.Faults.{factor_named}
use Rattle.marks.specs.Marks.{chain_end, survivors}
use Rattle.compose.specs.Rows.{refusal_of}
use Rattle.composer.specs.Flat.{flat, flat_field}
use Rattle.factors.specs.declared.FactorsAnswer.{FactorsAnswer}

-- "class 4 and 6"
unfoldable pub is_rated : Recipe → Node → Bool
is_rated s x = eqb (class s x.place) 4 || eqb (class s x.place) 6

-- "for every surviving class 4 and 6 in tree order": the elements that have an entry
unfoldable pub rated : Recipe → List Node
rated s = keep (is_rated s) (survivors s)

-- "Factors follow the chain as references do": the end of the chain from a factor of the submodel m of the instance at the path; none if it has no kind 8, or a blank there
unfoldable pub factor_for : Recipe → (Recipe → ℕ → List ℕ) → List ℕ → ℕ → Option Node
factor_for s field path m =
    elim (factors_of s m) [ None ↦ None | Some f ↦ option_map (chain_end s) (factor_named s (node path f) (field s f)) ]

-- "for the submodel at depth i" of the path, its factor, which is looked for in the instance at depth i - 1; "blank if none"
unfoldable pub factor_at : Recipe → (Recipe → ℕ → List ℕ) → List ℕ → ℕ → Option Node
factor_at s field path zero = None
factor_at s field path (suc k) = cond (ltb k (length path)) (factor_for s field (take k path) (get_or path k 0)) None

-- "four time fields", "four extent fields", "field i for the submodel at depth i"
unfoldable pub factor_fields : Recipe → (Recipe → ℕ → List ℕ) → List ℕ → List ℕ
factor_fields s field path = joined (map (λ i. flat_field s (factor_at s field path i)) (run 1 most_depth))

-- "kind 8, its flat name, four time fields and four extent fields"
unfoldable pub companion_record : Recipe → Node → List ℕ
companion_record s x = 8 ∷ (flat_field s (Some x) ++ (factor_fields s time_field x.path ++ factor_fields s extent_field x.path))

-- "A companion table"
unfoldable pub companion : Recipe → List ℕ
companion s = joined (map (companion_record s) (rated s))

-- "613 × entries": the bytes of an entry, where names have w bytes
unfoldable pub entry_length : ℕ → ℕ
entry_length w = 1 + (1 + 2 * most_depth) * flat_width w

-- row 13, of both outputs: one "shorter than 205 × survivors", or "A companion buffer below 613 × entries"
unfoldable pub both_fault₁₃ : Recipe → ℕ → ℕ → Option ℕ
both_fault₁₃ s room companion_room =
    at_start (ltb room (flat_length s.width * length (survivors s)) || ltb companion_room (entry_length s.width * length (rated s)))

-- "writes both and also returns the entry count"
unfoldable pub factors_accepted : ℕ → ℕ → ℕ → FactorsAnswer
factors_accepted w n k = record { number = 0; place = 0; count = n; bytes = flat_length w * n; entries = k }

-- "0 on a refusal"
unfoldable pub factors_refused : ℕ → ℕ → FactorsAnswer
factors_refused n p = record { number = n; place = p; count = 0; bytes = 0; entries = 0 }

-- a refusal handed on, or the answer where there is none
unfoldable pub factors_refused_or : Option Refusal → FactorsAnswer → FactorsAnswer
factors_refused_or None next = next
factors_refused_or (Some r) next = factors_refused (row_number r.reason) r.place

-- the answer of flattening s with factors into `room` and `companion_room` bytes: the recipe's refusal, or row 13, or acceptance
unfoldable pub factors_verdict : Recipe → ℕ → ℕ → FactorsAnswer
factors_verdict s room companion_room =
    factors_refused_or (refusal_of s)
    (factors_refused_or (judged (row NoRoom (both_fault₁₃ s room companion_room) ∷ []))
    (factors_accepted s.width (length (survivors s)) (length (rated s))))

-- one of the outputs afterwards: "bytes past the entries are unchanged"; "both outputs unchanged" where the number is not 0
unfoldable pub filled_with : FactorsAnswer → List ℕ → List ℕ → List ℕ
filled_with a table out = cond (eqb a.number 0) (table ++ drop (length table) out) out

-- "The main table is as before": the output of the flat table afterwards, the other being as long as `companion_room`
unfoldable pub table_after : Recipe → List ℕ → ℕ → List ℕ
table_after s out companion_room = filled_with (factors_verdict s (length out) companion_room) (flat s) out

-- the output of the companion afterwards
unfoldable pub companion_after : Recipe → ℕ → List ℕ → List ℕ
companion_after s room out = filled_with (factors_verdict s room (length out)) (companion s) out
