-- What flattening with factors is: of every recipe, both outputs, and answers that the promises of `bandrolt_flatten_with_factors` and `bandrolt_flatten` allow.
-- Statements alone, each with the law that shows it. Assumes nothing.
use Rattle.std.specs.Prelude.{None}
use mathlib.Core.Path.{◌≡◌, refl, sym, ◌∙◌}
use Prim.Native.Nat.{ℕ, suc, ◌+◌, ◌*◌, ◌<◌}
use mathlib.Core.Bool.{false}
use mathlib.Core.List.{List}
use lib.ListN.{length, take, drop}
use Rattle.names.specs.Judging.{fault_of}
use Rattle.names.specs.Names.{is_blank}
use Rattle.names.proofs.Judging.{row-none}
use Rattle.flat_table.specs.Table.{flat_width}
use Rattle.recipe.specs.Records.{extent_field, time_field}
use Rattle.tree.specs.Tree.{most_depth}
use Rattle.compose.specs.Rows.{Unrefused, refusal_rows}
use Rattle.composer.specs.declared.Answer.{Answer}
use Rattle.composer.specs.Verdicts.{name_width, recipe_of, verdict, written}
use Rattle.composer.proofs.Demand.{twelve}
use Rattle.factors.specs.declared.FactorsAnswer.{FactorsAnswer}
use Rattle.factors.specs.Companion.{companion, companion_after, companion_record, entry_length, factors_refused, factors_verdict, rated, table_after}
use Rattle.factors.specs.Entries.{FactorNamed, entry_field, entry_of, rated_at}
use Rattle.factors.proofs.Plain.{clear, counts-nothing, entries-are, entry-bytes-are, only-room, past-entries, plain, same_answer_lem, same-refusal, same-table, unwritten}
use Rattle.factors.proofs.Tables.{entry_at, extent-named, one_entry, time-named}

-- "613 × entries"
pub entry-613 : entry_length name_width ≡ 613
unfolding entry_length name_width most_depth flat_width
entry-613 = refl

module _ (recipe before entries after entries' : List ℕ) (a : FactorsAnswer) (answers : a ≡ factors_verdict (recipe_of recipe) (length before) (length entries))
    (leaves : after ≡ table_after (recipe_of recipe) before (length entries)) (leaves' : entries' ≡ companion_after (recipe_of recipe) (length before) entries) where
  -- ---- "The main table is as before": plain flattening into the same output, whatever its promise allows,
  module _ (plain-after : List ℕ) (b : Answer) (plain-answers : b ≡ verdict (recipe_of recipe) (length before)) (plain-leaves : plain-after ≡ written (recipe_of recipe) before) where
    -- answers the same and leaves the same bytes where this call accepts,
    pub as_before : a.number ≡ 0 → (b ≡ plain a) × (plain-after ≡ after)
    as_before z =
        (plain-answers ∙ same_answer_lem (recipe_of recipe) before entries a answers z, plain-leaves ∙ sym (leaves ∙ same-table (recipe_of recipe) before entries a answers z))

    -- and where it refuses, this call refuses with the same number and place
    pub refused-as-before : (b.number ≡ 0 → ⊥) → (a.number ≡ b.number) × (a.place ≡ b.place)
    refused-as-before n = rw plain-answers (same-refusal (recipe_of recipe) before entries a answers (rw plain-answers at n))

    -- and it refuses no more but for want of room for the companion, which "gives 13"
    pub refused-for-room : b.number ≡ 0 → (a.number ≡ 0 → ⊥) → (a ≡ factors_refused 13 0) × (length entries < entry_length name_width * length (rated (recipe_of recipe)))
    unfolding recipe_of name_width
    refused-for-room z n = only-room (recipe_of recipe) before entries a answers n (rw plain-answers at z)

  -- a refusal leaves "both outputs unchanged", and counts nothing: "0 on a refusal"
  pub refusal-leaves : (a.number ≡ 0 → ⊥) → (after ≡ before) × (entries' ≡ entries)
  refusal-leaves n = let u = unwritten (recipe_of recipe) before entries a answers n in (leaves ∙ u.0, leaves' ∙ u.1)

  pub refusal-counts : (a.number ≡ 0 → ⊥) → (a.count ≡ 0) × ((a.bytes ≡ 0) × (a.entries ≡ 0))
  refusal-counts n = counts-nothing (recipe_of recipe) before entries a answers n

  module _ (accepts : a.number ≡ 0) where
    -- ---- "for every surviving class 4 and 6 in tree order": so many entries,
    pub counted : a.entries ≡ length (rated (recipe_of recipe))
    counted = entries-are (recipe_of recipe) before entries a answers accepts

    abbrev table : List ℕ
    table = take (entry_length name_width * a.entries) entries'

    table_is : table ≡ companion (recipe_of recipe)
    unfolding recipe_of name_width
    table_is = entry-bytes-are (recipe_of recipe) before entries a answers accepts twelve leaves'

    sound : Unrefused (recipe_of recipe)
    sound = clear (recipe_of recipe) before entries a answers accepts

    none : (n : ℕ) → fault_of n (refusal_rows (recipe_of recipe)) ≡ None
    none n = row-none n (refusal_rows (recipe_of recipe)) sound

    low : {i : ℕ} → i < a.entries → i < length (rated (recipe_of recipe))
    low l = rw counted at l

    -- number i is that of the i-th of them,
    pub entry-is : (i : ℕ) → i < a.entries → entry_of name_width table i ≡ companion_record (recipe_of recipe) (rated_at (recipe_of recipe) i)
    unfolding recipe_of name_width
    entry-is i l =
        rw table_is (entry_at (recipe_of recipe) twelve (none 3) (none 5) (none 7) i (low l))

    -- no two have one name,
    pub one_name : (i j : ℕ) → i < a.entries → j < a.entries → entry_field name_width table i 0 ≡ entry_field name_width table j 0 → i ≡ j
    unfolding recipe_of name_width
    one_name i j l m e =
        one_entry (recipe_of recipe) twelve (none 3) (none 5) (none 7) (none 4) i j (low l) (low m) (rw table_is at e)

    -- and "bytes past the entries are unchanged"
    pub unchanged : drop (entry_length name_width * a.entries) entries' ≡ drop (entry_length name_width * a.entries) entries
    unfolding recipe_of name_width
    unchanged = past-entries (recipe_of recipe) before entries a answers accepts twelve leaves'

    -- ---- each filled factor field is the name of exactly one record of the main table: that of the end of the factor's chain, of kind 3
    module _ (i : ℕ) (l : i < a.entries) (k : ℕ) (m : k < 4) where
      -- "field i for the submodel at depth i": the time factor at depth k + 1
      pub time-factor : is_blank (entry_field name_width table i (suc k)) ≡ false
          → FactorNamed (recipe_of recipe) time_field (rated_at (recipe_of recipe) i).path k (entry_field name_width table i (suc k))
      unfolding recipe_of name_width
      time-factor b =
          rw table_is
          (time-named (recipe_of recipe) twelve (none 3) (none 5) (none 7) (none 4) (none 20) i (low l) k m (rw table_is at b))

      -- and the extent factor
      pub extent-factor : is_blank (entry_field name_width table i (4 + suc k)) ≡ false
          → FactorNamed (recipe_of recipe) extent_field (rated_at (recipe_of recipe) i).path k (entry_field name_width table i (4 + suc k))
      unfolding recipe_of name_width
      extent-factor b =
          rw table_is
          (extent-named (recipe_of recipe) twelve (none 3) (none 5) (none 7) (none 4) (none 20) i (low l) k m (rw table_is at b))
