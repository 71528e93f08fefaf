-- The flat table and its check: 01's "Table check", and 14 to 17 of "Verdicts". A record of a table is named by its offset.
-- Assumes nothing.
use Rattle.std.specs.Prelude.{ℕ, zero, suc, ◌+◌, ◌*◌, ◌/◌, ◌%◌, ◌≡◌, Bool, cond, not, ◌&&◌, ◌||◌, List, [], ◌∷◌, length, get_or, ltb, eqb, None, Option, Some}
use Rattle.names.specs.Lists.{any, first, holds, same}
use Rattle.names.specs.Names.{field_at, is_name, is_name_or_blank, is_blank}
use Rattle.names.specs.declared.Refusal.{Refusal}
use Rattle.names.specs.declared.Reason.TheVariants.{BadTableLength, Malformed, Duplicate, Unlinked}
use Rattle.names.specs.Judging.{row_number, Row, row, judged}
use Rattle.flat_table.specs.declared.TableAnswer.{TableAnswer}
use Rattle.flat_table.specs.Classes.{is_class, parent_allowed, reference_allowed}

-- a table is its bytes
abbrev pub Table : Type 0
Table = List ℕ

-- row 14, "over 209,920": the most records
unfoldable pub most_rows : ℕ
most_rows = 1024

-- "a refusal has count 0"
abbrev pub refusal : ℕ → ℕ → TableAnswer
refusal n p = record { number = n; place = p; count = 0 }

-- what the check answers of n records: a refusal, or "Acceptance gives number 0, place 0 and the number of records"
unfoldable pub table_answer : Option Refusal → ℕ → TableAnswer
table_answer None n = record { number = 0; place = 0; count = n }
table_answer (Some r) n = refusal (row_number r.reason) r.place

-- a table whose fields have field_width bytes and whose records row_length
module _ (field_width row_length : ℕ) where
  -- n places from p on, each a record further
  unfoldable pub rows_from : ℕ → ℕ → List ℕ
  rows_from zero p = []
  rows_from (suc n) p = p ∷ rows_from n (p + row_length)

  -- how many records a table has
  unfoldable pub row_count : Table → ℕ
  row_count t = length t / row_length

  -- the places of a table's records
  unfoldable pub rows : Table → List ℕ
  rows t = rows_from (row_count t) 0

  -- the kind byte
  unfoldable pub row_kind : Table → ℕ → ℕ
  row_kind t p = get_or t p 0

  -- the three fields
  unfoldable pub row_name : Table → ℕ → List ℕ
  row_name t p = field_at field_width t (p + 1)

  unfoldable pub row_parent : Table → ℕ → List ℕ
  row_parent t p = field_at field_width t (p + 1 + field_width)

  unfoldable pub row_reference : Table → ℕ → List ℕ
  row_reference t p = field_at field_width t (p + 1 + field_width + field_width)

  -- the first record whose flat name is the field f
  unfoldable pub row_named : Table → List ℕ → Option ℕ
  row_named t f = first (λ p. same (row_name t p) f) (rows t)

  -- row 14: "table length not a multiple of 205, or over 209,920"
  unfoldable pub fault₁₄ : Table → Option ℕ
  fault₁₄ t = cond (not (eqb (length t % row_length) 0) || ltb (most_rows * row_length) (length t)) (Some 0) None

  -- row 15: "kind not 1 to 7; a field is no name of 1 to 68 characters .. nor an allowed blank"
  unfoldable pub is_malformed_row : Table → ℕ → Bool
  is_malformed_row t p =
      not (is_class (row_kind t p)) || not (is_name (row_name t p)) || not (is_name_or_blank (row_parent t p)) || not (is_name_or_blank (row_reference t p))

  unfoldable pub fault₁₅ : Table → Option ℕ
  fault₁₅ t = first (is_malformed_row t) (rows t)

  -- row 16: "flat name twice", at the later record
  unfoldable pub is_repeated_row : Table → ℕ → Bool
  is_repeated_row t p = any (λ q. ltb q p && same (row_name t q) (row_name t p)) (rows t)

  unfoldable pub fault₁₆ : Table → Option ℕ
  fault₁₆ t = first (is_repeated_row t) (rows t)

  -- row 17: a parent or reference field f, where a blank is allowed or not, and a filled one names a record that passes the test
  unfoldable pub is_link_fault : Table → List ℕ → Bool → (ℕ → Bool) → Bool
  is_link_fault t f blank_allowed is_link = cond (is_blank f) (not blank_allowed) (not (holds is_link (row_named t f)))

  -- row 17: "parent against the class table or not an earlier record"
  unfoldable pub is_parent_row : Table → ℕ → ℕ → Bool
  is_parent_row t p q = ltb q p && parent_allowed (row_kind t p) (Some (row_kind t q))

  unfoldable pub is_parent_fault : Table → ℕ → Bool
  is_parent_fault t p = is_link_fault t (row_parent t p) (parent_allowed (row_kind t p) None) (is_parent_row t p)

  -- row 17: "reference against the class table or not a record"
  unfoldable pub is_reference_row : Table → ℕ → ℕ → Bool
  is_reference_row t p q = reference_allowed (row_kind t p) (Some (row_kind t q))

  unfoldable pub is_reference_fault : Table → ℕ → Bool
  is_reference_fault t p = is_link_fault t (row_reference t p) (reference_allowed (row_kind t p) None) (is_reference_row t p)

  unfoldable pub is_row_fault : Table → ℕ → Bool
  is_row_fault t p = is_parent_fault t p || is_reference_fault t p

  unfoldable pub fault₁₇ : Table → Option ℕ
  fault₁₇ t = first (is_row_fault t) (rows t)

  -- the rows of the check, in the order of judging
  unfoldable pub table_rows : Table → List Row
  table_rows t = row BadTableLength (fault₁₄ t) ∷ row Malformed (fault₁₅ t) ∷ row Duplicate (fault₁₆ t) ∷ row Unlinked (fault₁₇ t) ∷ []

  -- the first that applies, or acceptance
  unfoldable pub verdict_of : Table → TableAnswer
  verdict_of t = table_answer (judged (table_rows t)) (row_count t)

-- "three 68-byte fields": four prefixes and a name, of name width w
unfoldable pub flat_width : ℕ → ℕ
flat_width w = 5 * w + 8

-- "Each survivor gives 205 bytes": a kind byte and three fields
unfoldable pub flat_length : ℕ → ℕ
flat_length w = 1 + 3 * flat_width w

-- the table check, of a table of name width w
unfoldable pub table_verdict : ℕ → Table → TableAnswer
table_verdict w t = verdict_of (flat_width w) (flat_length w) t

-- "A table is closed when none of 14 to 17 below applies"; `proofs/Closed.antt` shows that the check passes closed tables and no others
pub record Closed (w : ℕ) (t : Table) : Type 0 where
  pub row₁₄ : fault₁₄ (flat_width w) (flat_length w) t ≡ None
  pub row₁₅ : fault₁₅ (flat_width w) (flat_length w) t ≡ None
  pub row₁₆ : fault₁₆ (flat_width w) (flat_length w) t ≡ None
  pub row₁₇ : fault₁₇ (flat_width w) (flat_length w) t ≡ None
