-- Demand 3 as one statement about the call: of every recipe, output before, answer and output after that the promise of `bandrolt_flatten` allows.
-- Beside it, when it accepts, and what the table check answers of the bytes written, accepted or refused. Assumes nothing.
use mathlib.Core.Path.{◌≡◌, sym, ap, ◌∙◌}
use Prim.Native.Nat.{ℕ, ◌*◌, ◌≤◌}
use native.Mathlib.Omega.{arith}
use mathlib.Core.List.{List}
use lib.ListN.{length, take, drop}
use lib.Seq.{take_at, drop_at}
use lib.Dec.{eqb}
use borrow.Author.Tests.{eqb-true, eqb-false}
use Rattle.names.proofs.Tests.{by_cases}
use Rattle.flat_table.specs.Table.{flat_length, table_verdict}
use Rattle.flat_table.specs.declared.TableAnswer.{TableAnswer}
use Rattle.flat_table.proofs.Closed.{empty-accepted}
use Rattle.recipe.specs.Records.{Recipe}
use Rattle.marks.specs.Marks.{survivors}
use Rattle.composer.specs.declared.Answer.{Answer}
use Rattle.composer.specs.Flat.{flat}
use Rattle.compose.specs.Rows.{Unrefused}
use Rattle.composer.specs.Verdicts.{name_width, recipe_of, accepted, verdict, written}
use Rattle.composer.proofs.Promises.{Promises, promises}
use Rattle.composer.proofs.Verdicts.{accepts, enough-room, refusal-counts, unrefused, written-length, written-table}

-- accepted if and only if no row before 13 applies and there is room
pub exactly : (s : Recipe) (room : ℕ)
    → ((verdict s room).number ≡ 0 → Unrefused s × (flat_length s.width * length (survivors s) ≤ room))
    × (Unrefused s × (flat_length s.width * length (survivors s) ≤ room) → verdict s room ≡ accepted s.width (length (survivors s)))
exactly s room = (λ e. (unrefused s room e, enough-room s room e), λ h. accepts s room h.0 h.1)

-- what is demanded where flattening s into `before` answers a, with number 0, and leaves `after`
pub record Demand (s : Recipe) (before after : List ℕ) (a : Answer) : Type 0 where
  -- "number 0, place 0, the record count and the byte count 205 × count", of as many records as there are survivors
  pub answer : a ≡ accepted s.width (length (survivors s))
  -- "the table is their records in tree order, byte for byte"
  pub table : take a.bytes after ≡ flat s
  -- "bytes after those are unchanged"
  pub rest : drop a.bytes after ≡ drop a.bytes before
  -- each clause about the recipe and that table, the end of the chain from each survivor's reference among them
  pub kept : Promises s
  -- "the table check passes that table with the same count": no other answer c is allowed by the promise of `bandrolt_check_table`
  pub checked : (c : TableAnswer) → c ≡ table_verdict s.width (take a.bytes after) → c ≡ record { number = 0; place = 0; count = a.count }

module _ (s : Recipe) (two : 2 ≤ s.width) (before after : List ℕ) (a : Answer) (answers : a ≡ verdict s (length before)) (leaves : after ≡ written s before) where
  -- ---- it accepts
  module _ (accepts₀ : a.number ≡ 0) where
    number_is : (verdict s (length before)).number ≡ 0
    number_is = ap (λ (x : Answer). x.number) (sym answers) ∙ accepts₀

    clear : Unrefused s
    clear = unrefused s (length before) number_is

    answer-is : a ≡ accepted s.width (length (survivors s))
    answer-is = answers ∙ accepts s (length before) clear (enough-room s (length before) number_is)

    count-is : a.count ≡ length (survivors s)
    unfolding accepted
    count-is = ap (λ (x : Answer). x.count) answer-is

    bytes-are : length (flat s) ≡ a.bytes
    unfolding accepted
    bytes-are = (promises s two clear).whole ∙ sym (ap (λ (x : Answer). x.bytes) answer-is)

    table_is : take a.bytes after ≡ flat s
    table_is = rw (leaves, written-table s before number_is) (take_at (flat s) (drop (length (flat s)) before) a.bytes bytes-are)

    rest-is : drop a.bytes after ≡ drop a.bytes before
    rest-is =
        rw (leaves, written-table s before number_is)
        (drop_at (flat s) (drop (length (flat s)) before) a.bytes bytes-are ∙ ap (λ (n : ℕ). drop n before) bytes-are)

  -- ---- accepted or refused
  no_bytes : (a.number ≡ 0 → ⊥) → (a.count ≡ 0) × (a.bytes ≡ 0)
  no_bytes n = rw answers (refusal-counts s (length before) (rw answers at n))

  -- the bytes that the answer counts are there
  pub bytes_fit : a.bytes ≤ length after
  bytes_fit =
      by_cases (eqb a.number 0)
      (λ e.
      let z = eqb-true a.number 0 e in
      let whole = (promises s two (clear z)).whole in
      omega (arith, bytes-are z, enough-room s (length before) (number_is z), ap length leaves, written-length s two before))
      (λ e. omega (arith, (no_bytes (eqb-false a.number 0 e)).1))

  -- the table check accepts them, with the same count: of a refusal there are none, and "An empty table is closed"
  check-is : table_verdict s.width (take a.bytes after) ≡ record { number = 0; place = 0; count = a.count }
  check-is =
      by_cases (eqb a.number 0)
      (λ e.
      let z = eqb-true a.number 0 e in
      rw (table_is z, count-is z) (promises s two (clear z)).checked)
      (λ e.
      let z = no_bytes (eqb-false a.number 0 e) in
      rw (z.0, z.1) (empty-accepted s.width))

  -- what the promise of the check then allows
  pub check-answers : (c : TableAnswer) (n : ℕ) → n ≡ a.bytes → c ≡ table_verdict s.width (take n after)
      → c ≡ record { number = 0; place = 0; count = (verdict s (length before)).count }
  check-answers c n e h =
      h ∙ ap (λ (k : ℕ). table_verdict s.width (take k after)) e ∙ check-is ∙ ap (λ (x : Answer). record { number = 0; place = 0; count = x.count }) answers

  pub demand-of : a.number ≡ 0 → Demand s before after a
  demand-of z = record { answer = answer-is z; table = table_is z; rest = rest-is z; kept = promises s two (clear z); checked = λ c h. h ∙ check-is }

-- names of 12 bytes are long enough
pub twelve : 2 ≤ 12
twelve = omega arith

-- demand 3: whatever the promise of `bandrolt_flatten` allows with number 0
pub demand : (recipe before after : List ℕ) (a : Answer) → a ≡ verdict (recipe_of recipe) (length before) → after ≡ written (recipe_of recipe) before
    → a.number ≡ 0 → Demand (recipe_of recipe) before after a
unfolding recipe_of name_width
demand recipe before after a answers leaves z = demand-of (recipe_of recipe) twelve before after a answers leaves z
