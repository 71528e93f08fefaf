-- The verdict as it is found: by composing, then by the room; and the output then.
-- Assumes nothing.
use mathlib.Core.Path.{◌≡◌, sym, ap, ◌∙◌}
use mathlib.Core.List.{List, ◌++◌}
use Prim.Native.Nat.{ℕ, ◌*◌, ◌≤◌, ◌<◌}
use native.Mathlib.Omega.{arith}
use native.Mathlib.Nat.{mul_comm}
use lib.ListN.{length, drop}
use Rattle.std.specs.Prelude.{Some}
use Rattle.names.specs.declared.Refusal.{Refusal}
use Rattle.names.specs.Judging.{row_number}
use Rattle.names.proofs.Judging.{number-positive}
use Rattle.flat_table.specs.Table.{flat_length}
use Rattle.recipe.specs.Records.{Recipe}
use Rattle.marks.specs.Marks.{survivors}
use Rattle.composer.specs.declared.Answer.{Answer}
use Rattle.composer.specs.Flat.{flat}
use Rattle.compose.specs.Rooms.{Width}
use Rattle.compose.specs.Rows.{Unrefused, refusal_of}
use Rattle.composer.specs.Verdicts.{accepted, name_width, recipe_of, refused, verdict, written}
use Rattle.composer.proofs.Verdicts.{refuses, accepts, lacks-room, written-table, written-not}

module _ (s : Recipe) where
  -- a refusal of any row leaves the output
  refusal-keeps : (n p : ℕ) (out : List ℕ) → (n ≡ 0 → ⊥) → refused n p ≡ verdict s (length out) → out ≡ written s out
  unfolding refused
  refusal-keeps n p out n₀ e = sym (written-not s out (λ z. n₀ (ap (λ (a : Answer). a.number) e ∙ z)))

  -- ---- a row before 13 refuses
  module _ (r : Refusal) (out : List ℕ) (e : Some r ≡ refusal_of s) where
    pub compose-refuses : refused (row_number r.reason) r.place ≡ verdict s (length out)
    compose-refuses = refuses s r (length out) (sym e)

    pub compose-keeps : out ≡ written s out
    compose-keeps = refusal-keeps (row_number r.reason) r.place out (λ z. omega (arith, number-positive r.reason, z)) compose-refuses

  -- ---- none of them does: the room decides
  module _ (h : Unrefused s) {k row : ℕ} (k-is : k ≡ length (survivors s)) (row_is : row ≡ flat_length s.width) (out : List ℕ) where
    product : k * row ≡ flat_length s.width * length (survivors s)
    product = rw (k-is, row_is) (mul_comm (length (survivors s)) (flat_length s.width))

    module _ (l : length out < k * row) where
      pub room-refuses : refused 13 0 ≡ verdict s (length out)
      room-refuses = sym (lacks-room s (length out) h (omega (arith, product)))

      pub room-keeps : out ≡ written s out
      room-keeps = refusal-keeps 13 0 out (λ z. omega arith) room-refuses

    module _ (l : k * row ≤ length out) where
      pub enough : flat_length s.width * length (survivors s) ≤ length out
      enough = omega (arith, product)

      pub flattened : record { number = 0; place = 0; count = k; bytes = k * row } ≡ verdict s (length out)
      unfolding accepted
      flattened = same ∙ sym (accepts s (length out) h enough)
        where
          same : record { number = 0; place = 0; count = k; bytes = k * row } ≡ accepted s.width (length (survivors s))
          same = rw (product, k-is)

      pub table-written : (after : List ℕ) → after ≡ flat s ++ drop (length (flat s)) out → after ≡ written s out
      unfolding accepted
      table-written after e = e ∙ sym (written-table s out (ap (λ (a : Answer). a.number) (accepts s (length out) h enough)))

-- a recipe of 01's name width has a width that composing takes
pub width-fits : {r : Recipe} (b : List ℕ) → r ≡ recipe_of b → Width r.width
unfolding recipe_of name_width
width-fits b e = let w = ap (λ (r : Recipe). r.width) e in record { wide = omega (arith, w); narrow = omega (arith, w) }
