-- What flattening answers and writes, printed: the program's output.
-- Assumes nothing.
use mathlib.Core.Path.{◌≡◌, refl, sym, ap}
use Prim.Native.Nat.{ℕ, ◌*◌, ◌≤◌}
use native.Mathlib.Omega.{arith}
use mathlib.Core.List.{List}
use lib.ListN.{length, take, drop}
use lib.Dec.{eqb}
use lib.Seq.{take_at, take_all, length-take-le}
use borrow.Author.Tests.{eqb-true, eqb-false}
use Rattle.names.proofs.Judging.{row-none}
use Rattle.names.proofs.Tests.{by_cases}
use Rattle.flat_table.specs.Table.{flat_length}
use Rattle.recipe.specs.Records.{Recipe}
use Rattle.marks.specs.Marks.{survivors}
use Rattle.composer.specs.declared.Answer.{Answer}
use Rattle.composer.specs.Flat.{flat}
use Rattle.compose.specs.Rows.{refusal_rows}
use Rattle.composer.specs.Verdicts.{name_width, recipe_of, accepted, verdict, written}
use Rattle.composer.specs.Printed.{printed_of, printed, input_room, output_room, program_output}
use Rattle.composer.proofs.Verdicts.{unrefused, enough-room, accepts, refusal-counts, written-table, written-length}
use Rattle.composer.proofs.Lengths.{flat-bytes}

-- no more bytes are told than were lent
bytes-within : (s : Recipe) (room : ℕ) → (verdict s room).bytes ≤ room
unfolding accepted
bytes-within s room =
    by_cases (eqb (verdict s room).number 0)
    (λ b.
    let e = eqb-true (verdict s room).number 0 b in
    let fits = enough-room s room e in
    omega (arith, ap (λ (a : Answer). a.bytes) (accepts s room (unrefused s room e) fits)))
    (λ b. omega (arith, (refusal-counts s room (eqb-false (verdict s room).number 0 b)).1))

module _ (s : Recipe) (two : 2 ≤ s.width) (out : List ℕ) where
  -- the bytes told of are the flat table
  written-bytes : (verdict s (length out)).number ≡ 0 → take (verdict s (length out)).bytes (written s out) ≡ flat s
  unfolding accepted
  written-bytes e =
      let h = unrefused s (length out) e in
      let fits = enough-room s (length out) e in
      let long = flat-bytes s two (row-none 3 (refusal_rows s) h) (row-none 7 (refusal_rows s) h) (row-none 5 (refusal_rows s) h) in
      rw (written-table s out e, accepts s (length out) h fits) (take_at (flat s) (drop (length (flat s)) out) (flat_length s.width * length (survivors s)) long)

  -- what is printed of them is what is printed of the recipe
  printed-bytes : printed_of s.width (verdict s (length out)) (take (verdict s (length out)).bytes (written s out)) ≡ printed s (length out)
  unfolding printed printed_of
  printed-bytes =
      by_cases (eqb (verdict s (length out)).number 0)
      (λ b. ap (λ (t : List ℕ). printed_of s.width (verdict s (length out)) t) (written-bytes (eqb-true (verdict s (length out)).number 0 b)))
      (λ b. rw b)

module _ (input out : List ℕ) {a : Answer} {out' : List ℕ} (e : a ≡ verdict (recipe_of input) (length out)) (w : out' ≡ written (recipe_of input) out) where
  pub told-within : a.bytes ≤ length out'
  unfolding recipe_of name_width
  told-within = rw (e, w, written-length (recipe_of input) (omega arith) out) (bytes-within (recipe_of input) (length out))

  pub told-bytes : a.bytes ≡ length (take a.bytes out')
  told-bytes = sym (length-take-le a.bytes out' told-within)

  pub told-room : length out ≡ output_room → length (take a.bytes out') ≤ 65395
  unfolding output_room
  told-room l = omega (arith, told-bytes, ap (λ (x : Answer). x.bytes) e, bytes-within (recipe_of input) (length out))

  -- the whole: what is printed of the lent output is what the program writes
  pub output-is : length input ≤ input_room → length out ≡ output_room → printed_of name_width a (take a.bytes out') ≡ program_output input
  unfolding program_output recipe_of name_width
  output-is h l =
      let whole : take input_room input ≡ input = take_all input_room input h in
      rw (whole, w, e, printed-bytes (recipe_of input) (omega arith) out, l) refl
