-- The verdict and the rows: it accepts where no row applies, and where it accepts no row applies; and what the output is then.
-- Assumes nothing.
use Rattle.names.specs.declared.Reason.TheVariants.{NoRoom}
use Rattle.std.specs.Prelude.{Some}
use mathlib.Core.Path.{◌≡◌, refl, sym, ap, ◌∙◌}
use Prim.Native.Nat.{ℕ, ◌*◌, ◌≤◌, ◌<◌}
use native.Mathlib.Omega.{arith}
use mathlib.Core.List.{List, [], ◌∷◌, ◌++◌}
use lib.ListN.{length, drop, length-append, length-drop}
use lib.Dec.{eqb}
use borrow.Author.Tests.{eq-eqb, ne_eqb, eqb-true, eqb-false, ltb-false, lt-ltb, le-ltb}
use Rattle.names.specs.declared.Refusal.{Refusal}
use Rattle.names.specs.Judging.{row_number, row, judged}
use Rattle.names.proofs.Tests.{by_cases, by-option}
use Rattle.names.proofs.Judging.{row-applies, row-none, none-judged, judged-none, number-positive}
use Rattle.flat_table.specs.Table.{flat_length}
use Rattle.recipe.specs.Records.{Recipe}
use Rattle.recipe.specs.Reading.{at_start}
use Rattle.recipe.proofs.Rows.{not-at-start}
use Rattle.marks.specs.Marks.{survivors}
use Rattle.composer.specs.declared.Answer.{Answer}
use Rattle.composer.specs.Flat.{flat}
use Rattle.compose.specs.Rows.{refusal_rows, refusal_of, Unrefused}
use Rattle.composer.specs.Verdicts.{fault₁₃, accepted, refused, refused_or, verdict, written}
use Rattle.composer.proofs.Lengths.{flat-bytes}

module _ (s : Recipe) where
  -- a refusal by a row before 13 is the answer, whatever the room
  pub refuses : (r : Refusal) (room : ℕ) → refusal_of s ≡ Some r → refused (row_number r.reason) r.place ≡ verdict s room
  unfolding verdict refused_or
  refuses r room e = rw e

  -- where flattening accepts, no row applies
  pub unrefused : (room : ℕ) → (verdict s room).number ≡ 0 → Unrefused s
  unfolding refusal_of refused
  unrefused room e =
      by-option (refusal_of s)
      (judged-none (refusal_rows s))
      (λ r f.
      let n = ap (λ (a : Answer). a.number) (refuses r room f) ∙ e in
      absurd (omega (arith, number-positive r.reason)))

  -- and where none does the room decides
  decides : (room : ℕ) → Unrefused s → verdict s room ≡ refused_or (judged (row NoRoom (fault₁₃ s room) ∷ [])) (accepted s.width (length (survivors s)))
  unfolding verdict refusal_of refused_or
  decides room h = rw (none-judged (refusal_rows s) h)

  pub enough-room : (room : ℕ) → (verdict s room).number ≡ 0 → flat_length s.width * length (survivors s) ≤ room
  unfolding fault₁₃ refused_or refused
  enough-room room e =
      by-option (fault₁₃ s room)
      (λ f. ltb-false room (flat_length s.width * length (survivors s)) (not-at-start _ f))
      (λ p f.
      let d : verdict s room ≡ refused 13 p = decides room (unrefused room e) ∙ rw (row-applies NoRoom [] f) in
      let n = ap (λ (a : Answer). a.number) (sym d) ∙ e in
      absurd (omega arith))

  -- where no row applies, flattening accepts: number 0, place 0, the number of survivors, their bytes
  pub accepts : (room : ℕ) → Unrefused s → flat_length s.width * length (survivors s) ≤ room → verdict s room ≡ accepted s.width (length (survivors s))
  unfolding fault₁₃ at_start refused_or judged
  accepts room h l = decides room h ∙ rw (le-ltb room (flat_length s.width * length (survivors s)) l)

  -- with too little room it says 13, at 0
  pub lacks-room : (room : ℕ) → Unrefused s → room < flat_length s.width * length (survivors s) → verdict s room ≡ refused 13 0
  unfolding fault₁₃ at_start refused_or judged
  lacks-room room h l = decides room h ∙ rw (lt-ltb room (flat_length s.width * length (survivors s)) l)

  -- "both counts 0": an answer whose number is not 0 counts nothing
  pub refusal-counts : (room : ℕ) → ((verdict s room).number ≡ 0 → ⊥) → ((verdict s room).count ≡ 0) × ((verdict s room).bytes ≡ 0)
  unfolding verdict refused_or refused accepted
  refusal-counts room n =
      by-option (refusal_of s)
      (λ e.
      by-option (judged (row NoRoom (fault₁₃ s room) ∷ []))
      (λ f. absurd (n (rw (e, f))))
      (λ r f. rw (e, f) (refl, refl)))
      (λ r e. rw e (refl, refl))

  -- ---- the output afterwards
  pub written-table : (out : List ℕ) → (verdict s (length out)).number ≡ 0 → written s out ≡ flat s ++ drop (length (flat s)) out
  unfolding written
  written-table out e = rw (eq-eqb (verdict s (length out)).number 0 e)

  pub written-not : (out : List ℕ) → ((verdict s (length out)).number ≡ 0 → ⊥) → written s out ≡ out
  unfolding written
  written-not out n = rw (ne_eqb (verdict s (length out)).number 0 n)

  -- it is as long as before
  pub written-length : 2 ≤ s.width → (out : List ℕ) → length (written s out) ≡ length out
  written-length two out =
      by_cases (eqb (verdict s (length out)).number 0)
      (λ b.
      let e = eqb-true (verdict s (length out)).number 0 b in
      let h = unrefused (length out) e in
      let n = flat-bytes s two (row-none 3 (refusal_rows s) h) (row-none 7 (refusal_rows s) h) (row-none 5 (refusal_rows s) h) in
      rw (written-table out e, length-append, length-drop) (omega (arith, enough-room (length out) e)))
      (λ b. rw (written-not out (eqb-false (verdict s (length out)).number 0 b)))
