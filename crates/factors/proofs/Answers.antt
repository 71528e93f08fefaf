-- The answer as it is found: by composing, then by the rooms; and both outputs then.
-- Assumes nothing.
use Rattle.names.specs.declared.Reason.TheVariants.{NoRoom}
use Rattle.std.specs.Prelude.{Some}
use mathlib.Core.Path.{◌≡◌, sym, ap, ◌∙◌}
use mathlib.Core.List.{List, [], ◌∷◌, ◌++◌}
use mathlib.Core.Bool.{◌||◌}
use Prim.Native.Nat.{ℕ, ◌*◌, ◌≤◌, ◌<◌}
use native.Mathlib.Omega.{arith}
use native.Mathlib.Nat.{mul_comm}
use lib.Dec.{ltb}
use lib.ListN.{length, drop}
use borrow.Author.Tests.{eq-eqb, le-ltb, lt-ltb, ltb-false, ne_eqb}
use Rattle.names.specs.declared.Refusal.{Refusal}
use Rattle.names.specs.Judging.{judged, row_number, row}
use Rattle.names.proofs.Judging.{judged-none, none-judged, number-positive, row-applies}
use Rattle.names.proofs.Tests.{by-option, or-none-left, or-none-right, or_right}
use Rattle.flat_table.specs.Table.{flat_length}
use Rattle.recipe.specs.Reading.{at_start}
use Rattle.recipe.specs.Records.{Recipe}
use Rattle.recipe.proofs.Rows.{not-at-start}
use Rattle.marks.specs.Marks.{survivors}
use Rattle.compose.specs.Rows.{Unrefused, refusal_of, refusal_rows}
use Rattle.composer.specs.Flat.{flat}
use Rattle.factors.specs.declared.FactorsAnswer.{FactorsAnswer}
use Rattle.factors.specs.Companion.{both_fault₁₃, companion, companion_after, entry_length, factors_accepted, factors_refused, factors_refused_or, factors_verdict, filled_with, rated, table_after}

-- ---- an output
pub filled_is : (a : FactorsAnswer) (table out : List ℕ) → a.number ≡ 0 → filled_with a table out ≡ table ++ drop (length table) out
unfolding filled_with
filled_is a table out e = rw (eq-eqb a.number 0 e)

pub filled-not : (a : FactorsAnswer) (table out : List ℕ) → (a.number ≡ 0 → ⊥) → filled_with a table out ≡ out
unfolding filled_with
filled-not a table out n = rw (ne_eqb a.number 0 n)

module _ (s : Recipe) (room companion_room : ℕ) where
  table_bytes : ℕ
  table_bytes = flat_length s.width * length (survivors s)

  entry_bytes : ℕ
  entry_bytes = entry_length s.width * length (rated s)

  -- a refusal by the recipe is the answer, whatever the rooms
  pub factors-refuses : (r : Refusal) → refusal_of s ≡ Some r → factors_verdict s room companion_room ≡ factors_refused (row_number r.reason) r.place
  unfolding factors_verdict factors_refused_or
  factors-refuses r e = rw e

  -- where there is none the rooms decide
  decides : Unrefused s
      → factors_verdict s room companion_room
      ≡ factors_refused_or (judged (row NoRoom (both_fault₁₃ s room companion_room) ∷ [])) (factors_accepted s.width (length (survivors s)) (length (rated s)))
  unfolding factors_verdict refusal_of factors_refused_or
  decides h = rw (none-judged (refusal_rows s) h)

  pub factors-unrefused : (factors_verdict s room companion_room).number ≡ 0 → Unrefused s
  unfolding refusal_of factors_refused
  factors-unrefused e =
      by-option (refusal_of s)
      (judged-none (refusal_rows s))
      (λ r f.
      let n = ap (λ (a : FactorsAnswer). a.number) (sym (factors-refuses r f)) ∙ e in
      absurd (omega (arith, number-positive r.reason)))

  pub table-lacks : Unrefused s → room < flat_length s.width * length (survivors s) → factors_verdict s room companion_room ≡ factors_refused 13 0
  unfolding both_fault₁₃ at_start factors_refused_or judged
  table-lacks h l = decides h ∙ rw (lt-ltb room (flat_length s.width * length (survivors s)) l)

  pub entries-lack : Unrefused s → companion_room < entry_length s.width * length (rated s) → factors_verdict s room companion_room ≡ factors_refused 13 0
  unfolding both_fault₁₃ at_start factors_refused_or judged
  entries-lack h l =
      let b = or_right (ltb room (flat_length s.width * length (survivors s))) (ltb companion_room (entry_length s.width * length (rated s))) (lt-ltb companion_room (entry_length s.width * length (rated s)) l) in
      decides h ∙ rw b

  pub factors-accepts : Unrefused s → flat_length s.width * length (survivors s) ≤ room → entry_length s.width * length (rated s) ≤ companion_room
      → factors_verdict s room companion_room ≡ factors_accepted s.width (length (survivors s)) (length (rated s))
  unfolding both_fault₁₃ at_start factors_refused_or judged
  factors-accepts h l m =
      decides h
      ∙ rw (le-ltb room (flat_length s.width * length (survivors s)) l, le-ltb companion_room (entry_length s.width * length (rated s)) m)

  -- accepted, there is room for both
  pub enough-both : (factors_verdict s room companion_room).number ≡ 0
      → (flat_length s.width * length (survivors s) ≤ room) × (entry_length s.width * length (rated s) ≤ companion_room)
  unfolding both_fault₁₃ factors_refused_or factors_refused
  enough-both e =
      by-option (both_fault₁₃ s room companion_room)
      (λ f.
      let a = ltb room (flat_length s.width * length (survivors s)) in
      let b = ltb companion_room (entry_length s.width * length (rated s)) in
      let n = not-at-start (a || b) f in
      (ltb-false room _ (or-none-left a b n), ltb-false companion_room _ (or-none-right a b n)))
      (λ p f.
      let d : factors_verdict s room companion_room ≡ factors_refused 13 p = decides (factors-unrefused e) ∙ rw (row-applies NoRoom [] f) in
      let n = ap (λ (a : FactorsAnswer). a.number) (sym d) ∙ e in
      absurd (omega arith))

-- ---- what the call leaves
-- the answer r, and both outputs afterwards
abbrev pub Outcome : Recipe → List ℕ → List ℕ → FactorsAnswer → List ℕ → List ℕ → Type 0
Outcome s out entries r out' entries' =
    (r ≡ factors_verdict s (length out) (length entries)) × ((out' ≡ table_after s out (length entries)) × (entries' ≡ companion_after s (length out) entries))

module _ (s : Recipe) (out entries : List ℕ) where
  refused-outcome : (n p : ℕ) → (n ≡ 0 → ⊥) → {r : FactorsAnswer} → r ≡ factors_refused n p → factors_verdict s (length out) (length entries) ≡ factors_refused n p → Outcome s out entries r out entries
  unfolding table_after companion_after factors_refused
  refused-outcome n p z {r} e v =
      let a = factors_verdict s (length out) (length entries) in
      let m : a.number ≡ 0 → ⊥ = λ k. z (ap (λ (b : FactorsAnswer). b.number) (sym v) ∙ k) in
      (e ∙ sym v, (sym (filled-not a (flat s) out m), sym (filled-not a (companion s) entries m)))

  pub compose-outcome : (q : Refusal) → Some q ≡ refusal_of s → {r : FactorsAnswer} → r ≡ factors_refused (row_number q.reason) q.place → Outcome s out entries r out entries
  compose-outcome q h e = refused-outcome (row_number q.reason) q.place (λ z. omega (arith, number-positive q.reason, z)) e (factors-refuses s (length out) (length entries) q (sym h))

  module _ (h : Unrefused s) {n k row : ℕ} (n-is : n ≡ length (survivors s)) (k-is : k ≡ length (rated s)) (row_is : row ≡ flat_length s.width) where
    product : n * row ≡ flat_length s.width * length (survivors s)
    product = rw (n-is, row_is) (mul_comm (length (survivors s)) (flat_length s.width))

    pub table-short : length out < n * row → {r : FactorsAnswer} → r ≡ factors_refused 13 0 → Outcome s out entries r out entries
    table-short l e = refused-outcome 13 0 (λ z. omega arith) e (table-lacks s (length out) (length entries) h (omega (arith, product)))

    module _ {entry : ℕ} (entry-is : entry ≡ entry_length s.width) where
      entry-product : k * entry ≡ entry_length s.width * length (rated s)
      entry-product = rw (k-is, entry-is) (mul_comm (length (rated s)) (entry_length s.width))

      pub entries-short : length entries < k * entry → {r : FactorsAnswer} → r ≡ factors_refused 13 0 → Outcome s out entries r out entries
      entries-short l e = refused-outcome 13 0 (λ z. omega arith) e (entries-lack s (length out) (length entries) h (omega (arith, entry-product)))

      module _ (l : n * row ≤ length out) (m : k * entry ≤ length entries) where
        pub enough : (flat_length s.width * length (survivors s) ≤ length out) × (entry_length s.width * length (rated s) ≤ length entries)
        enough = (omega (arith, product), omega (arith, entry-product))

        pub both-outcome : {out' entries' : List ℕ} → (out' ≡ flat s ++ drop (length (flat s)) out) × (entries' ≡ companion s ++ drop (length (companion s)) entries)
            → Outcome s out entries (record { number = 0; place = 0; count = n; bytes = n * row; entries = k }) out' entries'
        unfolding table_after companion_after factors_accepted
        both-outcome w =
            let a = factors_verdict s (length out) (length entries) in
            let v = factors-accepts s (length out) (length entries) h enough.0 enough.1 in
            let z : a.number ≡ 0 = ap (λ (b : FactorsAnswer). b.number) v in
            let same : record { number = 0; place = 0; count = n; bytes = n * row; entries = k } ≡ factors_accepted s.width (length (survivors s)) (length (rated s)) =
            rw (product, n-is, k-is) in
            (same ∙ sym v, (w.0 ∙ sym (filled_is a (flat s) out z), w.1 ∙ sym (filled_is a (companion s) entries z)))
