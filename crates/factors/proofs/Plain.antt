-- Flattening with factors beside plain flattening, at any name width of two or more: accepted, the same answer and table; refused, the same refusal.
-- Assumes nothing.
use Rattle.names.specs.declared.Reason.TheVariants.{NoRoom}
use mathlib.Core.Path.{◌≡◌, refl, sym, ap, ◌∙◌}
use Prim.Native.Nat.{ℕ, ◌*◌, ◌≤◌, ◌<◌}
use mathlib.Core.List.{List, [], ◌∷◌, ◌++◌}
use lib.Dec.{ltb}
use lib.ListN.{length, take, drop}
use lib.Seq.{drop_at, take_at}
use borrow.Author.Tests.{ltb-false, ltb-true}
use Rattle.names.specs.Judging.{judged, row}
use Rattle.names.proofs.Judging.{judged-none, row-none}
use Rattle.names.proofs.Tests.{by_cases, by-option}
use Rattle.flat_table.specs.Table.{flat_length}
use Rattle.recipe.specs.Records.{Recipe}
use Rattle.marks.specs.Marks.{survivors}
use Rattle.compose.specs.Rows.{Unrefused, refusal_of, refusal_rows}
use Rattle.composer.specs.declared.Answer.{Answer}
use Rattle.composer.specs.Verdicts.{accepted, refused, verdict, written}
use Rattle.composer.proofs.Verdicts.{accepts, enough-room, lacks-room, refuses, unrefused, written-table}
use Rattle.factors.specs.declared.FactorsAnswer.{FactorsAnswer}
use Rattle.factors.specs.Companion.{both_fault₁₃, companion, companion_after, entry_length, factors_accepted, factors_refused, factors_refused_or, factors_verdict, rated, table_after}
use Rattle.factors.proofs.Answers.{enough-both, entries-lack, factors-accepts, factors-refuses, factors-unrefused, filled_is, filled-not, table-lacks}
use Rattle.factors.proofs.Entries.{companion-bytes}

-- the part of an answer that plain flattening gives
abbrev pub plain : FactorsAnswer → Answer
plain a = record { number = a.number; place = a.place; count = a.count; bytes = a.bytes }

module _ (s : Recipe) (before entries : List ℕ) (a : FactorsAnswer) (answers : a ≡ factors_verdict s (length before) (length entries)) where
  module _ (accepts₀ : a.number ≡ 0) where
    number_is : (factors_verdict s (length before) (length entries)).number ≡ 0
    number_is = ap (λ (b : FactorsAnswer). b.number) (sym answers) ∙ accepts₀

    pub clear : Unrefused s
    clear = factors-unrefused s (length before) (length entries) number_is

    rooms : (flat_length s.width * length (survivors s) ≤ length before) × (entry_length s.width * length (rated s) ≤ length entries)
    rooms = enough-both s (length before) (length entries) number_is

    answer-is : a ≡ factors_accepted s.width (length (survivors s)) (length (rated s))
    answer-is = answers ∙ factors-accepts s (length before) (length entries) clear rooms.0 rooms.1

    plain-accepts : verdict s (length before) ≡ accepted s.width (length (survivors s))
    plain-accepts = accepts s (length before) clear rooms.0

    -- plain flattening answers the same,
    pub same_answer_lem : verdict s (length before) ≡ plain a
    unfolding accepted factors_accepted
    same_answer_lem = plain-accepts ∙ ap plain (sym answer-is)

    -- and leaves the same table
    pub same-table : table_after s before (length entries) ≡ written s before
    unfolding table_after accepted
    same-table = filled_is _ _ before number_is ∙ sym (written-table s before (ap (λ (b : Answer). b.number) plain-accepts))

    -- "returns the entry count"
    pub entries-are : a.entries ≡ length (rated s)
    unfolding factors_accepted
    entries-are = ap (λ (b : FactorsAnswer). b.entries) answer-is

    -- the entries are the companion, and what is past them is as it was
    module _ (two : 2 ≤ s.width) {after : List ℕ} (leaves : after ≡ companion_after s (length before) entries) where
      companion-is : after ≡ companion s ++ drop (length (companion s)) entries
      unfolding companion_after
      companion-is = leaves ∙ filled_is _ _ entries number_is

      long : length (companion s) ≡ entry_length s.width * a.entries
      long =
          companion-bytes s two (row-none 3 (refusal_rows s) clear) (row-none 5 (refusal_rows s) clear) (row-none 7 (refusal_rows s) clear)
          ∙ ap (λ (n : ℕ). entry_length s.width * n) (sym entries-are)

      pub entry-bytes-are : take (entry_length s.width * a.entries) after ≡ companion s
      entry-bytes-are = rw companion-is (take_at (companion s) (drop (length (companion s)) entries) (entry_length s.width * a.entries) long)

      pub past-entries : drop (entry_length s.width * a.entries) after ≡ drop (entry_length s.width * a.entries) entries
      past-entries =
          rw companion-is
          (drop_at (companion s) (drop (length (companion s)) entries) (entry_length s.width * a.entries) long ∙ ap (λ (n : ℕ). drop n entries) long)

  -- where plain flattening refuses, this call refuses so, too
  pub same-refusal : ((verdict s (length before)).number ≡ 0 → ⊥) → (a.number ≡ (verdict s (length before)).number) × (a.place ≡ (verdict s (length before)).place)
  unfolding refusal_of factors_refused refused accepted
  same-refusal n =
      by-option (refusal_of s)
      (λ e.
      let h : Unrefused s = judged-none (refusal_rows s) e in
      by_cases (ltb (length before) (flat_length s.width * length (survivors s)))
      (λ t.
      let l = ltb-true (length before) _ t in
      rw (answers, table-lacks s (length before) (length entries) h l, lacks-room s (length before) h l) (refl, refl))
      (λ t. absurd (n (ap (λ (b : Answer). b.number) (accepts s (length before) h (ltb-false (length before) _ t))))))
      (λ r e. rw (answers, factors-refuses s (length before) (length entries) r e, ← refuses s r (length before) e) (refl, refl))

  -- ---- this call refuses
  module _ (refuses₀ : a.number ≡ 0 → ⊥) where
    refuses-is : (factors_verdict s (length before) (length entries)).number ≡ 0 → ⊥
    refuses-is z = refuses₀ (ap (λ (b : FactorsAnswer). b.number) answers ∙ z)

    -- "both outputs unchanged"
    pub unwritten : (table_after s before (length entries) ≡ before) × (companion_after s (length before) entries ≡ entries)
    unfolding table_after companion_after
    unwritten = (filled-not _ _ before refuses-is, filled-not _ _ entries refuses-is)

    -- "0 on a refusal"
    pub counts-nothing : (a.count ≡ 0) × ((a.bytes ≡ 0) × (a.entries ≡ 0))
    unfolding factors_verdict factors_refused_or factors_refused factors_accepted
    counts-nothing =
        rw answers
        (by-option (refusal_of s)
        (λ e.
        by-option (judged (row NoRoom (both_fault₁₃ s (length before) (length entries)) ∷ []))
        (λ f. absurd (refuses-is (rw (e, f))))
        (λ r f. rw (e, f) (refl, (refl, refl))))
        (λ r e. rw e (refl, (refl, refl))))

    -- where plain flattening accepts, for want of room for the companion alone
    pub only-room : (verdict s (length before)).number ≡ 0 → (a ≡ factors_refused 13 0) × (length entries < entry_length s.width * length (rated s))
    unfolding factors_accepted
    only-room e =
        let h = unrefused s (length before) e in
        by_cases (ltb (length entries) (entry_length s.width * length (rated s)))
        (λ t. let l = ltb-true (length entries) _ t in (answers ∙ entries-lack s (length before) (length entries) h l, l))
        (λ t.
        let v = factors-accepts s (length before) (length entries) h (enough-room s (length before) e) (ltb-false (length entries) _ t) in
        absurd (refuses-is (ap (λ (b : FactorsAnswer). b.number) v)))
