-- What whoever asks for the size and then flattens finds: in an output that is long enough, and in one for which there is no table or no room.
-- Assumes nothing.
use mathlib.Core.Path.{◌≡◌, sym, ap, ◌∙◌}
use Prim.Native.Nat.{ℕ, ◌≤◌}
use native.Mathlib.Omega.{arith}
use mathlib.Core.Bool.{true, false, not, ◌&&◌, ◌||◌, true≢false}
use mathlib.Core.List.{List, ◌++◌}
use lib.Dec.{eqb, ltb}
use lib.ListN.{length, take, drop, length-take}
use borrow.Author.Tests.{eq-eqb, eqb-false, eqb-true, ltb-true, ltb-false}
use Rattle.names.proofs.Tests.{both, by_cases, or-none-right}
use Rattle.recipe.specs.Records.{Recipe}
use Rattle.composer.specs.declared.Answer.{Answer}
use Rattle.composer.specs.Flat.{flat}
use Rattle.composer.specs.Verdicts.{refused, verdict, written}
use Rattle.composer.proofs.Promises.{promises}
use Rattle.composer.proofs.Verdicts.{written-not, written-table}
use Rattle.sizes.specs.declared.Size.{Size}
use Rattle.sizes.specs.Size.{size}
use Rattle.sizes.proofs.Exact.{accepts-so, bytes-are, clear, leaves-so, refuses-alike, writes-whole}

module _ (s : Recipe) (r : Size) (sizes-it : r ≡ size s) (before : List ℕ) where
  -- where the size refuses, or there is no room, flattening leaves the output
  pub left-alone : not (eqb r.number 0) || ltb (length before) r.bytes ≡ true → before ≡ written s before
  unfolding refused
  left-alone e =
      by_cases (eqb r.number 0)
      (λ t. sym (leaves-so s r sizes-it (eqb-true r.number 0 t) before (ltb-true _ _ (rw (t, not) at e))))
      (λ t.
      let n = eqb-false r.number 0 t in
      sym (written-not s before (λ z. n (sym (ap (λ (a : Answer). a.number) (refuses-alike s r sizes-it n (length before))) ∙ z))))

  module _ (e : not (eqb r.number 0) || ltb (length before) r.bytes ≡ false) where
    z : r.number ≡ 0
    z = by_cases (eqb r.number 0) (eqb-true r.number 0) (λ t. absurd (true≢false (rw t at e)))

    l : r.bytes ≤ length before
    l = ltb-false (length before) r.bytes (or-none-right (not (eqb r.number 0)) _ e)

    part_length : length (take r.bytes before) ≡ r.bytes
    part_length = rw length-take (omega (arith, l))

    -- flattening into the part that is exactly so long says 0 with that count,
    pub answers-so : {a : Answer} → a ≡ verdict s (length (take r.bytes before)) → eqb a.number 0 && eqb a.count r.count ≡ true
    answers-so h =
        let k = h ∙ accepts-so s r sizes-it z (length (take r.bytes before)) (omega (arith, part_length)) in
        both (eq-eqb _ 0 (ap (λ (a : Answer). a.number) k)) (eq-eqb _ r.count (ap (λ (a : Answer). a.count) k))

    -- and leaves the output as flattening into the whole of it does
    pub part-is-all : 2 ≤ s.width → {part : List ℕ} → part ≡ written s (take r.bytes before) → part ++ drop r.bytes before ≡ written s before
    part-is-all two h =
        let whole = (promises s two (clear s r sizes-it z)).whole in
        ap (λ p. p ++ drop r.bytes before) (h ∙ writes-whole s r sizes-it z two (take r.bytes before) part_length)
        ∙ ap (λ n. flat s ++ drop n before) (bytes-are s r sizes-it z ∙ sym whole)
        ∙ sym (written-table s before (ap (λ (a : Answer). a.number) (accepts-so s r sizes-it z (length before) l)))
