-- The size of a recipe's table beside the verdict of flattening, at any name width of two or more: what fits exactly, what one byte less gives, and the refusals.
-- Assumes nothing.
use Rattle.std.specs.Prelude.{Some}
use mathlib.Core.Path.{◌≡◌, refl, sym, ap, ◌∙◌}
use Prim.Native.Nat.{ℕ, ◌*◌, ◌-◌, ◌≤◌, ◌<◌}
use native.Mathlib.Omega.{arith}
use native.Mathlib.Nat.{mul-le-mul}
use mathlib.Core.Bool.{Bool, true, not, true≢false}
use mathlib.Core.List.{List, [], ◌∷◌, ◌++◌, append-nil}
use lib.Dec.{eqb, ltb}
use lib.ListN.{length, drop_of_length-le}
use borrow.Author.Tests.{eqb-false, ltb-false, ltb-true}
use Rattle.names.specs.declared.Refusal.{Refusal}
use Rattle.names.specs.Lists.{every}
use Rattle.names.specs.Judging.{Row, judged, refusal_at, row_number}
use Rattle.names.proofs.Judging.{judged-none, number-positive}
use Rattle.names.proofs.Tests.{by_cases, by-option, some-none, the-some}
use Rattle.flat_table.specs.Table.{flat_length}
use Rattle.recipe.specs.Records.{Recipe}
use Rattle.marks.specs.Marks.{survivors}
use Rattle.compose.specs.Rows.{Unrefused, refusal_of, refusal_rows}
use Rattle.composer.specs.declared.Answer.{Answer}
use Rattle.composer.specs.Flat.{flat}
use Rattle.composer.specs.Verdicts.{accepted, refused, verdict, written}
use Rattle.composer.proofs.Promises.{promises}
use Rattle.composer.proofs.Verdicts.{accepts, lacks-room, refuses, written-not, written-table}
use Rattle.sizes.specs.declared.Size.{Size}
use Rattle.sizes.specs.Size.{longest_name, size, size_refused, sized}
use Rattle.sizes.proofs.Sizing.{refused-is, unrefused-is}

-- none of the rows is 13
without-13 : List Row → Bool
without-13 rs = every (λ r. not (eqb (row_number r.reason) 13)) rs

judged-no-13 : (rs : List Row) (f : Refusal) → without-13 rs ≡ true → judged rs ≡ Some f → row_number f.reason ≡ 13 → ⊥
unfolding judged without-13
judged-no-13 [] f h e n = some-none (sym e)
judged-no-13 (r ∷ rs) f h e n =
    by_cases (eqb (row_number r.reason) 13)
    (λ t. true≢false (sym (rw (t, every) at h)))
    (λ t.
    by-option r.fault
    (λ o. judged-no-13 rs f (rw (t, every) at h) (rw (o, judged) at e) n)
    (λ p o.
    let is : refusal_at r.reason p ≡ f = the-some (rw (o, judged) at e) in
    eqb-false (row_number r.reason) 13 t (ap (λ (g : Refusal). row_number g.reason) is ∙ n)))

module _ (s : Recipe) where
  -- where its number is 0 no row applies
  pub unrefused-size : (size s).number ≡ 0 → Unrefused s
  unfolding refusal_of size_refused
  unrefused-size e =
      by-option (refusal_of s)
      (judged-none (refusal_rows s))
      (λ f h.
      let n = ap (λ (r : Size). r.number) (refused-is s f (sym h)) ∙ e in
      absurd (omega (arith, number-positive f.reason)))

module _ (s : Recipe) (r : Size) (sizes-it : r ≡ size s) where
  -- ---- the size refuses
  module _ (refuses₀ : r.number ≡ 0 → ⊥) where
    -- by a row of the recipe
    by-row : (f : Refusal) × (refusal_of s ≡ Some f) × (r ≡ size_refused (row_number f.reason) f.place)
    unfolding refusal_of sized
    by-row =
        by-option (refusal_of s)
        (λ e. absurd (refuses₀ (ap (λ (a : Size). a.number) (sizes-it ∙ sym (unrefused-is s (judged-none (refusal_rows s) e))))))
        (λ f e. (f, e, sizes-it ∙ sym (refused-is s f (sym e))))

    -- flattening refuses so, whatever the room
    pub refuses-alike : (room : ℕ) → verdict s room ≡ refused r.number r.place
    unfolding size_refused
    refuses-alike room =
        let f = by-row in
        sym (refuses s f.0 room f.1) ∙ ap (λ (a : Size). refused a.number a.place) (sym f.2)

    -- "all but 13"
    pub is-not-13 : r.number ≡ 13 → ⊥
    unfolding refusal_of size_refused without-13
    is-not-13 e =
        let f = by-row in
        judged-no-13 (refusal_rows s) f.0 refl f.1 (sym (ap (λ (a : Size). a.number) f.2) ∙ e)

    -- "all three numbers 0"
    pub counts-nothing : (r.count ≡ 0) × ((r.bytes ≡ 0) × (r.longest ≡ 0))
    unfolding size_refused
    counts-nothing = rw by-row.2 (refl, (refl, refl))

  -- where flattening refuses with anything but 13 the size refuses so
  pub refused-alike : (room : ℕ) → ((verdict s room).number ≡ 0 → ⊥) → ((verdict s room).number ≡ 13 → ⊥)
      → r ≡ size_refused (verdict s room).number (verdict s room).place
  unfolding refusal_of refused accepted
  refused-alike room n m =
      by-option (refusal_of s)
      (λ e.
      let h : Unrefused s = judged-none (refusal_rows s) e in
      by_cases (ltb room (flat_length s.width * length (survivors s)))
      (λ t. absurd (m (ap (λ (a : Answer). a.number) (lacks-room s room h (ltb-true room _ t)))))
      (λ t. absurd (n (ap (λ (a : Answer). a.number) (accepts s room h (ltb-false room _ t))))))
      (λ f e. sizes-it ∙ sym (refused-is s f (sym e)) ∙ ap (λ (a : Answer). size_refused a.number a.place) (refuses s f room e))

  -- ---- the size is 0
  module _ (accepts₀ : r.number ≡ 0) where
    pub clear : Unrefused s
    clear = unrefused-size s (ap (λ (a : Size). a.number) (sym sizes-it) ∙ accepts₀)

    is : r ≡ sized s
    is = sizes-it ∙ sym (unrefused-is s clear)

    pub count-is : r.count ≡ length (survivors s)
    unfolding sized
    count-is = ap (λ (a : Size). a.count) is

    pub bytes-are : r.bytes ≡ flat_length s.width * length (survivors s)
    unfolding sized
    bytes-are = ap (λ (a : Size). a.bytes) is

    pub longest-is : r.longest ≡ longest_name s
    unfolding sized
    longest-is = ap (λ (a : Size). a.longest) is

    -- flattening into so many bytes or more accepts
    pub accepts-so : (room : ℕ) → r.bytes ≤ room → verdict s room ≡ record { number = 0; place = 0; count = r.count; bytes = r.bytes }
    unfolding accepted sized
    accepts-so room l =
        accepts s room clear (omega (arith, bytes-are)) ∙ ap (λ (a : Size). record { number = 0; place = 0; count = a.count; bytes = a.bytes }) (sym is)

    -- into fewer it is refused for want of room, and leaves the output
    pub refuses-fewer : (room : ℕ) → room < r.bytes → verdict s room ≡ refused 13 0
    refuses-fewer room l = lacks-room s room clear (omega (arith, bytes-are))

    pub leaves-so : (before : List ℕ) → length before < r.bytes → written s before ≡ before
    unfolding refused
    leaves-so before l =
        written-not s before (λ z. let n = ap (λ (a : Answer). a.number) (refuses-fewer (length before) l) in omega (arith, n, z))

    -- one byte less is fewer, if there is a record
    pub fewer : (r.count ≡ 0 → ⊥) → (room : ℕ) → room ≡ r.bytes - 1 → room < r.bytes
    unfolding flat_length
    fewer n room e = omega (arith, bytes-are, mul-le-mul some_bytes some_records)
      where
        some_bytes : 1 ≤ flat_length s.width
        some_bytes = omega arith

        some_records : 1 ≤ length (survivors s)
        some_records = omega (arith, n, count-is)

    -- an output that is exactly so long is the table afterwards
    pub writes-whole : 2 ≤ s.width → (before : List ℕ) → length before ≡ r.bytes → written s before ≡ flat s
    writes-whole two before e =
        let whole = (promises s two clear).whole in
        written-table s before (ap (λ (a : Answer). a.number) (accepts-so (length before) (omega (arith, e))))
        ∙ ap (λ l. flat s ++ l) (drop_of_length-le before (omega (arith, e, whole, bytes-are)))
        ∙ append-nil (flat s)
