-- The answers of the size and of flattening beside one another, at any name width: what each statement cites.
-- Assumes nothing.
use mathlib.Core.Path.{◌≡◌, sym, ap, ◌∙◌}
use Prim.Native.Nat.{ℕ, ◌-◌, ◌≤◌}
use native.Mathlib.Omega.{arith}
use mathlib.Core.List.{List}
use lib.Dec.{eqb}
use lib.ListN.{length, take}
use borrow.Author.Tests.{eqb-true, eqb-false}
use Rattle.names.specs.Lists.{In}
use Rattle.names.proofs.Tests.{by_cases}
use Rattle.flat_table.specs.Table.{flat_width}
use Rattle.recipe.specs.Records.{Recipe}
use Rattle.marks.specs.Marks.{survivors}
use Rattle.compose.specs.Rows.{Unrefused}
use Rattle.composer.specs.declared.Answer.{Answer}
use Rattle.composer.specs.Verdicts.{accepted, refused, verdict, written}
use Rattle.composer.proofs.Demand.{Demand, demand-of}
use Rattle.composer.proofs.Verdicts.{unrefused}
use Rattle.sizes.specs.declared.Size.{Size}
use Rattle.sizes.specs.Size.{size, size_refused, sized}
use Rattle.sizes.specs.NameFields.{characters_at, places_of}
use Rattle.sizes.proofs.Exact.{accepts-so, clear, counts-nothing, fewer, is-not-13, leaves-so, longest-is, refused-alike, refuses-alike, refuses-fewer}
use Rattle.sizes.proofs.Sizing.{unrefused-is}
use Rattle.sizes.proofs.Longest.{longest-fits, no-field-longer, one-field-longest}

module _ (s : Recipe) (r : Size) (sizes-it : r ≡ size s) (before : List ℕ) where
  module _ (b : Answer) (answers : b ≡ verdict s (length before)) where
    pub fits-exactly : r.number ≡ 0 → length before ≡ r.bytes → b ≡ record { number = 0; place = 0; count = r.count; bytes = r.bytes }
    fits-exactly z e = answers ∙ accepts-so s r sizes-it z (length before) (omega (arith, e))

    pub refused-beside : (r.number ≡ 0 → ⊥) → (b.number ≡ r.number) × (b.place ≡ r.place)
    unfolding refused
    refused-beside n =
        let e = answers ∙ refuses-alike s r sizes-it n (length before) in
        (ap (λ (a : Answer). a.number) e, ap (λ (a : Answer). a.place) e)

    pub refused_by_both : (b.number ≡ 0 → ⊥) → (b.number ≡ 13 → ⊥) → (r.number ≡ b.number) × (r.place ≡ b.place)
    unfolding size_refused
    refused_by_both n m =
        let e = refused-alike s r sizes-it (length before) (rw answers at n) (rw answers at m) ∙ ap (λ (a : Answer). size_refused a.number a.place) (sym answers) in
        (ap (λ (a : Size). a.number) e, ap (λ (a : Size). a.place) e)

  module _ (after : List ℕ) (b : Answer) (answers : b ≡ verdict s (length before)) (leaves : after ≡ written s before) where
    pub lacks-one : r.number ≡ 0 → (r.count ≡ 0 → ⊥) → length before ≡ r.bytes - 1
        → (b ≡ record { number = 13; place = 0; count = 0; bytes = 0 }) × (after ≡ before)
    unfolding refused
    lacks-one z n e =
        let l = fewer s r sizes-it z n (length before) e in
        (answers ∙ refuses-fewer s r sizes-it z (length before) l, leaves ∙ leaves-so s r sizes-it z before l)

module _ (s : Recipe) (r : Size) (sizes-it : r ≡ size s) where
  pub never-13 : r.number ≡ 13 → ⊥
  never-13 e = is-not-13 s r sizes-it (λ z. omega (arith, z, e)) e

module _ (s : Recipe) (two : 2 ≤ s.width) (r : Size) (sizes-it : r ≡ size s) where
  pub longest-most : r.longest ≤ flat_width s.width
  longest-most =
      by_cases (eqb r.number 0)
      (λ t.
      let z = eqb-true r.number 0 t in
      omega (arith, longest-is s r sizes-it z, longest-fits s two (clear s r sizes-it z)))
      (λ t. omega (arith, (counts-nothing s r sizes-it (eqb-false r.number 0 t)).1.1))

  module _ (before after : List ℕ) (b : Answer) (answers : b ≡ verdict s (length before)) (leaves : after ≡ written s before) (accepts₀ : b.number ≡ 0) where
    free : Unrefused s
    free = unrefused s (length before) (ap (λ (a : Answer). a.number) (sym answers) ∙ accepts₀)

    is-0 : r.number ≡ 0
    unfolding sized
    is-0 = ap (λ (a : Size). a.number) (sizes-it ∙ sym (unrefused-is s free))

    demanded : Demand s before after b
    demanded = demand-of s two before after b answers leaves accepts₀

    count-is : b.count ≡ length (survivors s)
    unfolding accepted
    count-is = ap (λ (a : Answer). a.count) demanded.answer

    pub no-name-longer : (p : ℕ) → In p (places_of s.width (take b.bytes after)) → characters_at s.width (take b.bytes after) p ≤ r.longest
    no-name-longer = rw (demanded.table, longest-is s r sizes-it is-0) (no-field-longer s two free)

    pub one-name-longest : (b.count ≡ 0 → ⊥)
        → (p : ℕ) × In p (places_of s.width (take b.bytes after)) × (characters_at s.width (take b.bytes after) p ≡ r.longest)
    one-name-longest n = rw (demanded.table, longest-is s r sizes-it is-0) (one-field-longest s two free (rw count-is at n))
