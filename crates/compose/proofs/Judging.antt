-- What is known of a recipe where rows 1 to 3 do not apply, and row 7 by what planting answers.
-- Assumes nothing.
use Rattle.std.specs.Prelude.{None, Option, Some, Result, Ok, Err, is_some}
use Rattle.std.specs.Option.{ok_or}
use mathlib.Core.Path.{◌≡◌, ap, sym, ◌∙◌}
use mathlib.Core.Bool.{true, false, not, not-not, ◌||◌}
use mathlib.Core.List.{List, ◌∷◌}
use Prim.Native.Nat.{ℕ, ◌≤◌, ◌<◌}
use native.Mathlib.Omega.{arith}
use lib.ListN.{length}
use lib.Dec.{eqb, ltb}
use borrow.Author.Tests.{eqb-false, ltb-false}
use Rattle.names.proofs.Tests.{or-none-left, or-none-right}
use Rattle.names.specs.declared.Reason.TheVariants.{TooLarge}
use Rattle.names.specs.declared.Refusal.{Refusal}
use Rattle.names.specs.Judging.{Row, judged, refusal_at, row}
use Rattle.names.proofs.Judging.{row-applies, row-none}
use Rattle.recipe.specs.Records.{Recipe}
use Rattle.recipe.specs.Reading.{at_start, most_bytes, fault₁, form_rows}
use Rattle.recipe.proofs.Rows.{not-at-start}
use Rattle.recipe.proofs.Reading.{read_through}
use Rattle.shadow.specs.Shadow.{Shadowed}
use Rattle.tree.specs.declared.Size.{Size}
use Rattle.tree.specs.Faults.{is_too_large, fault₇}
use Rattle.compose.specs.Rooms.{NamesRequires}

the-err : {T E : Type 0} {a b : E} → ◌≡◌ {A = Result T E} (Err a) (Err b) → a ≡ b
the-err z = cc

the-ok : {T E : Type 0} {a b : T} → ◌≡◌ {A = Result T E} (Ok a) (Ok b) → a ≡ b
the-ok z = cc

not_err : {T E X : Type 0} {a : T} {e : E} → ◌≡◌ {A = Result T E} (Ok a) (Err e) → X
not_err z = absurd (let k : ◌≡◌ {A = ℕ} 0 1 = cc in omega arith)

module _ (s : Recipe) where
  -- ---- row 1 does not apply: the recipe is short, and not empty
  length-passes : fault₁ s ≡ None → eqb (length s.bytes) 0 || ltb 16384 (length s.bytes) ≡ false
  unfolding fault₁ at_start most_bytes
  length-passes h = not-at-start _ h

  short : fault₁ s ≡ None → length s.bytes ≤ 16384
  short h = ltb-false 16384 (length s.bytes) (or-none-right (eqb (length s.bytes) 0) (ltb 16384 (length s.bytes)) (length-passes h))

  pub some_bytes : fault₁ s ≡ None → 0 < length s.bytes
  some_bytes h = omega (arith, eqb-false (length s.bytes) 0 (or-none-left (eqb (length s.bytes) 0) (ltb 16384 (length s.bytes)) (length-passes h)))

  -- the table is its shadow
  pub shadowed-is : (t : List ℕ) → NamesRequires s t → Shadowed s t
  shadowed-is t n =
      let few = short (row-none 1 (form_rows s) n.formed) in
      record {
        wide = n.width_is.wide;
        narrow = n.width_is.narrow;
        short = few;
        whole = read_through s (row-none 2 (form_rows s) n.formed);
        room = omega (arith, n.cells);
      }

  -- ---- row 7, by what planting answers
  pub large : is_too_large s ≡ true → fault₇ s ≡ Some 0
  unfolding fault₇ at_start
  large e = rw e

  pub small : is_too_large s ≡ false → fault₇ s ≡ None
  unfolding fault₇ at_start
  small e = rw e

  pub not-planted : (r : Option Size) {e : Refusal} (rs : List Row) → is_some r ≡ not (is_too_large s) → ok_or r (refusal_at TooLarge 0) ≡ Err e → Some e ≡ judged (row TooLarge (fault₇ s) ∷ rs)
  not-planted None rs h z = ap Some (sym (the-err z)) ∙ sym (row-applies TooLarge rs (large (sym (not-not (is_too_large s)) ∙ ap not (sym h))))
  not-planted (Some n) rs h z = not_err z

  pub is-planted : (r : Option Size) {n : Size} → is_some r ≡ not (is_too_large s) → ok_or r (refusal_at TooLarge 0) ≡ Ok n → (r ≡ Some n) × (fault₇ s ≡ None)
  is-planted None h z = not_err (sym z)
  is-planted (Some n) h z = (ap Some (the-ok z), small (sym (not-not (is_too_large s)) ∙ ap not (sym h)))
