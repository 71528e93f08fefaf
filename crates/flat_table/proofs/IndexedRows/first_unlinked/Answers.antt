-- `IndexedRows::first_unlinked` meets its contract: the first of the places at which the row applies.
-- Assumes nothing.
use Prim.Native.Nat.{◌*◌}
use mathlib.Core.Bool.{true, false}
use mathlib.Core.Path.{◌≡◌, ap, ◌∙◌}
use native.Mathlib.Omega.{arith}
use borrow.Author.Rules.{rules}
use Rattle.names.specs.Lists.{first}
use Rattle.std.proofs.lemmas.Iterator.{YieldsList-from_map, YieldsList-from_range, first_from_find}
use Rattle.flat_table.specs.Table.{is_row_fault, fault₁₇}
use Rattle.flat_table.proofs.Places.{places-are, found-first}
use Rattle.flat_table.proofs.IndexedRows.first_unlinked.Goals as goal

pub returns : goal.returns
unfolding fault₁₇ is_row_fault
returns c =
    let r = c.args.self.now.rows in
    let s = r.layout.stride in
    let f = is_row_fault r.layout.width s r.bytes.now in
    found-first f _ _
    (first_from_find _ _ _ (λ p. f p ≡ true) (λ p. f p ≡ false) c.find.ensures.ran
    (YieldsList-from_map _ (λ p. p * s) (YieldsList-from_range 0 _ _ c.map.ensures.source (omega arith)) c.map.ensures.closure (λ x y q k. search rules)) (λ x q k. search rules) (λ x q k. search rules))
    ∙ ap (first f) (places-are r.layout.width s r.bytes.now c.count.ensures.number)
