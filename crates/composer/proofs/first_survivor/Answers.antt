-- `composer::first_survivor` meets its contract: those before the one that the search finds are gone.
-- Assumes nothing.
use Rattle.std.proofs.Common.{rules, tests}
use Rattle.std.proofs.lemmas.Iterator.{first_from_Range}
use Prim.Native.Nat.{◌*◌, ◌+◌, ◌/◌}
use lib.Dec.{eqb}
use lib.ListN.{get_or, length}
use mathlib.Core.Bool.{true, false}
use mathlib.Core.Path.{◌≡◌}
use Rattle.composer.proofs.Surviving.{left-from}
use Rattle.composer.proofs.first_survivor.Goals as goal

pub returns : goal.returns
returns c =
    let rows = c.args.rows.now in
    left-from rows c.args.at (length rows / 5) c.find.result
    (first_from_Range _ _ _ _ (λ k. eqb (get_or rows (5 * k + 2) 0) 0 ≡ true) (λ k. eqb (get_or rows (5 * k + 2) 0) 0 ≡ false) c.find.ensures.ran (λ x q k. search (rules, tests)) (λ x q k. search (rules, tests)))
