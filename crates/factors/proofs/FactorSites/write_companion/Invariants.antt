-- `FactorSites::write_companion` meets its contract: with the entries of the survivors that are left, what is written is the whole companion; and the row has the factors of the last instance.
-- Assumes nothing.
use Rattle.std.specs.Prelude.{IfSome}
use mathlib.Core.Path.{◌≡◌}
use lib.ListN.{length}
use Rattle.recipe.specs.Records.{recipe}
use Rattle.composer.specs.Surviving.{survivors_left}
use Rattle.factors.specs.Sites.{RowFor}
use Rattle.factors.proofs.Entries.{Entering}
use Rattle.factors.proofs.FactorSites.write_companion.Given as goal

abbrev pub invariant-loop-e : goal.invariant-loop-e
invariant-loop-e l =
    let s = recipe l.c.tree.source.now in
    Entering s l.c.elements.now l.c.size.elems l.initial.out l.out (survivors_left l.e-iterator) l.p × ((length l.row ≡ 2624) × IfSome l.kept (λ k. RowFor s k l.row))
