-- `marks::any_set` meets its contract: a test of each cell.
-- Assumes nothing.
use lib.Dec.{eqb}
use mathlib.Core.Bool.{not}
use Rattle.std.proofs.Common.{rules, tests}
use Rattle.std.proofs.lemmas.Iterator.{YieldsList-from_slice}
use Rattle.std.proofs.lemmas.Iterator.Search.{any_from_yields_List}
use Rattle.marks.proofs.any_set.Goals as goal

pub returns : goal.returns
returns c =
    any_from_yields_List (λ b. not (eqb b 0)) _ _ c.any.result c.any.ensures.ran (YieldsList-from_slice c.args.cells.now cc) (λ x b q k. search (rules, tests))
