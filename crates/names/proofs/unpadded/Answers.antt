-- `names::unpadded` meets its contract: as many bytes as are not zero, from the start.
-- Assumes nothing.
use mathlib.Core.Bool.{not}
use lib.Dec.{eqb}
use borrow.Author.Rules.{rules}
use borrow.Author.Tests.{tests}
use Rattle.std.proofs.lemmas.Iterator.{YieldsList-from_slice}
use Rattle.std.proofs.lemmas.Iterator.Consumers.{count_from_yields_List, YieldsList-at}
use Rattle.std.proofs.lemmas.Iterator.Search.{YieldsList-from_take_while}
use Rattle.names.proofs.Names.{text-part}
use Rattle.names.proofs.unpadded.Goals as goal

pub returns : goal.returns
returns c =
    text-part _
    (count_from_yields_List c.take_while.result _ c.count-n.ensures.ran
    (YieldsList-from_take_while _ (λ x. not (eqb x 0)) (YieldsList-at c.take_while.ensures.source (YieldsList-from_slice _ c.iter.ensures.rest))
    c.take_while.ensures.closure c.take_while.ensures.done (λ x b q k. search (rules, tests))))
