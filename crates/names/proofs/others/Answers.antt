-- `names::others` meets its contract: what the eights pass over is a run, and the rest of it is behind them.
-- Assumes nothing.
use borrow.Author.Rules.{rules}
use borrow.Author.Tests.{tests}
use Rattle.std.proofs.lemmas.Iterator.{YieldsList-from_slice}
use Rattle.std.proofs.lemmas.Iterator.Consumers.{count_from_yields_List, YieldsList-at}
use Rattle.std.proofs.lemmas.Iterator.Search.{YieldsList-from_take_while}
use Rattle.names.specs.Lists.{every}
use Rattle.names.specs.Names.{is_other}
use Rattle.names.proofs.Runs.{eights-run}
use Rattle.names.proofs.others.Goals as goal

pub returns-clause-run : goal.returns-clause-run
returns-clause-run c =
    let eights =
    count_from_yields_List c.take_while.result _ c.count-n.ensures.ran
    (YieldsList-from_take_while _ (every is_other) (YieldsList-at c.take_while.ensures.source (YieldsList-from_slice _ c.iter.ensures.rest))
    c.take_while.ensures.closure c.take_while.ensures.done (λ x b q k. search (rules, tests))) in
    let ones =
    count_from_yields_List c.take_while-2.result _ c.count.ensures.ran
    (YieldsList-from_take_while _ is_other (YieldsList-at c.take_while-2.ensures.source (YieldsList-from_slice _ c.iter-2.ensures.rest))
    c.take_while-2.ensures.closure c.take_while-2.ensures.done (λ x b q k. search (rules, tests))) in
    eights-run is_other c.args.f.now c.as_chunks.ensures.front eights ones
