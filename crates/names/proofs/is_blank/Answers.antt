-- `names::is_blank` meets its contract: all eights are zeros, and so is what is behind them.
-- Assumes nothing.
use mathlib.Core.Path.{sym, ◌∙◌}
use lib.Dec.{eqb}
use Rattle.std.proofs.Common.{rules, tests}
use Rattle.std.proofs.lemmas.Iterator.{YieldsList-from_slice}
use Rattle.std.proofs.lemmas.Iterator.Search.{all_from_yields_List}
use Rattle.names.specs.Lists.{every}
use Rattle.names.specs.Names.{is_blank}
use Rattle.names.proofs.Runs.{every-eights}
use Rattle.names.proofs.is_blank.Goals as goal

pub returns-then-all : goal.returns-then-all
unfolding is_blank
returns-then-all c =
    let eights = all_from_yields_List (every (eqb 0)) _ _ c.all.result c.all.ensures.ran (YieldsList-from_slice _ c.iter.ensures.rest) (λ x b q k. search (rules, tests)) in
    let ones = all_from_yields_List (eqb 0) _ _ c.all-then-all.result c.all-then-all.ensures.ran (YieldsList-from_slice _ c.iter-then-all.ensures.rest) (λ x b q k. search (rules, tests)) in
    let passed = sym eights ∙ c.if-all.true in
    let parts = every-eights (eqb 0) c.args.f.now c.as_chunks.ensures.front c.as_chunks.ensures.back in
    ones ∙ rw passed at parts

pub returns-else-all : goal.returns-else-all
unfolding is_blank
returns-else-all c =
    let eights = all_from_yields_List (every (eqb 0)) _ _ c.all.result c.all.ensures.ran (YieldsList-from_slice _ c.iter.ensures.rest) (λ x b q k. search (rules, tests)) in
    let failed = sym eights ∙ c.if-all.false in
    let parts = every-eights (eqb 0) c.args.f.now c.as_chunks.ensures.front c.as_chunks.ensures.back in
    c.if-all.false ∙ rw failed at parts
