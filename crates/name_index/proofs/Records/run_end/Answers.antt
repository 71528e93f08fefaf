-- `Records::run_end` meets its contract: as many places behind i as have its key, from there on.
-- Assumes nothing.
use mathlib.Core.Path.{◌≡◌, ap, ◌∙◌}
use Prim.Native.Nat.{ℕ, ◌+◌, ◌-◌}
use lib.Dec.{eqb}
use lib.ListN.{length, get_or, take, drop, length-drop}
use lib.Seq.{take_all}
use native.Mathlib.Omega.{arith}
use borrow.Author.Rules.{rules}
use borrow.Author.Tests.{tests}
use Rattle.std.specs.List.{prefix_len}
use Rattle.std.proofs.lemmas.Iterator.{YieldsList-from_slice}
use Rattle.std.proofs.lemmas.Iterator.Consumers.{count_from_yields_List, YieldsList-at}
use Rattle.std.proofs.lemmas.Iterator.Search.{YieldsList-from_take_while}
use Rattle.std.proofs.lemmas.List.Folds.{length-prefix_len}
use Rattle.name_index.specs.Runs.{key_at}
use Rattle.name_index.proofs.Runs.{run-taken}
use Rattle.name_index.proofs.Records.run_end.Goals as goal

pub returns : goal.returns
returns c =
    let ys = c.args.order.now in
    let i = c.args.i in
    let t = λ (q : ℕ). eqb (key_at c.args.self.now q) (key_at c.args.self.now (get_or ys i 0)) in
    let zs = take (length ys - (i + 1)) (drop (i + 1) ys) in
    let all : zs ≡ drop (i + 1) ys = take_all _ _ (omega (arith, length-drop (i + 1) ys)) in
    let counted =
    count_from_yields_List c.take_while.result _ c.count-more.ensures.ran
    (YieldsList-from_take_while _ t (YieldsList-at c.take_while.ensures.source (YieldsList-from_slice _ c.iter.ensures.rest))
    c.take_while.ensures.closure c.take_while.ensures.done (λ x b q k. search (rules, tests))) in
    run-taken (key_at c.args.self.now) ys i c.count-more.result c.requires (counted ∙ (length-prefix_len t zs ∙ ap (prefix_len t) all))
