-- `Records::sort` meets its contract: the numbers put the keys in order, and positions that are in order are the one such list.
-- Assumes nothing.
use mathlib.Core.Path.{◌∙◌}
use native.Mathlib.Omega.{arith}
use borrow.Author.Rules.{rules}
use Rattle.names.proofs.Tables.{filled-one}
use Rattle.std.proofs.lemmas.Fn.{always_returns_same}
use Rattle.std.proofs.lemmas.List.Sorted.{IsPermutation-trans, All-permutation}
use Rattle.name_index.specs.Positions.{total_entry}
use Rattle.name_index.proofs.Positions.{filled-all}
use Rattle.name_index.proofs.Finds.{ordered-total}
use Rattle.name_index.proofs.Sorted.{sorted-is}
use Prim.Native.Nat.{◌+◌, ◌*◌, ◌<◌}
use Rattle.name_index.specs.Runs.{key_at}
use Rattle.name_index.proofs.Runs.{filled-below, numbers-rise}
use Rattle.name_index.proofs.Records.sort.Goals as goal

pub loop-p-preserved : goal.loop-p-preserved
loop-p-preserved c = filled-one c.loop-p.invariant (omega (arith, c.loop-p.invariant.long)) (omega arith)

pub sort_runs-requires : goal.sort_runs-requires
sort_runs-requires c =
    let key = key_at c.args.self.now in
    let below = filled-below c.loop-p.invariant c.loop-p-test.false c.requires.1 in
    numbers-rise key _ (All-permutation (λ p. p < 65536) _ _ c.sort_unstable_by_key.ensures.permutation below) (c.sort_unstable_by_key.ensures.sorted (λ p. key p * 65536 + p) (always_returns_same _ _ _ (λ a x f k. search rules)))

pub returns : goal.returns
returns c =
    let r = c.args.self.now in
    let from = filled-all c.loop-p.invariant c.loop-p.auto.p-end c.loop-p-test.false in
    let moved = IsPermutation-trans _ _ _ c.sort_unstable_by_key.ensures.permutation c.sort_runs.ensures.moved in
    sorted-is (total_entry r) _ from moved c.sort_runs.ensures.sorted ∙ ordered-total r _ c.requires.0
