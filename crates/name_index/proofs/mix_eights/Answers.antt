-- `name_index::mix_eights` meets its contract: the invariant: what is left to mix from the eight k on.
-- Assumes nothing.
use mathlib.Core.Path.{ap}
use mathlib.Core.List.{List, []}
use Prim.Native.Nat.{ℕ}
use native.Mathlib.Omega.{arith}
use lib.ListN.{get_or}
use Rattle.name_index.proofs.Hashing.{mixing-start, mixing-more, mixing-done}
use Rattle.name_index.proofs.mix_eights.Goals as goal

pub loop-eight-init : goal.loop-eight-init
loop-eight-init c = mixing-start _

pub loop-eight-preserved : goal.loop-eight-preserved
loop-eight-preserved c =
    mixing-more _ c.loop-eight.invariant (omega (arith, c.as_chunks.ensures.front_len)) (ap (λ (x : List (List ℕ)). get_or x c.loop-eight.eight-index []) c.as_chunks.ensures.front) c.mix-h.ensures

pub returns : goal.returns
returns c = mixing-done c.loop-eight.invariant (omega (arith, c.as_chunks.ensures.front_len, c.loop-eight.auto.eight-index-end))
