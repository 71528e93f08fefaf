-- `references::chain_end` meets its contract: after each step the rest of the chain is shorter by one.
-- Assumes nothing.
use Prim.Native.Nat.{◌-◌}
use mathlib.Core.Path.{◌∙◌, sym}
use native.Mathlib.Omega.{arith}
use Rattle.references.proofs.Ends.{follow-end, follow-last, follow-more, stepping-on}
use Rattle.references.proofs.chain_end.Goals as goal

pub returns-in_default : goal.returns-in_default
returns-in_default c =
    sym (c.loop.invariant.0 ∙ follow-end c.args.el.now (5 - c.loop.counter) (sym c.chain_next.ensures ∙ c.in_default.is))

pub loop-preserved : goal.loop-preserved
loop-preserved c =
    let next = sym c.chain_next.ensures ∙ c.in-Some.is in (
      c.loop.invariant.0 ∙ follow-more c.args.el.now c.loop.z (omega (arith, c.loop-test.true)) next,
      stepping-on c.loop.invariant.1 next,
    )

pub returns : goal.returns
returns c = sym (c.loop.invariant.0 ∙ follow-last c.args.el.now (5 - c.loop.counter) (omega (arith, c.loop-test.false)))
