-- `references::first_misreferred` meets its contract: of the survivors with numbers below e the lowest at fault is known, and the ends are in the table.
-- Assumes nothing.
use Rattle.std.specs.Prelude.{min}
use Prim.Native.Nat.{ℕ}
use mathlib.Core.Path.{◌∙◌, ap}
use Rattle.targets.specs.Trees.{aimed_recipe}
use Rattle.references.proofs.Misreferred.{passed-end, passed-nexts, passed-rows, passed-start, turn-element, turn-fault, turn-fit, turn-gone, turn-number, turn-judged}
use Rattle.references.proofs.first_misreferred.Goals.{then-not-is_gone+then-refers_wrongly, then-not-is_gone+else-refers_wrongly, else-not-is_gone}
use Rattle.references.proofs.first_misreferred.Goals as goal

pub loop-e-init : goal.loop-e-init
loop-e-init c = passed-start (aimed_recipe c.args.aims.now) c.args.el.now

pub reference_end-end-requires : goal.reference_end-end-requires
reference_end-end-requires c =
    let h₇ = c.args.aims.now.fits in
    let i = c.loop-e.invariant in
    (passed-rows h₇ c.requires i, (passed-nexts h₇ c.requires i, turn-element h₇ c.requires i c.loop-e-test.true c.cell-p.ensures.0))

pub refers_wrongly-requires : goal.refers_wrongly-requires
refers_wrongly-requires c =
    let i = c.loop-e.invariant in
    let j = turn-judged c.args.aims.now.fits c.requires i c.loop-e-test.true c.reference_end-end.result c.set_numbered.ensures in
    (j.0, (j.1, (turn-number c.args.aims.now.fits c.requires i c.loop-e-test.true, c.reference_end-end.ensures.0)))

pub loop-e-preserved : goal.loop-e-preserved
loop-e-preserved c =
    let h₇ = c.args.aims.now.fits in
    let i = c.loop-e.invariant in
    elim c.if-not-is_gone.branch [
      | then-not-is_gone+then-refers_wrongly w ↦
          rw (w.el-is, w.lowest-is)
          (turn-fault h₇ c.requires i c.loop-e-test.true w.reference_end-end.result w.set_numbered.ensures w.reference_end-end.ensures.0 w.refers_wrongly.ensures c.is_gone.ensures w.cell-p.ensures.0 w.if-not-is_gone.true w.if-refers_wrongly.true (w.min.ensures ∙ ap (λ (k : ℕ). min k w.cell-p.result) w.unwrap_or.ensures))
      | then-not-is_gone+else-refers_wrongly w ↦
          rw (w.el-is, w.lowest-is)
          (turn-fit h₇ c.requires i c.loop-e-test.true w.reference_end-end.result w.set_numbered.ensures w.reference_end-end.ensures.0 w.refers_wrongly.ensures w.if-refers_wrongly.false)
      | else-not-is_gone w ↦ rw (w.el-is, w.lowest-is) (turn-gone h₇ c.requires i c.loop-e-test.true c.is_gone.ensures w.if-not-is_gone.false)
    ]

pub returns : goal.returns
returns c = passed-end c.args.aims.now.fits c.requires c.loop-e.invariant c.loop-e-test.false
