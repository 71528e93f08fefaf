-- `targets::first_untargeted` meets its contract: what is kept is right, and each mark or port before p is kept.
-- Assumes nothing.
use mathlib.Core.Bool.{not}
use mathlib.Core.Path.{ap, sym}
use Rattle.names.proofs.Tests.{some-none}
use Rattle.recipe.specs.Records.{recipe}
use Rattle.recipe.proofs.Steps.{over-end, over-start, over-step}
use Rattle.shadow.proofs.Cells.{kept_then}
use Rattle.targets.proofs.Remembering.{TargetLoop, cleared-kept, cleared-measured, kept_on, target-asks, target_hit, target_more, target-skip, targets-end, targets-start}
use Rattle.targets.proofs.first_untargeted.Goals as goal
use Rattle.targets.proofs.first_untargeted.Goals.{else-is_pointer-via-else-is_pointer, else-is_pointer-via-then-is_pointer+else-not-resolve_port}

pub loop-p-init : goal.loop-p-init
loop-p-init c =
    let o = over-start (recipe c.args.s.now) c.of-p-items.ensures c.into_iter-p-iterator.ensures.into_iter_gives in
    (o.0, rw o.1 (targets-start c.requires c.clear_cells.ensures))

pub resolve_port-requires : goal.resolve_port-requires
resolve_port-requires c =
    let z = over-step c.loop-p.invariant.0 c.in-Some.ensures.steps in
    let g = rw z.place at c.loop-p.invariant.1 in
    target-asks (cleared-measured c.requires c.clear_cells.ensures) g z.inside c.is_pointer.ensures c.if-is_pointer.true

pub returns-then-not-resolve_port : goal.returns-then-not-resolve_port
returns-then-not-resolve_port c =
    let z = over-step c.loop-p.invariant.0 c.in-Some.ensures.steps in
    let g = rw z.place at c.loop-p.invariant.1 in
    let m = cleared-measured c.requires c.clear_cells.ensures in
    let o = kept_on m g z.inside c.is_pointer.ensures c.if-is_pointer.true c.resolve_port.ensures in
    let h = target_hit m g z.inside c.is_pointer.ensures c.if-is_pointer.true c.resolve_port.ensures (ap not c.if-not-resolve_port.true) in
    (sym h, ((λ e. some-none e), kept_then (cleared-kept c.requires c.clear_cells.ensures) o))

pub loop-p-preserved : goal.loop-p-preserved
loop-p-preserved c =
    let z = over-step c.loop-p.invariant.0 c.in-Some.ensures.steps in
    let g = rw z.place at c.loop-p.invariant.1 in
    let m = cleared-measured c.requires c.clear_cells.ensures in
    let passed : TargetLoop (recipe c.args.s.now) c.clear_cells.new.t c.else-is_pointer.t c.next.new.self.at =
    elim c.else-is_pointer.branch [
      | else-is_pointer-via-then-is_pointer+else-not-resolve_port w ↦
          rw (w.t-is, z.on) (target_more m g z.inside c.is_pointer.ensures w.if-is_pointer.true w.resolve_port.ensures (ap not w.if-not-resolve_port.false))
      | else-is_pointer-via-else-is_pointer w ↦ rw (w.t-is, z.on) (target-skip m g z.inside c.is_pointer.ensures w.if-is_pointer.false)
    ] in
    (z.over, passed)

pub returns : goal.returns
returns c =
    let l = over-end c.loop-p.invariant.0 c.in-None.ensures.steps in
    let e = targets-end (cleared-measured c.requires c.clear_cells.ensures) c.loop-p.invariant.1 l in
    (sym e.0, ((λ z. e.1), kept_then (cleared-kept c.requires c.clear_cells.ensures) c.loop-p.invariant.1.kept))
