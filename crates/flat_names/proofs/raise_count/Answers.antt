-- `flat_names::raise_count` meets its contract: the invariant: the count is one of the tries, and the names that are left raise it to the last.
-- Assumes nothing.
use Rattle.recipe.specs.Records.{name, recipe}
use Rattle.recipe.proofs.Definitions.{name-short}
use Rattle.flat_names.proofs.Underscores.{behind-short}
use native.Mathlib.Omega.{arith}
use Rattle.flat_names.proofs.Looking.{Own, start-room, look-start, at-end, at_other, at_own, own-declared, own-fits, own-less, own-skip, own-more}
use Rattle.flat_names.proofs.raise_count.Goals.{Else-cell-d, then-k, else-k}
use Rattle.flat_names.proofs.raise_count.Goals as goal

pub overflow_add-p : goal.overflow_add-p
overflow_add-p c =
    omega (arith, start-room (recipe c.args.s.now) c.requires.0.shadowed.whole c.args.d c.args.m c.args.u c.requires.1.0 _ c.length_by_kind.ensures, c.requires.0.shadowed.short)

pub loop-p-init : goal.loop-p-init
loop-p-init c =
    look-start (recipe c.args.s.now) c.requires.0.shadowed.whole c.args.d c.args.m c.args.u c.requires.1.0 c.requires.1.1.1 _ c.length_by_kind.ensures

pub returns-then-cell-d : goal.returns-then-cell-d
returns-then-cell-d c =
    at_other c.requires.0 c.requires.1.0 c.loop-p.invariant c.loop-p-test.true c.cell.ensures.0 c.if-cell-d.true

-- at a record of the definition
own : (c : Else-cell-d) → Own (recipe c.args.s.now) c.args.d c.args.m c.args.u c.loop-p.p c.loop-p.count
own c = at_own c.requires.0 c.requires.1.0 c.loop-p.invariant c.loop-p-test.true c.cell.ensures.0 c.if-cell-d.false

pub run_behind-run-requires : goal.run_behind-run-requires
run_behind-run-requires c =
    let o = own (goal.at.run_behind-run-requires c).Else-cell-d in
    (c.requires.0.shadowed.narrow, (own-declared o c.if-k.true, c.requires.1.1.0))

pub overflow_add-run : goal.overflow_add-run
overflow_add-run c =
    omega (arith, behind-short (name (recipe c.args.s.now) c.args.m) (name (recipe c.args.s.now) c.loop-p.p), c.run_behind-run.ensures, name-short (recipe c.args.s.now) c.loop-p.p, c.requires.0.shadowed.narrow)

pub overflow_add-p-in-loop-p : goal.overflow_add-p-in-loop-p
overflow_add-p-in-loop-p c =
    let o = own (goal.at.overflow_add-p-in-loop-p c).Else-cell-d in
    omega (arith, own-fits o c.length_by_kind-p.ensures, c.requires.0.shadowed.short)

pub loop-p-smaller : goal.loop-p-smaller
loop-p-smaller c =
    let o = own (goal.at.loop-p-smaller c).Else-cell-d in
    omega (arith, own-less o c.length_by_kind-p.ensures)

pub loop-p-preserved : goal.loop-p-preserved
loop-p-preserved c =
    let o = own (goal.at.loop-p-preserved c).Else-cell-d in
    elim c.if-k.branch [
      | then-k w ↦ rw w.count-is (own-more o c.length_by_kind-p.ensures w.if-k.true w.run_behind-run.ensures w.max-count.ensures)
      | else-k w ↦ rw w.count-is (own-skip o c.length_by_kind-p.ensures w.if-k.false)
    ]

pub returns : goal.returns
returns c = at-end c.requires.0 c.requires.1.0 c.loop-p.invariant c.loop-p-test.false
