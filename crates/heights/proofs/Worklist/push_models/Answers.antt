-- `heights::Worklist::push_models` meets its contract: the models of the submodels are marked and queued, but for those left.
-- Assumes nothing.
use native.Mathlib.Omega.{arith}
use Rattle.heights.proofs.Along.{definition-low, submodel-in, submodel-room, through-one, through-start, through-end}
use Rattle.heights.proofs.Search.{expand-on, grown-none}
use Rattle.heights.proofs.Worklist.push_models.Goals as goal

pub loop-p-init : goal.loop-p-init
loop-p-init c = record { grown = grown-none _ _; through = through-start _ (rw c.into_iter-p-iterator.ensures.into_iter_gives c.definition-p-items.ensures.1) }

pub cell-requires : goal.cell-requires
cell-requires c = omega (arith, submodel-room c.requires.0 _ _ (through-one c.loop-p.invariant.through c.in-Some.ensures.steps))

pub push-requires : goal.push-requires
push-requires c =
    let i = submodel-in c.requires.0 _ _ (through-one c.loop-p.invariant.through c.in-Some.ensures.steps) in
    omega (arith, c.cell.ensures.0, definition-low _ _ i, c.requires.0.numbered.shadowed.short)

pub loop-p-preserved : goal.loop-p-preserved
loop-p-preserved c = expand-on c.loop-p.invariant c.requires.0 c.in-Some.ensures.steps c.cell.ensures.0 c.push.ensures

pub returns : goal.returns
returns c =
    let u = c.loop-p.invariant in
    (u.grown, λ x b. rw (b.2) at (through-end u.through c.in-None.ensures.steps.0 b.0 b.1))
