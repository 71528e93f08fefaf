-- `shadow::submodel_behind` meets its contract: no submodel of the definition stands between the record and the next one.
-- Assumes nothing.
use mathlib.Core.Path.{refl}
use native.Mathlib.Omega.{arith}
use Rattle.recipe.specs.Records.{recipe}
use Rattle.recipe.proofs.Reading.{place-low}
use Rattle.recipe.proofs.Steps.{over-end, over-from, over-step}
use Rattle.shadow.proofs.Submodels.{own-fits, search-end, search-found, search-more, search-start, search-stop}
use Rattle.shadow.proofs.submodel_behind.Goals as goal

pub bounds-s-p : goal.bounds-s-p
bounds-s-p c = place-low (recipe c.args.s.now) c.args.p c.requires.1

pub overflow_add-behind : goal.overflow_add-behind
overflow_add-behind c = omega (arith, own-fits (recipe c.args.s.now) c.requires.0 c.args.p c.requires.1, c.length_by_kind.ensures)

pub loop-q-init : goal.loop-q-init
loop-q-init c =
    let o = over-from (recipe c.args.s.now) refl c.into_iter-q-iterator.ensures.into_iter_gives in
    (o.0, rw (o.1, c.length_by_kind.ensures) (search-start (recipe c.args.s.now) c.requires.0 c.args.p c.requires.1))

pub returns-then-k : goal.returns-then-k
returns-then-k c =
    let z = over-step c.loop-q.invariant.0 c.in-Some.ensures.steps in
    search-stop (recipe c.args.s.now) c.requires.0 c.args.p c.requires.1 (rw z.place at c.loop-q.invariant.1) z.inside c.if-k.true

pub returns-then-k-2 : goal.returns-then-k-2
returns-then-k-2 c =
    let z = over-step c.loop-q.invariant.0 c.in-Some.ensures.steps in
    search-found (recipe c.args.s.now) c.requires.0 c.args.p c.requires.1 (rw z.place at c.loop-q.invariant.1) z.inside c.if-k-2.true

pub loop-q-preserved : goal.loop-q-preserved
loop-q-preserved c =
    let z = over-step c.loop-q.invariant.0 c.in-Some.ensures.steps in
    (z.over, rw z.on (search-more (recipe c.args.s.now) c.requires.0 c.args.p c.requires.1 (rw z.place at c.loop-q.invariant.1) z.inside c.if-k.false c.if-k-2.false))

pub returns : goal.returns
returns c = search-end (recipe c.args.s.now) c.requires.0 c.args.p c.requires.1 c.loop-q.invariant.1 (over-end c.loop-q.invariant.0 c.in-None.ensures.steps)
