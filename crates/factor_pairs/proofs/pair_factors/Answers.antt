-- `factor_pairs::pair_factors` meets its contract: the kind 8 records before the next one are paired, and none is refused.
-- Assumes nothing.
use mathlib.Core.Path.{◌∙◌, refl, sym}
use native.Mathlib.Omega.{arith}
use Rattle.names.proofs.Tests.{some-none}
use Rattle.recipe.specs.Records.{recipe}
use Rattle.recipe.proofs.Steps.{over-end, over-start, over-step}
use Rattle.shadow.proofs.Cells.{walk-low, walk-room}
use Rattle.shadow.proofs.Links.{link-clear, link-none, link-set, link-some}
use Rattle.factor_pairs.proofs.Pairing.{pair-linked, pair-none, pair_one, pair-paired, pair-room, pair-skip, pair-start, pair-twice, pair-undeclared}
use Rattle.factor_pairs.proofs.pair_factors.Goals as goal

pub loop-p-init : goal.loop-p-init
loop-p-init c =
    let o = over-start (recipe c.args.s.now) c.of-p-items.ensures c.into_iter-p-iterator.ensures.into_iter_gives in
    (o.0, rw o.1 (pair-start c.requires.0 c.requires.1))

pub link-requires : goal.link-requires
link-requires c =
    let z = over-step c.loop-p.invariant.0 c.in-Some.ensures.steps in
    let g = rw z.place at c.loop-p.invariant.1 in
    omega (arith, walk-room c.requires.0.numbered.shadowed g.walking z.inside)

pub returns-in_default : goal.returns-in_default
returns-in_default c =
    let z = over-step c.loop-p.invariant.0 c.in-Some.ensures.steps in
    let g = rw z.place at c.loop-p.invariant.1 in
    (sym (pair-undeclared c.requires.0 g z.inside c.if-s-p.true refl (link-none c.link.ensures.0 c.in_default.is)), (some-none, g.walking.kept.long))

pub link-requires-then-s-p : goal.link-requires-then-s-p
link-requires-then-s-p c =
    let z = over-step c.loop-p.invariant.0 c.in-Some.ensures.steps in
    let g = rw z.place at c.loop-p.invariant.1 in
    let n = link-some c.link.ensures.0 c.in-Some-link.is in
    omega (arith, pair-room c.requires.0 g z.inside c.if-s-p.true n.0 n.2)

pub returns-then-is_some : goal.returns-then-is_some
returns-then-is_some c =
    let z = over-step c.loop-p.invariant.0 c.in-Some.ensures.steps in
    let g = rw z.place at c.loop-p.invariant.1 in
    let n = link-some c.link.ensures.0 c.in-Some-link.is in
    (sym (pair-twice c.requires.0 g z.inside c.if-s-p.true n.0 n.2 refl (link-set c.link-then-s-p.ensures.0 (sym c.is_some.ensures ∙ c.if-is_some.true))), (some-none, g.walking.kept.long))

pub set_cell-requires : goal.set_cell-requires
set_cell-requires c =
    let z = over-step c.loop-p.invariant.0 c.in-Some.ensures.steps in
    let g = rw z.place at c.loop-p.invariant.1 in
    let n = link-some c.link.ensures.0 c.in-Some-link.is in (
      omega (arith, pair-room c.requires.0 g z.inside c.if-s-p.true n.0 n.2, walk-room c.requires.0.numbered.shadowed g.walking z.inside),
      omega (arith, walk-low c.requires.0.numbered.shadowed g.walking z.inside),
    )

pub loop-p-preserved-then-s-p : goal.loop-p-preserved-then-s-p
loop-p-preserved-then-s-p c =
    let z = over-step c.loop-p.invariant.0 c.in-Some.ensures.steps in
    let g = rw z.place at c.loop-p.invariant.1 in
    let n = link-some c.link.ensures.0 c.in-Some-link.is in
    (z.over, rw (z.on, c.set_cell.ensures) (pair_one c.requires.0 g z.inside c.if-s-p.true n.0 n.2 refl (link-clear c.link-then-s-p.ensures.0 (sym c.is_some.ensures ∙ c.if-is_some.false))))

pub loop-p-preserved : goal.loop-p-preserved
loop-p-preserved c =
    let z = over-step c.loop-p.invariant.0 c.in-Some.ensures.steps in
    let g = rw z.place at c.loop-p.invariant.1 in
    (z.over, rw z.on (pair-skip c.requires.0 g z.inside c.if-s-p.false))

pub returns : goal.returns
returns c =
    let L = c.requires.0 in
    let g = c.loop-p.invariant.1 in
    let l = over-end c.loop-p.invariant.0 c.in-None.ensures.steps in
    (sym (pair-none L g l), (λ z. (pair-linked L g l, pair-paired L g l), g.walking.kept.long))
