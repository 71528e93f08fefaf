-- `Linker::link_records` meets its contract: the invariant: the cells 3 to 5 of the records passed are filled, and none of these is undeclared.
-- Assumes nothing.
use mathlib.Core.Path.{refl, sym, ap, ◌∙◌}
use mathlib.Core.Logic.{inl, inr}
use native.Mathlib.Omega.{arith}
use lib.ListN.{length, length-set}
use Rattle.names.proofs.Tests.{some-none}
use Rattle.recipe.proofs.Going.{going_start, here, going-hit, going_on, going_end}
use Rattle.recipe.proofs.Steps.{over-start, over-step, over-end}
use Rattle.shadow.proofs.Cells.{row_kept, walk_start, walk-place, walk-room, walk-one, walk_end, filling-start, filling-one, filling-end}
use Rattle.shadow.proofs.Columns.{numbered-over}
use Rattle.record_index.specs.Indexed.{recipe_of}
use Rattle.links.proofs.Looking.{among-placed}
use Rattle.links.proofs.Targets.{links-row, links-none, links-some, fault-five}
use Rattle.links.proofs.Linker.link_records.Goals as goal

pub loop-p-init : goal.loop-p-init
loop-p-init c =
    let o = over-start (recipe_of c.args.self.now.index) c.of-p-items.ensures c.into_iter-p-iterator.ensures.into_iter_gives in
    (o.0, rw o.1 (walk_start _ _ _, (filling-start _ _ _ _, going_start _ _)))

pub cell-requires : goal.cell-requires
cell-requires c =
    let z = over-step c.loop-p.invariant.0 c.in-Some.ensures.steps in
    omega (arith, walk-room c.requires.shadowed (rw z.place at c.loop-p.invariant.1).0 z.inside)

pub invariant_of-h : goal.invariant_of-h
invariant_of-h c =
    let z = over-step c.loop-p.invariant.0 c.in-Some.ensures.steps in
    let g = rw z.place at c.loop-p.invariant.1 in
    let i = walk-place c.requires.shadowed g.0 z.inside in
    record { placed = among-placed _ _ i; held = c.cell.ensures.0 ∙ (g.0.kept.as-was _ 0 i (omega arith) refl ∙ c.requires.held _ i) }

pub returns-in_default : goal.returns-in_default
returns-in_default c =
    let R = recipe_of c.args.self.now.index in
    let z = over-step c.loop-p.invariant.0 c.in-Some.ensures.steps in
    (sym (fault-five R (going-hit (here R _ _ c.requires.shadowed.whole (rw z.place at c.loop-p.invariant.1).1.1 z.inside) (links-none R _ c.link_record.ensures c.in_default.is))), λ y. some-none y)

pub set_link-requires : goal.set_link-requires
set_link-requires c =
    let z = over-step c.loop-p.invariant.0 c.in-Some.ensures.steps in
    omega (arith, walk-room c.requires.shadowed (rw z.place at c.loop-p.invariant.1).0 z.inside)

pub set_link-requires-in-loop-p : goal.set_link-requires-in-loop-p
set_link-requires-in-loop-p c =
    let z = over-step c.loop-p.invariant.0 c.in-Some.ensures.steps in
    omega (arith, walk-room c.requires.shadowed (rw z.place at c.loop-p.invariant.1).0 z.inside, (simp length-set at (ap length c.set_link.ensures)))

pub set_link-requires-in-loop-p-2 : goal.set_link-requires-in-loop-p-2
set_link-requires-in-loop-p-2 c =
    let z = over-step c.loop-p.invariant.0 c.in-Some.ensures.steps in
    omega (arith, walk-room c.requires.shadowed (rw z.place at c.loop-p.invariant.1).0 z.inside, (simp length-set at (ap length c.set_link.ensures)), (simp length-set at (ap length c.set_link-in-loop-p.ensures)))

pub loop-p-preserved : goal.loop-p-preserved
loop-p-preserved c =
    let R = recipe_of c.args.self.now.index in
    let sh = c.requires.shadowed in
    let z = over-step c.loop-p.invariant.0 c.in-Some.ensures.steps in
    let g = rw z.place at c.loop-p.invariant.1 in
    let i = walk-place sh g.0 z.inside in
    let l = links-some R _ c.link_record.ensures c.in-Some-link_record.is in
    let row = links-row R _ l.1 (walk-room sh g.0 z.inside) c.set_link.ensures c.set_link-in-loop-p.ensures c.set_link-in-loop-p-2.ensures in
    (z.over, rw z.on (walk-one sh g.0 z.inside refl (row_kept sh i refl row), (filling-one g.1.0 sh i refl refl row, going_on (here R _ _ sh.whole g.1.1 z.inside) l.0 refl)))

pub shape_of-t : goal.shape_of-t
shape_of-t c = c.loop-p.invariant.1.0.kept.long

pub returns : goal.returns
returns c =
    let l = over-end c.loop-p.invariant.0 c.in-None.ensures.steps in
    let g = c.loop-p.invariant.1 in
    let none = fault-five (recipe_of c.args.self.now.index) (going_end g.1.1 l) in
    let f = filling-end g.1.0 (walk_end c.requires.shadowed g.0 l) in
    (sym none, λ z. (record { numbered = numbered-over g.0.kept refl c.requires; declared = none; uppers = f 3 (inr (inr (inl refl))); lowers = f 4 (inr (inl refl)) }, f 5 (inl refl)))
