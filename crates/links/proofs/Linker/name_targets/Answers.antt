-- `Linker::name_targets` meets its contract: the invariant: cell 5 of the records passed is filled.
-- Assumes nothing.
use mathlib.Core.Path.{refl}
use mathlib.Core.Logic.{inl}
use Rattle.recipe.proofs.Steps.{over-start, over-step, over-end}
use Rattle.shadow.proofs.Cells.{row_kept, walk_start, walk-place, walk-room, walk-one, walk_end, filling-start, filling-one, filling-end}
use Rattle.record_index.specs.Indexed.{recipe_of}
use Rattle.links.proofs.Targets.{pointed-over, target_row, linked-end, unpaired-end}
use Rattle.links.proofs.Linker.name_targets.Goals as goal

pub loop-p-init : goal.loop-p-init
loop-p-init c =
    let o = over-start (recipe_of c.args.self.now.index) c.of-p-items.ensures c.into_iter-p-iterator.ensures.into_iter_gives in
    (o.0, rw o.1 (walk_start _ _ _, filling-start _ _ _ _))

pub name_target-requires : goal.name_target-requires
name_target-requires c =
    let z = over-step c.loop-p.invariant.0 c.in-Some.ensures.steps in
    let g = rw z.place at c.loop-p.invariant.1 in
    (pointed-over g.0.kept c.requires.0, walk-place c.requires.0.numbered.shadowed g.0 z.inside)

pub loop-p-preserved : goal.loop-p-preserved
loop-p-preserved c =
    let sh = c.requires.0.numbered.shadowed in
    let z = over-step c.loop-p.invariant.0 c.in-Some.ensures.steps in
    let g = rw z.place at c.loop-p.invariant.1 in
    let i = walk-place sh g.0 z.inside in
    let row = target_row i g.1 (walk-room sh g.0 z.inside) c.name_target.ensures in
    (z.over, rw z.on (walk-one sh g.0 z.inside refl (row_kept sh i refl row), filling-one g.1 sh i refl refl row))

pub shape_of-t : goal.shape_of-t
shape_of-t c = c.loop-p.invariant.1.0.kept.long

pub returns : goal.returns
returns c =
    let x = c.args.self.now in
    let g = c.loop-p.invariant.1 in
    let f = filling-end g.1 (walk_end c.requires.0.numbered.shadowed g.0 (over-end c.loop-p.invariant.0 c.in-None.ensures.steps)) 5 (inl refl) in
    (linked-end x.index.formed x.once c.requires.0 c.requires.1 g.0.kept f, unpaired-end x.index.formed x.once c.requires.0 c.requires.1 g.0.kept f)
