-- `record_index::key_at` meets its contract: from what its parts ensure.
-- Assumes nothing.
use Rattle.recipe.specs.Records.{Recipe, recipe}
use mathlib.Core.Path.{◌∙◌}
use native.Mathlib.Omega.{arith}
use Rattle.recipe.proofs.Spans.{holder-below}
use Rattle.shadow.proofs.Cells.{row_room}
use Rattle.record_index.proofs.Places.{place-room}
use Rattle.record_index.proofs.Entering.{key-is}
use Rattle.record_index.proofs.key_at.Goals as goal

pub cell-d-requires : goal.cell-d-requires
cell-d-requires c = omega (arith, row_room c.requires.0.shadowed _ c.requires.1)

pub bounds-s-p : goal.bounds-s-p
bounds-s-p c =
    let pre = c.requires in let a = c.args in let R : Recipe = recipe a.s.now in let room = place-room R a.p pre.1 in omega arith

pub tag-requires : goal.tag-requires
tag-requires c =
    let pre = c.requires in let a = c.args in let R : Recipe = recipe a.s.now in let room = place-room R a.p pre.1 in (omega (arith, pre.0.shadowed.short), omega (arith, c.cell-d.ensures.0, pre.0.held _ pre.1, holder-below R a.p, pre.0.shadowed.short))

pub overflow_add-p : goal.overflow_add-p
overflow_add-p c =
    let pre = c.requires in let a = c.args in let R : Recipe = recipe a.s.now in let room = place-room R a.p pre.1 in omega (arith, pre.0.shadowed.short)

pub field_at-requires : goal.field_at-requires
field_at-requires c =
    let pre = c.requires in let a = c.args in let R : Recipe = recipe a.s.now in let room = place-room R a.p pre.1 in omega arith

pub returns : goal.returns
returns c =
    let pre = c.requires in key-is _ _ (c.cell-d.ensures.0 ∙ pre.0.held _ pre.1) c.tag.ensures.0 c.field_at.ensures c.key.ensures
