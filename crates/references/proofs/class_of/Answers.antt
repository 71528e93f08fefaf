-- `references::class_of` meets its contract: by the record that the row names.
-- Assumes nothing.
use native.Mathlib.Omega.{arith}
use Rattle.elements.proofs.Elements.{row_room}
use Rattle.references.proofs.References.{class-told, row-class}
use Rattle.references.proofs.class_of.Goals as goal

pub overflow_mul-z : goal.overflow_mul-z
overflow_mul-z c = omega (arith, row_room c.args.aims.now.fits c.requires.0 c.requires.1)

pub cell-requires : goal.cell-requires
cell-requires c = omega (arith, row_room c.args.aims.now.fits c.requires.0 c.requires.1)

pub class_at-requires : goal.class_at-requires
class_at-requires c = row-class c.args.aims.now.fits c.requires.0 c.cell.ensures.0 c.requires.1

pub returns : goal.returns
returns c = class-told c.args.aims.now.fits c.requires.0 c.cell.ensures.0 c.class_at.ensures
