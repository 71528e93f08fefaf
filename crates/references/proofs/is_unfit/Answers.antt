-- `references::is_unfit` meets its contract: by what is gone, and by the class table.
-- Assumes nothing.
use native.Mathlib.Omega.{arith}
use Rattle.elements.proofs.Elements.{row_room}
use Rattle.references.proofs.References.{unfit}
use Rattle.references.proofs.is_unfit.Goals as goal

pub is_gone-gone-requires : goal.is_gone-gone-requires
is_gone-gone-requires c = omega (arith, row_room c.args.aims.now.fits c.requires.0 c.requires.1.1)

pub class_of-requires : goal.class_of-requires
class_of-requires c = (c.requires.0, c.requires.1.1)

pub returns : goal.returns
returns c = unfit _ _ c.args.c c.requires.1.0 c.is_gone-gone.ensures c.class_of.ensures c.reference_allowed.ensures
