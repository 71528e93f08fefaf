-- `factors::is_rated` meets its contract: the class of the element of that number.
-- Assumes nothing.
use Rattle.factors.proofs.Entries.{is-number, rated-entry}
use Rattle.factors.proofs.is_rated.Goals as goal

pub class_of-k-requires : goal.class_of-k-requires
class_of-k-requires c =
    let C = c.args.c.now.composed in
    rw c.aims.ensures.0 (C.elements, is-number C c.requires)

pub returns : goal.returns
returns c = rated-entry c.args.c.now.composed c.requires (rw c.aims.ensures.0 at c.class_of-k.ensures)
