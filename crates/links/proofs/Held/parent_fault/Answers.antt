-- `Held::parent_fault` meets its contract: by what the parent field names.
-- Assumes nothing.
use native.Mathlib.Omega.{arith}
use Rattle.links.specs.Held.{its_recipe}
use Rattle.links.proofs.Linking.{parent-missing, parent-room, parent-there}
use Rattle.links.proofs.Looking.{class-here, parent-here}
use Rattle.links.proofs.Held.parent_fault.Goals as goal

pub is_blank-b-requires : goal.is_blank-b-requires
is_blank-b-requires c = (parent-here c.args.self.now c.requires.0).room

pub returns-in_default : goal.returns-in_default
returns-in_default c =
    let h = c.args.self.now in
    parent-missing (its_recipe h) h.place (parent-here h c.requires.0) (class-here h c.requires.0) c.requires.1 c.in_default.is c.is_blank-b.ensures c.parent_may_be_blank.ensures

pub class_at-requires : goal.class_at-requires
class_at-requires c =
    let h = c.args.self.now in
    omega (arith, c.wide-q.ensures.0, parent-room (its_recipe h) h.place (parent-here h c.requires.0) (class-here h c.requires.0) c.requires.1 c.in-Some.is)

pub returns : goal.returns
returns c =
    let h = c.args.self.now in
    parent-there (its_recipe h) h.place (parent-here h c.requires.0) (class-here h c.requires.0) c.requires.1 c.in-Some.is c.wide-q.ensures.0 c.class_at.ensures c.parent_allowed.ensures
