-- `Held::link_port` meets its contract: by whether its submodel is blank.
-- Assumes nothing.
use Rattle.links.specs.Held.{its_recipe}
use Rattle.links.proofs.Linking.{without-owner}
use Rattle.links.proofs.Looking.{blank-here, port-kind, port-submodel, submodel-here}
use Rattle.links.proofs.Held.link_port.Goals as goal

pub is_blank-requires : goal.is_blank-requires
is_blank-requires c = (submodel-here c.args.self.now c.requires).room

pub link_own_port-requires : goal.link_own_port-requires
link_own_port-requires c =
    (c.requires, blank-here c.args.self.now c.requires c.is_blank.ensures c.if-is_blank.true)

pub link_pointer-requires : goal.link_pointer-requires
link_pointer-requires c =
    let h = c.args.self.now in
    let k = port-kind h c.requires in
    without-owner (its_recipe h) h.place (rw k) (rw k) (blank-here h c.requires c.is_blank.ensures c.if-is_blank.false) (port-submodel h c.requires)
