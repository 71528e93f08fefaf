-- `Held::link_element` meets its contract: by its parent and reference.
-- Assumes nothing.
use Rattle.links.specs.Held.{its_recipe}
use Rattle.links.proofs.Linking.{passed, element-links, element-refused}
use Rattle.links.proofs.Looking.{element-kind, parent-asked, parent-here, reference-asked, reference-here}
use Rattle.links.proofs.Held.link_element.Goals as goal

pub find_element-parent-requires : goal.find_element-parent-requires
find_element-parent-requires c = parent-asked c.args.self.now c.requires

pub find_element-reference-requires : goal.find_element-reference-requires
find_element-reference-requires c = reference-asked c.args.self.now c.requires

pub parent_fault-requires : goal.parent_fault-requires
parent_fault-requires c = (c.requires, c.find_element-parent.ensures)

pub returns-then-parent_fault : goal.returns-then-parent_fault
returns-then-parent_fault c =
    let h = c.args.self.now in
    element-refused (its_recipe h) h.place (element-kind h c.requires) c.parent_fault.ensures c.if-parent_fault.true

pub returns : goal.returns
returns c =
    let h = c.args.self.now in
    let r = c.requires in
    passed _ (element-links (its_recipe h) h.place (element-kind h r) (parent-here h r) (reference-here h r) c.parent_fault.ensures c.find_element-parent.ensures c.find_element-reference.ensures) c.if-parent_fault.false
