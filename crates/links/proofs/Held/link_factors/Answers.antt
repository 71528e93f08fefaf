-- `Held::link_factors` meets its contract: by its two factors and its submodel.
-- Assumes nothing.
use native.Mathlib.Omega.{arith}
use Rattle.links.specs.Held.{its_recipe}
use Rattle.links.proofs.Linking.{factors-links}
use Rattle.links.proofs.Looking.{extent-asked, extent-here, factors-kind, scaled-asked, scaled-here, time-asked, time-here}
use Rattle.links.proofs.Held.link_factors.Goals as goal

pub find_element-time-requires : goal.find_element-time-requires
find_element-time-requires c = time-asked c.args.self.now c.requires

pub find_element-extent-requires : goal.find_element-extent-requires
find_element-extent-requires c = extent-asked c.args.self.now c.requires

pub find-submodel-requires : goal.find-submodel-requires
find-submodel-requires c = scaled-asked c.args.self.now c.requires (omega arith)

pub returns : goal.returns
returns c =
    let h = c.args.self.now in
    let r = c.requires in
    factors-links (its_recipe h) h.place (factors-kind h r) h.held (scaled-here h r) (time-here h r) (extent-here h r) c.find-submodel.ensures c.find_element-time.ensures c.find_element-extent.ensures
