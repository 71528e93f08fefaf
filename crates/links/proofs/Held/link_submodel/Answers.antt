-- `Held::link_submodel` meets its contract: by its model.
-- Assumes nothing.
use mathlib.Core.Path.{◌∙◌}
use native.Mathlib.Omega.{arith}
use Rattle.links.specs.Held.{its_recipe}
use Rattle.links.proofs.Linking.{submodel-links}
use Rattle.links.proofs.Looking.{model-asked, model-here, submodel-kind}
use Rattle.links.proofs.Held.link_submodel.Goals as goal

pub find-requires : goal.find-requires
find-requires c = model-asked c.args.self.now c.requires (omega arith)

pub returns-in_err-model : goal.returns-in_err-model
returns-in_err-model c =
    let h = c.args.self.now in
    c.from_residual.ensures ∙ submodel-links (its_recipe h) h.place (submodel-kind h c.requires) h.definition (model-here h c.requires) c.find.ensures c.in_err-model.was

pub returns : goal.returns
returns c =
    let h = c.args.self.now in
    submodel-links (its_recipe h) h.place (submodel-kind h c.requires) h.definition (model-here h c.requires) c.find.ensures c.in_ok-model.was
