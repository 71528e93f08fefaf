-- `Held::link_pointer` meets its contract: by the submodel that it names.
-- Assumes nothing.
use mathlib.Core.Path.{◌∙◌}
use native.Mathlib.Omega.{arith}
use Rattle.links.specs.Held.{its_recipe}
use Rattle.links.proofs.Linking.{pointer-links}
use Rattle.links.proofs.Looking.{pointer-asked, pointer-here}
use Rattle.links.proofs.Held.link_pointer.Goals as goal

pub find-requires : goal.find-requires
find-requires c = pointer-asked c.args.self.now c.requires (omega arith)

pub returns-in_err-submodel : goal.returns-in_err-submodel
returns-in_err-submodel c =
    let h = c.args.self.now in
    c.from_residual.ensures ∙ pointer-links (its_recipe h) h.place h.held (pointer-here h c.requires) c.find.ensures c.requires c.in_err-submodel.was

pub returns : goal.returns
returns c =
    let h = c.args.self.now in
    pointer-links (its_recipe h) h.place h.held (pointer-here h c.requires) c.find.ensures c.requires c.in_ok-submodel.was
