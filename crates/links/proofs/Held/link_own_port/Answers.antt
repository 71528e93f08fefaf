-- `Held::link_own_port` meets its contract: by the element that it names.
-- Assumes nothing.
use mathlib.Core.Path.{◌∙◌}
use native.Mathlib.Omega.{arith}
use Rattle.links.specs.Held.{its_recipe}
use Rattle.links.proofs.Linking.{by-port-links}
use Rattle.links.proofs.Looking.{by-port, own-links, port-kind, target-asked}
use Rattle.links.proofs.Held.link_own_port.Goals as goal

pub returns-in-ByPort : goal.returns-in-ByPort
returns-in-ByPort c =
    let h = c.args.self.now in
    by-port-links (its_recipe h) h.place (port-kind h c.requires.0) c.requires.1 (by-port h c.requires.0 c.in-ByPort.is)

pub find-requires : goal.find-requires
find-requires c = target-asked c.args.self.now c.requires.0 c.in-ByElement.is (omega arith)

pub returns-in_err-own-in-ByElement : goal.returns-in_err-own-in-ByElement
returns-in_err-own-in-ByElement c =
    c.from_residual.ensures ∙ own-links c.args.self.now c.requires.0 c.in-ByElement.is c.requires.1 c.find.ensures c.in_err-own-in-ByElement.was

pub returns-in_ok-own-in-ByElement : goal.returns-in_ok-own-in-ByElement
returns-in_ok-own-in-ByElement c =
    own-links c.args.self.now c.requires.0 c.in-ByElement.is c.requires.1 c.find.ensures c.in_ok-own-in-ByElement.was
