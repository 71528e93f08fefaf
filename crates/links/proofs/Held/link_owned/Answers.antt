-- `Held::link_owned` meets its contract: by its owner and its submodel.
-- Assumes nothing.
use mathlib.Core.Path.{◌∙◌}
use native.Mathlib.Omega.{arith}
use Rattle.links.proofs.Linking.{either, refused, passed}
use Rattle.links.proofs.Looking.{mark-asked, mark-links, owner-asked}
use Rattle.links.proofs.Held.link_owned.Goals as goal

pub find_element-owner-requires : goal.find_element-owner-requires
find_element-owner-requires c = owner-asked c.args.self.now c.requires.0 c.requires.1

pub find-submodel-requires : goal.find-submodel-requires
find-submodel-requires c = mark-asked c.args.self.now c.requires.0 c.requires.1 (omega arith)

pub returns-then-is_none : goal.returns-then-is_none
returns-then-is_none c =
    refused _ (mark-links c.args.self.now c.requires.0 c.requires.1 c.find_element-owner.ensures c.find-submodel.ensures) (either _ _ _ _ c.is_none.ensures c.is_none-2.ensures ∙ c.if-is_none.true)

pub returns : goal.returns
returns c =
    passed _ (mark-links c.args.self.now c.requires.0 c.requires.1 c.find_element-owner.ensures c.find-submodel.ensures) (either _ _ _ _ c.is_none.ensures c.is_none-2.ensures ∙ c.if-is_none.false)
