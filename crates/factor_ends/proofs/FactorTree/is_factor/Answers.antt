-- `factor_ends::FactorTree::is_factor` meets its contract: by what is gone, and by the class.
-- Assumes nothing.
use native.Mathlib.Omega.{arith}
use Rattle.elements.proofs.Elements.{row_room}
use Rattle.factor_ends.proofs.FactorFaults.{factor-told}
use Rattle.factor_ends.proofs.FactorTree.is_factor.Goals as goal

pub is_gone-kept-requires : goal.is_gone-kept-requires
is_gone-kept-requires c =
    let s = c.args.self.now.chains in
    omega (arith, row_room s.aims.fits s.chained.rows c.requires)

pub class_of-requires : goal.class_of-requires
class_of-requires c = (c.args.self.now.chains.chained.rows, c.requires)

pub returns : goal.returns
returns c = factor-told _ _ c.args.self.now.factored.gones c.is_gone-kept.ensures c.class_of.ensures
