-- `factor_ends::Chains::factor_end` meets its contract: none for no element, or the end of the chain from it.
-- Assumes nothing.
use native.Mathlib.Omega.{arith}
use Rattle.factor_ends.proofs.FactorEnds.{an-end, factor-end-few, factor-few, factor-room, factor-steps, no_end}
use Rattle.factor_ends.proofs.Chains.factor_end.Goals as goal

pub returns-in_err-q : goal.returns-in_err-q
returns-in_err-q c = rw c.from_residual.ensures (no_end c.in_err-q.was, tt)

pub cell-requires : goal.cell-requires
cell-requires c =
    let s = c.args.self.now in
    omega (arith, factor-room s.aims.aimed s.aims.fits s.chained c.in_ok-q.was c.requires)

pub overflow_add-e : goal.overflow_add-e
overflow_add-e c =
    let s = c.args.self.now in
    omega (arith, factor-few s.aims.aimed s.aims.fits s.chained c.in_ok-q.was c.cell.ensures.0 c.requires)

pub chain_end-requires : goal.chain_end-requires
chain_end-requires c =
    let s = c.args.self.now in
    factor-steps s.aims.aimed s.aims.fits s.chained c.in_ok-q.was c.cell.ensures.0 c.requires

pub returns : goal.returns
returns c =
    let s = c.args.self.now in
    (an-end s.aims.aimed s.aims.fits s.chained c.in_ok-q.was c.cell.ensures.0 c.chain_end.ensures, factor-end-few s.aims.aimed s.aims.fits s.chained c.in_ok-q.was c.cell.ensures.0 c.chain_end.ensures c.requires)
