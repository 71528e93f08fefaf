-- `factors::factor_site` meets its contract: the row of the end of the chain, if there is one.
-- Assumes nothing.
use native.Mathlib.Omega.{arith}
use Rattle.factors.proofs.Sites.{found-room, found-site, lost-site}
use Rattle.factors.proofs.factor_site.Goals as goal

pub invariant_of-chains : goal.invariant_of-chains
invariant_of-chains c =
    let C = c.args.c.now.composed in
    record { chained = rw c.aims.ensures.0 (record { rows = C.elements; nexts = C.nexts }) }

pub factor_end-requires : goal.factor_end-requires
factor_end-requires c = rw c.aims.ensures.0 c.requires

pub returns-in_err-z : goal.returns-in_err-z
returns-in_err-z c = rw c.from_residual.ensures (lost-site c.args.c.now.composed _ (rw c.aims.ensures.0 at c.factor_end.ensures.0) c.in_err-z.was, tt)

pub of-requires : goal.of-requires
of-requires c = omega (arith, found-room c.args.c.now.composed _ (rw c.aims.ensures.0 at c.factor_end.ensures.0) c.in_ok-z.was c.requires)

pub returns : goal.returns
returns c = (found-site c.args.c.now.composed _ (rw c.aims.ensures.0 at c.factor_end.ensures.0) c.in_ok-z.was c.of.ensures.0, c.of.ensures.1)
