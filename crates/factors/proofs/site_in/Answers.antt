-- `factors::site_in` meets its contract: the instance and the record, if there is one.
-- Assumes nothing.
use Rattle.factors.specs.Sites.{stored_site}
use Rattle.factors.proofs.site_in.Goals as goal

pub returns : goal.returns
unfolding stored_site
returns c = rw c.cell.ensures.0 at c.linked.ensures
