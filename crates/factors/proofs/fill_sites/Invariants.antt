-- `factors::fill_sites` meets its contract: the invariant: the rows of the first i instances.
-- Assumes nothing.
use Prim.Native.Nat.{◌≤◌}
use Rattle.recipe.specs.Records.{recipe}
use Rattle.factors.specs.Sites.{SitesTo}
use Rattle.factors.proofs.fill_sites.Given as goal

abbrev pub invariant-loop-i : goal.invariant-loop-i
invariant-loop-i l = (l.i ≤ l.c.size.insts) × SitesTo (recipe l.c.tree.source.now) l.sites l.i
