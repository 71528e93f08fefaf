-- `Origin::from` gives a refusal's number and place, and zeros.
-- Assumes nothing.
use Rattle.names.specs.Lists.{padded}
use Rattle.tree.specs.Tree.{most_depth}
use Rattle.origins.specs.Origins.{walk_refused}
use Rattle.origins.proofs.OriginFromRefusal.from.Goals as goal

pub returns : goal.returns
unfolding walk_refused padded most_depth
returns c = rw c.number.ensures
