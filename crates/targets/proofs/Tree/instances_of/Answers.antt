-- `Tree::instances_of` meets its contract: the record's cells are in the shadow.
-- Assumes nothing.
use Rattle.tree.proofs.Steps.{follow-room}
use Rattle.targets.proofs.Tree.instances_of.Goals as goal

pub record-requires : goal.record-requires
record-requires c = follow-room c.args.self.now.targeted.planted c.args.p c.requires

pub returns : goal.returns
returns c = c.record.ensures
