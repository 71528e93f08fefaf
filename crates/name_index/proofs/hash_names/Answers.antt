-- `name_index::hash_names` meets its contract: the invariant: the first p places are filled, the others as they were.
-- Assumes nothing.
use mathlib.Core.Path.{ap, ◌∙◌}
use native.Mathlib.Omega.{arith}
use Rattle.names.specs.Names.{field_at}
use Rattle.name_index.specs.Hash.{hash_of}
use Rattle.name_index.specs.Index.{name_of}
use Rattle.names.proofs.Tables.{filled-one}
use Rattle.name_index.proofs.Positions.{whole-room, filled-all}
use Rattle.name_index.proofs.hash_names.Goals as goal

pub field_at-requires : goal.field_at-requires
field_at-requires c = whole-room c.requires c.loop-p-test.true

pub loop-p-preserved : goal.loop-p-preserved
unfolding name_of field_at
loop-p-preserved c = filled-one c.loop-p.invariant (omega (arith, c.loop-p.invariant.long)) (c.hash.ensures ∙ ap hash_of c.field_at.ensures)

pub returns : goal.returns
returns c = filled-all c.loop-p.invariant c.loop-p.auto.p-end c.loop-p-test.false
