-- `Prefixes::put_name` meets its contract: three parts, one behind the other.
-- Assumes nothing.
use native.Mathlib.Omega.{arith}
use mathlib.Core.Path.{ap, ◌∙◌}
use lib.ListN.{length}
use Rattle.names.specs.Names.{field_at}
use Rattle.names.proofs.Stores.{field-long}
use Rattle.recipe.specs.Records.{recipe}
use Rattle.flat_names.proofs.Puts.{NameRoom, name-room, put-name}
use Rattle.flat_names.proofs.Prefixes.put_name.Goals.{After-number_at-l}
use Rattle.flat_names.proofs.Prefixes.put_name.Goals as goal

room : (c : After-number_at-l) → let p = c.args.self.now in NameRoom (recipe p.source.now) p.bytes.now c.args.out.now c.args.i c.args.q c.args.at c.number_at-l.result c.row_width-row.result
room c = name-room _ c.requires.0 c.args.self.now.prefixed c.requires.1.0 c.requires.1.1.0 c.requires.1.1.1 c.number_at-l.ensures c.row_width-row.ensures

pub field_at-requires : goal.field_at-requires
field_at-requires c = let r = room (goal.at.field_at-requires c).After-number_at-l in omega arith

pub put_bytes-requires : goal.put_bytes-requires
put_bytes-requires c =
    let r = room (goal.at.put_bytes-requires c).After-number_at-l in
    omega (arith, ap length c.field_at.ensures ∙ field-long _ _ _ (omega arith))

pub overflow_add-q : goal.overflow_add-q
overflow_add-q c = let r = room (goal.at.overflow_add-q c).After-number_at-l in omega arith

pub field_at-requires-2 : goal.field_at-requires-2
field_at-requires-2 c = let r = room (goal.at.field_at-requires-2 c).After-number_at-l in omega arith

pub put_bytes-requires-2 : goal.put_bytes-requires-2
put_bytes-requires-2 c =
    let r = room (goal.at.put_bytes-requires-2 c).After-number_at-l in
    omega (arith, ap length c.field_at-2.ensures ∙ field-long _ _ _ (omega arith))

pub overflow_sub-row : goal.overflow_sub-row
overflow_sub-row c = let r = room (goal.at.overflow_sub-row c).After-number_at-l in omega arith

pub overflow_add-at-2 : goal.overflow_add-at-2
overflow_add-at-2 c = let r = room (goal.at.overflow_add-at-2 c).After-number_at-l in omega arith

pub put_zeros-requires : goal.put_zeros-requires
put_zeros-requires c = let r = room (goal.at.put_zeros-requires c).After-number_at-l in omega arith

pub returns : goal.returns
unfolding field_at
returns c =
    put-name _ c.requires.0 _ _ _ _ _ _ _ _ _ _ c.args.self.now.prefixed c.requires.1.0 c.requires.1.1.0 c.number_at-l.ensures (rw (c.field_at.ensures, c.row_width-row.ensures) at c.put_bytes.ensures) (rw c.field_at-2.ensures at c.put_bytes-2.ensures) (rw c.row_width-row.ensures at c.put_zeros.ensures)
