-- `flat_names::put_row` meets its contract: the row around, the name, and its underscores.
-- Assumes nothing.
use native.Mathlib.Omega.{arith}
use mathlib.Core.Path.{ap, ◌≡◌, ◌∙◌}
use Rattle.names.specs.Names.{field_at}
use Rattle.names.proofs.Stores.{field-long}
use Prim.Native.Nat.{◌+◌, ◌≤◌}
use lib.ListN.{length}
use Rattle.recipe.specs.Records.{recipe}
use Rattle.recipe.proofs.Definitions.{name-short}
use Rattle.flat_names.specs.Prefixes.{prefix}
use Rattle.flat_names.proofs.Looking.{own_room}
use Rattle.flat_names.proofs.Filling.{row-copied, row-length, row-parts}
use Rattle.flat_names.proofs.put_row.Goals.{After-fewest_underscores-u}
use Rattle.flat_names.proofs.put_row.Goals as goal

pub name_length-n-requires : goal.name_length-n-requires
name_length-n-requires c = own_room c.requires.0 c.args.m c.requires.1.0

-- the name and its underscores are the prefix
size : (c : After-fewest_underscores-u) → c.name_length-n.result + c.fewest_underscores-u.result ≡ length (prefix (recipe c.args.s.now) c.args.m)
size c = row-length (recipe c.args.s.now) c.args.m _ _ c.name_length-n.ensures c.fewest_underscores-u.ensures

pub overflow_add-m : goal.overflow_add-m
overflow_add-m c = omega (arith, own_room c.requires.0 c.args.m c.requires.1.0, c.requires.0.numbered.shadowed.short)

pub field_at-requires : goal.field_at-requires
field_at-requires c = omega (arith, own_room c.requires.0 c.args.m c.requires.1.0, name-short (recipe c.args.s.now) c.args.m)

pub put_bytes-requires : goal.put_bytes-requires
put_bytes-requires c =
    let own : c.args.m + 1 + c.name_length-n.result ≤ length c.args.s.now.bytes.now = omega (arith, own_room c.requires.0 c.args.m c.requires.1.0, name-short (recipe c.args.s.now) c.args.m) in
    omega (arith, ap length c.field_at.ensures ∙ field-long _ _ _ own, size (goal.at.put_bytes-requires c).After-fewest_underscores-u)

pub overflow_add-l : goal.overflow_add-l
overflow_add-l c = omega (arith, size (goal.at.overflow_add-l c).After-fewest_underscores-u)

pub overflow_add-to-2 : goal.overflow_add-to-2
overflow_add-to-2 c = omega (arith, size (goal.at.overflow_add-to-2 c).After-fewest_underscores-u)

pub put_underscores-end-requires : goal.put_underscores-end-requires
put_underscores-end-requires c = omega (arith, size (goal.at.put_underscores-end-requires c).After-fewest_underscores-u)

pub returns : goal.returns
unfolding field_at
returns c =
    let copied = c.copy_within.ensures.after ∙ row-copied c.args.pre.now c.args.from c.args.l c.args.to (omega arith) (omega arith) in
    (omega (arith, size (goal.at.returns c).After-fewest_underscores-u), row-parts (recipe c.args.s.now) c.args.m c.name_length-n.result c.fewest_underscores-u.result c.args.l c.args.pre.now _ _ _ c.args.from c.args.to c.name_length-n.ensures c.fewest_underscores-u.ensures (omega arith) copied (rw c.field_at.ensures at c.put_bytes.ensures) c.put_underscores-end.ensures.1)
