-- `flat_names::run_behind` meets its contract: two bytes are looked at, then all of the name's compared, and the underscores behind counted.
-- Assumes nothing.
use Prim.Native.Nat.{◌+◌, ◌-◌}
use lib.ListN.{drop, length}
use native.Mathlib.Omega.{arith}
use Rattle.std.proofs.Common.{length-take}
use mathlib.Core.Path.{◌∙◌, ap}
use Rattle.names.specs.Names.{field_at}
use Rattle.names.proofs.Lists.{same-eq}
use Rattle.recipe.specs.Records.{recipe}
use Rattle.flat_names.specs.Underscores.{run_first}
use Rattle.flat_names.proofs.Looking.{run_none, run-other, run-here}
use Rattle.flat_names.proofs.run_behind.Goals as goal

pub returns-then-s-a : goal.returns-then-s-a
returns-then-s-a c =
    run_none (recipe c.args.s.now) c.args.p c.args.m c.args.n c.requires.1.1 (omega (arith, c.requires.1.0)) c.if-s-a.true

pub returns-then-not-is_same : goal.returns-then-not-is_same
returns-then-not-is_same c =
    run-other (recipe c.args.s.now) c.args.p c.args.m c.args.n c.requires.1.1.long (c.is_same.ensures ∙ same-eq c.field_at.ensures c.field_at-2.ensures) c.if-not-is_same.true

pub returns : goal.returns
unfolding field_at
returns c =
    run-here (recipe c.args.s.now) c.args.p c.args.m c.args.n c.requires.1.1.long (c.is_same.ensures ∙ same-eq c.field_at.ensures c.field_at-2.ensures) c.if-not-is_same.false (omega (arith, c.requires.1.0)) _ (c.count_underscores.ensures ∙ ap run_first c.field_at-3.ensures)

pub count_underscores-requires : goal.count_underscores-requires
unfolding field_at
count_underscores-requires c = omega (arith, ap length c.field_at-3.ensures, length-take (c.args.s.now.width - c.args.n) (drop (c.args.p + 1 + c.args.n) c.args.s.now.bytes.now), c.requires.0)
