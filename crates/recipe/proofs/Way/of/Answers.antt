-- `recipe::Way::of` meets its contract: byte by byte.
-- Assumes nothing.
use mathlib.Core.Path.{◌≡◌}
use native.Mathlib.Omega.{arith}
use borrow.Author.Tests.{lt-leb}
use Rattle.recipe.specs.Fields.{way_read}
use Rattle.recipe.specs.Reading.{is_way}
use Rattle.recipe.proofs.Way.of.Goals as goal

pub returns-in-0 : goal.returns-in-0
unfolding way_read is_way
returns-in-0 c = let z : c.args.b ≡ 0 = omega (arith, c.in-0.is) in rw z

pub returns-in-1 : goal.returns-in-1
unfolding way_read is_way
returns-in-1 c = let z : c.args.b ≡ 1 = omega (arith, c.in-1.is) in rw z

pub returns-in_default : goal.returns-in_default
unfolding way_read is_way
returns-in_default c = rw (lt-leb c.args.b 1 (omega arith))
