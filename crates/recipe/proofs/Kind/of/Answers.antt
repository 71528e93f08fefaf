-- `recipe::Kind::of` meets its contract: the kinds are 1 to 8.
-- Assumes nothing.
use native.Mathlib.Omega.{arith}
use Rattle.recipe.proofs.Bodies.{no-kind}
use Rattle.recipe.proofs.Kind.of.Goals as goal

pub returns-in_default : goal.returns-in_default
returns-in_default c = no-kind _ (λ a b. omega arith)
