-- `names::are_zeros` meets its contract: a fold by `&`.
-- Assumes nothing.
use mathlib.Core.Path.{◌≡◌, ◌∙◌}
use mathlib.Core.Bool.{true, ◌&&◌}
use Rattle.std.specs.List.{fold}
use Rattle.std.proofs.Common.{arith}
use Rattle.std.proofs.lemmas.Grind.{common_steps}
use lib.Dec.{eqb}
use Rattle.names.proofs.Runs.{fold-every}
use Rattle.names.proofs.are_zeros.Goals as goal

pub returns : goal.returns
returns c =
    let e : c.fold.result ≡ fold (λ a x. a && eqb 0 x) true c.args.eight.now = grind (arith, common_steps) in
    e ∙ fold-every (eqb 0) c.args.eight.now
