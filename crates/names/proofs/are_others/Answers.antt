-- `names::are_others` meets its contract: a fold by `&`.
-- Assumes nothing.
use mathlib.Core.Path.{◌≡◌, ◌∙◌}
use mathlib.Core.Bool.{true, ◌&&◌}
use Rattle.std.specs.List.{fold}
use Rattle.std.proofs.Common.{arith}
use Rattle.std.proofs.lemmas.Grind.{common_steps}
use Rattle.names.specs.Names.{is_other}
use Rattle.names.proofs.Runs.{fold-every}
use Rattle.names.proofs.are_others.Goals as goal

pub returns : goal.returns
returns c =
    let e : c.fold.result ≡ fold (λ a x. a && is_other x) true c.args.eight.now = grind (arith, common_steps) in
    e ∙ fold-every is_other c.args.eight.now
