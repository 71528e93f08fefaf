-- `Survivors::next` gives the first of the survivors that are left, and leaves those behind it.
-- Assumes nothing.
use lib.ListN.{length}
use mathlib.Core.Path.{ap}
use native.Mathlib.Omega.{arith}
use Rattle.composer.proofs.SurvivorsIterator.next.Goals as goal

pub returns-in_err-e-clause-steps : goal.returns-in_err-e-clause-steps
returns-in_err-e-clause-steps c = rw c.from_residual.ensures (c.in_err-e.ensures, c.in_err-e.ensures)

pub returns-clause-goes : goal.returns-clause-goes
returns-clause-goes c =
    record { on = λ f. (tt, f, omega (arith, ap length c.in_ok-e.ensures.1)); keeps = tt; rests = λ f. tt }
