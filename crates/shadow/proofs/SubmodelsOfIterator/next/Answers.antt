-- `SubmodelsOf::next` gives the first of the submodels that are left, and leaves those behind it.
-- Assumes nothing.
use native.Mathlib.Omega.{arith}
use lib.ListN.{length}
use mathlib.Core.Path.{◌∙◌, ap, sym}
use Rattle.recipe.specs.Records.{recipe}
use Rattle.shadow.proofs.Submodels.{left-none, left-some}
use Rattle.shadow.proofs.SubmodelsOfIterator.next.Goals as goal

pub returns-in_err-self-clause-steps : goal.returns-in_err-self-clause-steps
returns-in_err-self-clause-steps c =
    let a = c.args.self.now in
    let z = left-none (recipe a.source.now) a.at (sym c.in_err-self.was ∙ c.submodel_behind.ensures) in
    rw c.from_residual.ensures (z, z)

pub returns-clause-steps : goal.returns-clause-steps
returns-clause-steps c =
    let a = c.args.self.now in
    (left-some (recipe a.source.now) a.at c.in_ok-self.field-0 (sym c.in_ok-self.was ∙ c.submodel_behind.ensures)).0

pub returns-clause-goes : goal.returns-clause-goes
returns-clause-goes c =
    let a = c.args.self.now in
    let z = left-some (recipe a.source.now) a.at c.in_ok-self.field-0 (sym c.in_ok-self.was ∙ c.submodel_behind.ensures) in
    record { on = λ f. ((c.requires.0, z.1), f, omega (arith, ap length z.0)); keeps = (c.requires.0, z.1); rests = λ f. tt }
