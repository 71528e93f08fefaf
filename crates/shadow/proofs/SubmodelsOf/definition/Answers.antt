-- `SubmodelsOf::definition` stands at the definition, behind which all of its submodels are left.
-- Assumes nothing.
use Rattle.recipe.specs.Records.{recipe}
use Rattle.recipe.proofs.Spans.{definition-place}
use Rattle.shadow.proofs.Submodels.{left-own}
use Rattle.shadow.proofs.SubmodelsOf.definition.Goals as goal

pub returns : goal.returns
returns c =
    let s = recipe c.args.s.now in
    ((c.requires.0, (definition-place s c.args.d c.requires.1).0), left-own s c.args.d c.requires.1)
