-- `composer::reference_site` meets its contract: the site of the end of the chain, if there is one.
-- Assumes nothing.
use Rattle.std.specs.Prelude.{Some}
use mathlib.Core.Path.{◌∙◌, ap, sym}
use native.Mathlib.Omega.{arith}
use Rattle.tree.proofs.Nexts.{next-some}
use Rattle.composer.proofs.Fields.{numbered-by}
use Rattle.composer.proofs.reference_site.Goals as goal

pub returns-in_err-z : goal.returns-in_err-z
returns-in_err-z c = c.from_residual.ensures ∙ numbered-by _ _ c.in_err-z.ensures

pub of-requires : goal.of-requires
of-requires c = omega (arith, c.requires.1.1, next-some (sym c.in_ok-z.ensures))

pub returns : goal.returns
returns c = ap Some c.of.ensures.0 ∙ numbered-by _ _ c.in_ok-z.ensures
