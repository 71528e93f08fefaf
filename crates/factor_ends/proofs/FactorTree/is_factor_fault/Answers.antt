-- `factor_ends::FactorTree::is_factor_fault` meets its contract: by the field, and by the chain's end.
-- Assumes nothing.
use mathlib.Core.Path.{◌∙◌, ap}
use Rattle.names.specs.Names.{is_blank}
use Rattle.factor_ends.proofs.FactorFaults.{at_field, ended-numbers, factor-blank, factor-ended, factor-undeclared}
use Rattle.factor_ends.proofs.FactorTree.is_factor_fault.Goals as goal

pub returns-then-is_blank : goal.returns-then-is_blank
returns-then-is_blank c = λ x F. factor-blank F (c.is_blank.ensures ∙ ap is_blank c.field_at.ensures) c.if-is_blank.true

pub factor_end-requires : goal.factor_end-requires
factor_end-requires c = at_field c.requires.1

pub returns-in_default : goal.returns-in_default
returns-in_default c =
    λ x F. factor-undeclared F (c.is_blank.ensures ∙ ap is_blank c.field_at.ensures) (rw c.in_default.is at c.factor_end.ensures.0) c.if-is_blank.false

pub is_factor-requires : goal.is_factor-requires
is_factor-requires c =
    let a = c.args.self.now.chains.aims in
    ended-numbers c.requires.1 (c.is_blank.ensures ∙ ap is_blank c.field_at.ensures) (rw c.in-Some.is at c.factor_end.ensures.0) a.aimed.measured.linked.row₅ a.fits

pub returns : goal.returns
returns c =
    let a = c.args.self.now.chains.aims in
    λ x F. factor-ended F (c.is_blank.ensures ∙ ap is_blank c.field_at.ensures) (rw c.in-Some.is at c.factor_end.ensures.0) a.aimed.measured.linked.row₅ a.fits c.if-is_blank.false c.is_factor.ensures
