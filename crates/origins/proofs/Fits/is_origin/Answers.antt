-- `Fits::is_origin` meets its contract: one that is gone is none, nor one whose instance's prefixes do not fit.
-- Assumes nothing.
use Rattle.origins.proofs.Finding.{fit-inside, fit-origin, gone-origin, name-requires, unfit-origin}
use Rattle.origins.proofs.Fits.is_origin.Goals as goal

pub returns-then-is_gone : goal.returns-then-is_gone
returns-then-is_gone c =
    gone-origin c.args.self.now.sought.composition.now.composed c.args.self.now.fits c.requires c.is_gone.ensures c.if-is_gone.true

pub numbered-requires : goal.numbered-requires
numbered-requires c =
    fit-inside c.args.self.now.sought.composition.now.composed c.args.self.now.fits c.requires c.cell-i.ensures.0

pub returns-in_default : goal.returns-in_default
returns-in_default c =
    unfit-origin c.args.self.now.sought.composition.now.composed c.args.self.now.fits c.requires c.cell-i.ensures.0 c.numbered.result c.numbered.ensures c.is_gone.ensures c.if-is_gone.false c.in_default.is

pub ends_with-requires : goal.ends_with-requires
ends_with-requires c =
    name-requires c.args.self.now.sought.composition.now.composed c.args.self.now.fits c.requires c.cell-i.ensures.0 c.numbered.result c.numbered.ensures c.in-Some.is c.cell-q.ensures.0

pub returns : goal.returns
returns c =
    fit-origin c.args.self.now.sought.composition.now.composed c.args.self.now.fits c.requires c.cell-i.ensures.0 c.numbered.result c.numbered.ensures c.in-Some.is c.cell-q.ensures.0 c.is_gone.ensures c.if-is_gone.false c.ends_with.ensures
