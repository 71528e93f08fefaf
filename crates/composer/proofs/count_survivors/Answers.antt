-- `composer::count_survivors` meets its contract: the iteration has as many items as there are survivors.
-- Assumes nothing.
use mathlib.Core.Logic.{inl}
use mathlib.Core.Path.{◌∙◌, ap}
use lib.ListN.{length}
use native.Mathlib.Omega.{arith}
use Rattle.composer.specs.Surviving.{survivors_left}
use Rattle.composer.proofs.Surviving.{all-come, fates-few, surviving-few, survivors-counted}
use Rattle.composer.proofs.count_survivors.Goals as goal

pub count-requires-clause-fits : goal.count-requires-clause-fits
count-requires-clause-fits c =
    inl (omega (arith, ap length c.of.ensures, surviving-few c.args.f.now.elements.now 0 c.args.f.now.elems, fates-few c.args.f.now.fated))

pub returns : goal.returns
returns c =
    let r = c.count.ensures.ran in
    r.2 ∙ all-come survivors_left r.0 c.of.result _ r.1.0 r.1.1.1 r.1.1.2 ∙ ap length c.of.ensures ∙ survivors-counted c.args.f.now.fated
