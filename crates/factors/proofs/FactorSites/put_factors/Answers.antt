-- `FactorSites::put_factors` meets its contract: the invariant: j fields are written, one behind the other.
-- Assumes nothing.
use native.Mathlib.Omega.{arith}
use Rattle.flat_names.proofs.Filling.{naming}
use Rattle.composer.proofs.Fields.{field-requires}
use Rattle.factors.proofs.Entries.{fields-end, fields_fit, fields-room, fields-turn, here-tree}
use Rattle.factors.proofs.FactorSites.put_factors.Goals as goal

pub overflow_mul-j-in-loop-j : goal.overflow_mul-j-in-loop-j
overflow_mul-j-in-loop-j c =
    let C = c.args.self.now.composition.now.composed in
    omega (arith, fields_fit C c.loop-j.invariant c.requires.1 c.loop-j-test.true c.field_width-f.ensures)

pub put_field-requires : goal.put_field-requires
put_field-requires c =
    let v = c.args.self.now in
    let C = v.composition.now.composed in
    field-requires (naming C.targeted.planted) v.alike _ _
    (here-tree C c.loop-j.invariant c.requires.1 c.loop-j-test.true v.sited c.requires.0 c.site_in-site.ensures)
    (fields-room C c.loop-j.invariant c.requires.1 c.loop-j-test.true c.field_width-f.ensures)

pub loop-j-preserved : goal.loop-j-preserved
loop-j-preserved c =
    let v = c.args.self.now in
    fields-turn v.composition.now.composed c.loop-j.invariant c.requires.1 c.loop-j-test.true v.sited c.requires.0 c.site_in-site.ensures c.field_width-f.ensures v.alike c.put_field.ensures

pub returns : goal.returns
returns c = fields-end c.args.self.now.composition.now.composed c.loop-j.invariant c.requires.1 c.loop-j-test.false
