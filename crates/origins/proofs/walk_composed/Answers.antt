-- `origins::walk_composed` meets its contract: none for a name of another length and for one that no survivor has, else the origin that was found.
-- Assumes nothing.
use mathlib.Core.Path.{◌∙◌, sym}
use native.Mathlib.Omega.{arith}
use Rattle.origins.proofs.Answers.{origin-found, origin-low, other_length}
use Rattle.origins.proofs.walk_composed.Goals as goal

pub returns-then-name-f : goal.returns-then-name-f
returns-then-name-f c =
    other_length c.args.c.now.composed c.args.name.now c.field_width-f.ensures (λ q. omega (arith, c.if-name-f.true))

pub invariant_of-sought : goal.invariant_of-sought
invariant_of-sought c = record { long = c.if-name-f.false ∙ c.field_width-f.ensures }

pub origin_at-requires : goal.origin_at-requires
origin_at-requires c =
    origin-low c.args.c.now.composed c.args.name.now (sym c.in_ok-e.was ∙ c.find_origin.ensures)

pub returns : goal.returns
returns c =
    origin-found c.args.c.now.composed c.args.name.now (sym c.in_ok-e.was ∙ c.find_origin.ensures) c.origin_at.ensures
