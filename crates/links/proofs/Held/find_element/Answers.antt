-- `Held::find_element` meets its contract: a blank names none, and a name is looked up.
-- Assumes nothing.
use native.Mathlib.Omega.{arith}
use Rattle.links.proofs.Looking.{blank-answer, filled-answer, filled-sought}
use Rattle.links.proofs.Held.find_element.Goals as goal

pub returns-then-is_blank : goal.returns-then-is_blank
returns-then-is_blank c = blank-answer c.args.self.now c.args.q c.requires c.is_blank.ensures c.if-is_blank.true

pub find-requires : goal.find-requires
find-requires c = filled-sought c.args.self.now c.args.q c.requires c.is_blank.ensures c.if-is_blank.false (omega arith)

pub returns : goal.returns
returns c = filled-answer c.args.self.now c.args.q c.requires c.is_blank.ensures c.if-is_blank.false c.find.ensures
