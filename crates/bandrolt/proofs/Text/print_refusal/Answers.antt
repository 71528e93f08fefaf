-- `bandrolt::Text::print_refusal` meets its contract: the pieces of its line.
-- Assumes nothing.
use mathlib.Core.List.{append_assoc}
use Rattle.composer.specs.Printed.{characters, refusal_line}
use Rattle.bandrolt.proofs.Lines.{refusal-pieces}
use Rattle.bandrolt.proofs.Text.print_refusal.Goals as goal

pub put-requires : goal.put-requires
unfolding characters
put-requires c = (refusal-pieces c.args.self.now c.args.number c.args.place c.requires).first

pub print_decimal-requires : goal.print_decimal-requires
unfolding characters
print_decimal-requires c = (refusal-pieces c.args.self.now c.args.number c.args.place c.requires).second c.put.ensures

pub put-requires-2 : goal.put-requires-2
unfolding characters
put-requires-2 c = (refusal-pieces c.args.self.now c.args.number c.args.place c.requires).third c.put.ensures c.print_decimal.ensures

pub print_decimal-requires-2 : goal.print_decimal-requires-2
unfolding characters
print_decimal-requires-2 c = (refusal-pieces c.args.self.now c.args.number c.args.place c.requires).fourth c.put.ensures c.print_decimal.ensures c.put-2.ensures

pub put-requires-3 : goal.put-requires-3
unfolding characters
put-requires-3 c =
    (refusal-pieces c.args.self.now c.args.number c.args.place c.requires).fifth c.put.ensures c.print_decimal.ensures c.put-2.ensures c.print_decimal-2.ensures

pub returns : goal.returns
unfolding characters refusal_line
returns c = rw (c.put-3.ensures, c.print_decimal-2.ensures, c.put-2.ensures, c.print_decimal.ensures, c.put.ensures) (simp append_assoc)
