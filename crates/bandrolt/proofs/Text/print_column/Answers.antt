-- `bandrolt::Text::print_column` meets its contract: a space, and the field, which is blank or has a text.
-- Assumes nothing.
use mathlib.Core.Path.{sym}
use mathlib.Core.List.{append_assoc}
use Rattle.composer.specs.Printed.{characters, shown}
use Rattle.bandrolt.proofs.Texts.{room-first, room-then}
use Rattle.bandrolt.proofs.Lines.{blank-shown, text-shown}
use Rattle.bandrolt.proofs.Text.print_column.Goals as goal

pub put-requires : goal.put-requires
unfolding characters
put-requires c = room-first c.args.self.now (characters " ") (shown c.args.field.now) c.requires

pub put-requires-then-is_blank : goal.put-requires-then-is_blank
unfolding characters
put-requires-then-is_blank c =
    rw (blank-shown c.args.field.now c.is_blank.ensures c.if-is_blank.true) at (room-then c.args.self.now (characters " ") (shown c.args.field.now) c.put.ensures c.requires)

pub returns-then-is_blank : goal.returns-then-is_blank
unfolding characters
returns-then-is_blank c =
    rw (c.put-then-is_blank.ensures, c.put.ensures, blank-shown c.args.field.now c.is_blank.ensures c.if-is_blank.true) (simp append_assoc)

pub put-requires-2 : goal.put-requires-2
unfolding characters
put-requires-2 c =
    let room = room-then c.args.self.now (characters " ") (shown c.args.field.now) c.put.ensures c.requires in
    rw (c.unpadded.ensures, sym (text-shown c.args.field.now c.is_blank.ensures c.if-is_blank.false)) room

pub returns : goal.returns
unfolding characters
returns c =
    rw (c.put-2.ensures, c.put.ensures, c.unpadded.ensures, text-shown c.args.field.now c.is_blank.ensures c.if-is_blank.false) (simp append_assoc)
