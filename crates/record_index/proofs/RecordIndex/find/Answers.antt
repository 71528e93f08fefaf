-- `RecordIndex::find` meets its contract: from what the index finds.
-- Assumes nothing.
use mathlib.Core.Path.{refl, ◌∙◌}
use native.Mathlib.Omega.{arith}
use Rattle.record_index.proofs.Places.{place-room}
use Rattle.record_index.proofs.Repeats.{R, low}
use Rattle.record_index.proofs.Lookups.{sought-none, sought-in, sought-some, sought-other}
use Rattle.record_index.proofs.RecordIndex.find.Goals as goal

pub returns-in_err-i : goal.returns-in_err-i
returns-in_err-i c =
    c.from_residual.ensures ∙ sought-none c.args.self.now c.requires.once c.requires.sought c.kind_byte-kind.ensures c.tag.ensures.0 c.field_at-f.ensures c.key-k.ensures c.find.ensures c.in_err-i.was

pub offset_bounds-self-i : goal.offset_bounds-self-i
offset_bounds-self-i c = omega (arith, low c.args.self.now _ c.find.ensures c.in_ok-i.was)

pub bounds-self-i : goal.bounds-self-i
bounds-self-i c = low c.args.self.now _ c.find.ensures c.in_ok-i.was

pub bounds-self-p : goal.bounds-self-p
bounds-self-p c =
    omega (arith, place-room (R c.args.self.now) _ (sought-in c.args.self.now c.requires.once c.requires.sought c.kind_byte-kind.ensures c.tag.ensures.0 c.field_at-f.ensures c.key-k.ensures c.find.ensures c.in_ok-i.was))

pub returns-then-self-p : goal.returns-then-self-p
returns-then-self-p c =
    sought-some c.args.self.now c.requires.once c.requires.sought c.kind_byte-kind.ensures c.tag.ensures.0 c.field_at-f.ensures c.key-k.ensures c.find.ensures c.in_ok-i.was refl c.if-self-p.true

pub returns : goal.returns
returns c =
    sought-other c.args.self.now c.requires.once c.requires.sought c.kind_byte-kind.ensures c.tag.ensures.0 c.field_at-f.ensures c.key-k.ensures c.find.ensures c.in_ok-i.was refl c.if-self-p.false
