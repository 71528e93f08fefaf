-- `names::read_field` meets its contract: a field is blank, or the run of bytes that may stand in a name, and what is behind it.
-- Assumes nothing.
use Rattle.names.proofs.Names.{field-blank, field-none, field-unpadded, field-named, field-digit}
use Rattle.names.proofs.read_field.Goals as goal

pub returns-then-is_blank : goal.returns-then-is_blank
returns-then-is_blank c = field-blank _ c.is_blank.ensures c.if-is_blank.true

pub returns-then-n-eq0 : goal.returns-then-n-eq0
returns-then-n-eq0 c = field-none _ c.is_blank.ensures c.if-is_blank.false c.others-n.ensures.run c.if-n-eq0.true

pub returns-then-not-is_blank : goal.returns-then-not-is_blank
returns-then-not-is_blank c = field-unpadded _ c.others-n.ensures.run c.is_blank-2.ensures c.if-not-is_blank.true

pub returns-then-is_first : goal.returns-then-is_first
returns-then-is_first c =
    field-named _ c.others-n.ensures.run c.is_blank-2.ensures c.if-not-is_blank.false c.is_first.ensures c.if-is_first.true

pub returns : goal.returns
returns c =
    field-digit _ c.others-n.ensures.run c.is_blank-2.ensures c.if-n-eq0.false c.is_first.ensures c.if-is_first.false
