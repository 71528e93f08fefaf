-- `record_index::tag` meets its contract: kind by kind.
-- Assumes nothing.
use mathlib.Core.Path.{sym, ◌∙◌}
use borrow.Author.Tests.{eq-eqb, ne_eqb}
use Rattle.record_index.specs.Entries.{tag_of}
use Rattle.record_index.proofs.tag.Goals as goal

pub returns-then-k : goal.returns-then-k
unfolding tag_of
returns-then-k c = (rw (eq-eqb _ _ c.if-k.true) c.space_of.ensures.0, c.space_of.ensures.1)

pub returns-then-is_port : goal.returns-then-is_port
unfolding tag_of
returns-then-is_port c =
    (rw (ne_eqb _ _ c.if-k.false, sym c.is_port.ensures ∙ c.if-is_port.true) c.space_of-then-is_port.ensures.0, c.space_of-then-is_port.ensures.1)

pub returns-then-is_replaced_by : goal.returns-then-is_replaced_by
unfolding tag_of
returns-then-is_replaced_by c =
    (rw (ne_eqb _ _ c.if-k.false, sym c.is_port.ensures ∙ c.if-is_port.false, sym c.is_replaced_by.ensures ∙ c.if-is_replaced_by.true) c.space_of-then-is_replaced_by.ensures.0, c.space_of-then-is_replaced_by.ensures.1)

pub returns-then-k-2 : goal.returns-then-k-2
unfolding tag_of
returns-then-k-2 c =
    (rw (ne_eqb _ _ c.if-k.false, sym c.is_port.ensures ∙ c.if-is_port.false, sym c.is_replaced_by.ensures ∙ c.if-is_replaced_by.false, c.if-k-2.true) c.space_of-then-k-2.ensures.0, c.space_of-then-k-2.ensures.1)

pub returns : goal.returns
unfolding tag_of
returns c =
    (rw (ne_eqb _ _ c.if-k.false, sym c.is_port.ensures ∙ c.if-is_port.false, sym c.is_replaced_by.ensures ∙ c.if-is_replaced_by.false, c.if-k-2.false) c.space_of-2.ensures.0, c.space_of-2.ensures.1)
