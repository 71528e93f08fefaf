-- `Records::next_is_right` meets its contract: by which of the runs has ended.
-- Assumes nothing.
use mathlib.Core.Path.{sym, ◌∙◌}
use Rattle.name_index.proofs.Merging.{none_left, none_right, both_left}
use Rattle.name_index.proofs.Records.next_is_right.Goals as goal

pub returns-then-a-i : goal.returns-then-a-i
returns-then-a-i c = sym (none_left _ _ _ _ c.if-a-i.true)

pub returns-then-b-j : goal.returns-then-b-j
returns-then-b-j c = sym (none_right _ _ _ _ _ c.if-a-i.false c.if-b-j.true)

pub returns : goal.returns
returns c = c.is_lt.ensures ∙ (c.compare.ensures ∙ sym (both_left _ _ _ _ _ c.if-a-i.false c.if-b-j.false))
