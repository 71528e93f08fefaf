-- `elements::put_step` meets its contract: one store, by the kind.
-- Assumes nothing.
use mathlib.Core.Path.{◌∙◌, sym}
use Rattle.elements.proofs.put_step.Goals as goal

pub returns-then-is_replaced_by : goal.returns-then-is_replaced_by
returns-then-is_replaced_by c =
    rw (sym c.is_replaced_by.ensures ∙ c.if-is_replaced_by.true) c.set_numbered.ensures

pub returns : goal.returns
returns c =
    rw (sym c.is_replaced_by.ensures ∙ c.if-is_replaced_by.false) c.set_numbered-2.ensures
