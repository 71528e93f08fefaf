-- `marks::Pointer::meets_any` meets its contract: of a replaced-by, the cells of its owner, where those of its target are not set.
-- Assumes nothing.
use mathlib.Core.Path.{◌∙◌, sym}
use native.Mathlib.Omega.{arith}
use Rattle.marks.proofs.Records.{meets-owner}
use Rattle.marks.proofs.Pointer.meets_any.Goals as goal

pub returns-then-is_replaced_by : goal.returns-then-is_replaced_by
returns-then-is_replaced_by c =
    c.any_set-then-is_replaced_by.ensures
    ∙ meets-owner c.args.cells.now c.args.self.kind c.args.self.target c.args.self.owner c.args.self.depth
    (sym c.is_port.ensures ∙ c.if-is_port.false) (sym c.is_replaced_by.ensures ∙ c.if-is_replaced_by.true)
    (omega (arith, c.requires.1, c.requires.0.target, c.requires.0.depth)) (omega (arith, c.requires.1, c.requires.0.owner (sym c.is_replaced_by.ensures ∙ c.if-is_replaced_by.true)))
    (sym c.any_set-2.ensures ∙ c.if-any_set-2.false)
