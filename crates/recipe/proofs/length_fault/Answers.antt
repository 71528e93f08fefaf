-- `recipe::length_fault` meets its contract: by the test.
-- Assumes nothing.
use mathlib.Core.Path.{sym}
use Rattle.recipe.proofs.Rows.{length-refused, length-passed}
use Rattle.recipe.proofs.length_fault.Goals as goal

pub returns-then-s : goal.returns-then-s
returns-then-s c = sym (length-refused _ c.if-s.true)

pub returns : goal.returns
returns c = sym (length-passed _ c.if-s.false)
