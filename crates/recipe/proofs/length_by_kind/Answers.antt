-- `recipe::length_by_kind` meets its contract: kind by kind.
-- Assumes nothing.
use Rattle.recipe.proofs.RecordLengths.{length-model, length-submodel, length-deletion, length-factors, length_three, length_none, length-past}
use native.Mathlib.Omega.{arith}
use Rattle.recipe.proofs.length_by_kind.Goals as goal

pub returns-in-1 : goal.returns-in-1
returns-in-1 c = length-model _ c.in-1.is

pub returns-in-4 : goal.returns-in-4
returns-in-4 c = length-submodel _ c.in-4.is

pub returns-in-5 : goal.returns-in-5
returns-in-5 c = length-deletion _ c.in-5.is

pub returns-in-8 : goal.returns-in-8
returns-in-8 c = length-factors _ c.in-8.is

pub returns-in-2 : goal.returns-in-2
returns-in-2 c =
    length_three _ _ (omega arith) (omega arith) (λ e. omega arith) (λ e. omega arith) (λ e. omega arith)

pub returns-in_default : goal.returns-in_default
returns-in_default c = length_none _ _ (omega arith)

pub returns-in_default-2 : goal.returns-in_default-2
returns-in_default-2 c = length-past _ _ (omega arith)
