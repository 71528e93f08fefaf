-- `recipe::read_record` meets its contract: kind by kind, as the reader of that kind answers.
-- Assumes nothing.
use mathlib.Core.Path.{refl, sym, ◌∙◌}
use Rattle.recipe.proofs.Fields.{of-kind, in-recipe, kinded, at_1, at-2, at-3, at-4, at_8, mark-at, unmarked, deletion-read, replacement-read, replaced-by-read}
use Rattle.recipe.proofs.read_record.Goals as goal

pub bounds-s-p : goal.bounds-s-p
bounds-s-p c = in-recipe _ _ c.requires

pub returns-in_err-of : goal.returns-in_err-of
returns-in_err-of c = absurd (kinded _ _ c.requires c.in_err-of.ensures)

pub read_model-requires : goal.read_model-requires
read_model-requires c = at_1 _ _ c.requires (of-kind _ _ c.in_ok-of.ensures c.in-Model.is)

pub read_element-requires : goal.read_element-requires
read_element-requires c = at-2 _ _ c.requires (of-kind _ _ c.in_ok-of.ensures c.in-Element.is)

pub read_port-requires : goal.read_port-requires
read_port-requires c = at-3 _ _ c.requires (of-kind _ _ c.in_ok-of.ensures c.in-Port.is)

pub read_submodel-requires : goal.read_submodel-requires
read_submodel-requires c = at-4 _ _ c.requires (of-kind _ _ c.in_ok-of.ensures c.in-Submodel.is)

pub read_factors-requires : goal.read_factors-requires
read_factors-requires c = at_8 _ _ c.requires (of-kind _ _ c.in_ok-of.ensures c.in-Factors.is)

pub read_mark-requires : goal.read_mark-requires
read_mark-requires c = mark-at _ _ c.requires 5 refl (of-kind _ _ c.in_ok-of.ensures c.in-Deletion.is)

pub read_mark-requires-in-Replacement : goal.read_mark-requires-in-Replacement
read_mark-requires-in-Replacement c = mark-at _ _ c.requires 6 refl (of-kind _ _ c.in_ok-of.ensures c.in-Replacement.is)

pub read_mark-requires-in-ReplacedBy : goal.read_mark-requires-in-ReplacedBy
read_mark-requires-in-ReplacedBy c = mark-at _ _ c.requires 7 refl (of-kind _ _ c.in_ok-of.ensures c.in-ReplacedBy.is)

pub returns-in_err-read_mark-in-Deletion : goal.returns-in_err-read_mark-in-Deletion
returns-in_err-read_mark-in-Deletion c =
    c.from_residual-in_err-read_mark-in-Deletion.ensures ∙ unmarked _ _ (sym c.in_err-read_mark-in-Deletion.was ∙ c.read_mark.ensures)

pub returns-in_err-read_mark-in-Replacement : goal.returns-in_err-read_mark-in-Replacement
returns-in_err-read_mark-in-Replacement c =
    c.from_residual-in_err-read_mark-in-Replacement.ensures ∙ unmarked _ _ (sym c.in_err-read_mark-in-Replacement.was ∙ c.read_mark-in-Replacement.ensures)

pub returns-in_err-read_mark-in-ReplacedBy : goal.returns-in_err-read_mark-in-ReplacedBy
returns-in_err-read_mark-in-ReplacedBy c =
    c.from_residual-in_err-read_mark-in-ReplacedBy.ensures ∙ unmarked _ _ (sym c.in_err-read_mark-in-ReplacedBy.was ∙ c.read_mark-in-ReplacedBy.ensures)

pub returns-in_ok-read_mark-in-Deletion : goal.returns-in_ok-read_mark-in-Deletion
returns-in_ok-read_mark-in-Deletion c =
    deletion-read _ _ (of-kind _ _ c.in_ok-of.ensures c.in-Deletion.is) (sym c.in_ok-read_mark-in-Deletion.was ∙ c.read_mark.ensures)

pub returns-in_ok-read_mark-in-Replacement : goal.returns-in_ok-read_mark-in-Replacement
returns-in_ok-read_mark-in-Replacement c =
    replacement-read _ _ (of-kind _ _ c.in_ok-of.ensures c.in-Replacement.is) (sym c.in_ok-read_mark-in-Replacement.was ∙ c.read_mark-in-Replacement.ensures)

pub returns-in_ok-read_mark-in-ReplacedBy : goal.returns-in_ok-read_mark-in-ReplacedBy
returns-in_ok-read_mark-in-ReplacedBy c =
    replaced-by-read _ _ (of-kind _ _ c.in_ok-of.ensures c.in-ReplacedBy.is) (sym c.in_ok-read_mark-in-ReplacedBy.was ∙ c.read_mark-in-ReplacedBy.ensures)
