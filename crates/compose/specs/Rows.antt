-- 01's "Verdicts", and 02's: the order of judging of the rows 1 to 12, 19 and 20, which say nothing of an output.
-- Assumes nothing.
use Rattle.std.specs.Prelude.{List, ◌++◌, Option}
use Rattle.names.specs.declared.Refusal.{Refusal}
use Rattle.names.specs.Judging.{Row, judged, NoneApplies}
use Rattle.recipe.specs.Records.{Recipe}
use Rattle.recipe.specs.Reading.{form_rows, naming_rows}
use Rattle.tree.specs.Faults.{tree_rows, target_rows}
use Rattle.marks.specs.Faults.{mark_rows, reference_rows}

-- the order of judging, each row with its number where it is defined
abbrev pub refusal_rows : Recipe → List Row
refusal_rows s = (form_rows s ++ naming_rows s) ++ (tree_rows s ++ (target_rows s ++ (mark_rows s ++ reference_rows s)))

-- "The lowest number that applies is given, then its lowest place": the refusal of a recipe by these rows, if any
unfoldable pub refusal_of : Recipe → Option Refusal
refusal_of s = judged (refusal_rows s)

-- every one of these rows is none
abbrev pub Unrefused : Recipe → Type 0
Unrefused s = NoneApplies (refusal_rows s)
