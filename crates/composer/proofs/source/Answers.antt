-- `composer::source` meets its contract: its width is 01's.
-- Assumes nothing.
use mathlib.Core.Path.{refl}
use Rattle.composer.specs.Verdicts.{name_width, recipe_of}
use Rattle.composer.proofs.source.Goals as goal

pub returns : goal.returns
unfolding recipe_of name_width
returns c = refl
