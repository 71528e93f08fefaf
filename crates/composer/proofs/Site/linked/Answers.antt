-- `Site::linked` meets its contract: what the cell names, in that instance.
-- Assumes nothing.
use mathlib.Core.Path.{refl}
use Rattle.composer.specs.Writing.{linked_site}
use Rattle.composer.proofs.Site.linked.Goals as goal

pub returns-in_err-place : goal.returns-in_err-place
unfolding linked_site
returns-in_err-place c = rw (c.from_residual.ensures, ← c.in_err-place.ensures.0) refl

pub returns : goal.returns
unfolding linked_site
returns c = rw (← c.in_ok-place.ensures.0) refl
