-- `Fits::find_origin` meets its contract: the origin is the first among the elements.
-- Assumes nothing.
use mathlib.Core.Bool.{false, true}
use Rattle.std.proofs.Common.{◌≡◌, rules, tests}
use Rattle.std.proofs.lemmas.Iterator.{first_from_Range}
use Rattle.recipe.specs.Records.{recipe}
use Rattle.composer.specs.Writing.{element_at}
use Rattle.origins.specs.Search.{is_origin}
use Rattle.origins.proofs.Finding.{found}
use Rattle.origins.proofs.Fits.find_origin.Goals as goal

pub returns : goal.returns
returns c =
    let s = recipe c.args.self.now.sought.composition.now.tree.source.now in
    let f = c.args.self.now.sought.name.now in
    found s f c.args.self.now.sought.composition.now.composed.targeted.planted.row₇ c.args.self.now.sought.composition.now.composed.count c.find.result
    (first_from_Range _ _ _ _ (λ e. is_origin s f (element_at s e) ≡ true) (λ e. is_origin s f (element_at s e) ≡ false) c.find.ensures.ran
    (λ x q k. search (rules, tests))
    (λ x q k. (search rules, search (rules, tests))))
