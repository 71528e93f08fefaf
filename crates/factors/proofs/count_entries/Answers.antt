-- `factors::count_entries` meets its contract: the survivors that the chain lets pass are the rated.
-- Assumes nothing.
use lib.ListN.{length}
use mathlib.Core.Logic.{inl}
use mathlib.Core.Path.{◌∙◌, ap}
use native.Mathlib.Omega.{arith}
use Rattle.std.proofs.Common.{rules, tests}
use Rattle.recipe.specs.Records.{recipe}
use Rattle.composer.specs.Surviving.{survivors_left}
use Rattle.composer.specs.Writing.{element_at}
use Rattle.composer.proofs.Handed.{fated}
use Rattle.composer.proofs.Surviving.{fates-few, stay-start, surviving-few}
use Rattle.factors.specs.Companion.{is_rated}
use Rattle.factors.proofs.Entries.{entries-counted}
use Rattle.factors.proofs.Filtering.{filtered, serves-from-first}
use Rattle.factors.proofs.count_entries.Goals as goal

pub count-requires-clause-can : goal.count-requires-clause-can
count-requires-clause-can c =
    let C = c.args.c.now.composed in
    let S = stay-start c.args.c.now.elements.now c.args.c.now.size.elems in
    let left = ap survivors_left c.filter.ensures.source ∙ (rw (c.of.ensures.1.0, c.of.ensures.1.1) at c.of-2.ensures) in
    (tt, tt, serves-from-first survivors_left c.filter.ensures.closure (λ x p q k. search (rules, tests)) (λ x i. let l = (S.each x (rw left at i)).0 in search (rules, l, C.count)))

pub count-requires-clause-fits : goal.count-requires-clause-fits
count-requires-clause-fits c =
    let C = c.args.c.now.composed in
    inl (omega (arith, ap length (ap survivors_left c.filter.ensures.source ∙ (rw (c.of.ensures.1.0, c.of.ensures.1.1) at c.of-2.ensures)), surviving-few c.args.c.now.elements.now 0 c.args.c.now.size.elems, fates-few (fated C)))

pub returns : goal.returns
returns c =
    let C = c.args.c.now.composed in
    let s = recipe c.args.c.now.tree.source.now in
    let r = c.count.ensures.ran in
    r.2 ∙ ap length (filtered survivors_left _ _ (λ e. is_rated s (element_at s e)) (λ x b q k. search (rules, tests)) r.0 c.filter.result r.1.1.0 r.1.0 c.filter.ensures.closure r.1.1.1 r.1.1.2)
    ∙ entries-counted C (ap survivors_left c.filter.ensures.source ∙ (rw (c.of.ensures.1.0, c.of.ensures.1.1) at c.of-2.ensures))
