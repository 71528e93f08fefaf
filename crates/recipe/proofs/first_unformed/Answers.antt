-- `recipe::first_unformed` meets its contract: what is left to scan from the next record on.
-- Assumes nothing.
use mathlib.Core.Path.{sym, ◌∙◌}
use Rattle.recipe.specs.Records.{kind, next, recipe}
use Rattle.recipe.proofs.Going.{going_end, going-hit, going_more, going_start, here}
use Rattle.recipe.proofs.Fields.{fault-3, read-form, refused-form}
use Rattle.recipe.proofs.Steps.{over-end, over-start, over-step}
use Rattle.recipe.proofs.first_unformed.Goals as goal

pub loop-p-init : goal.loop-p-init
loop-p-init c =
    let o = over-start (recipe c.args.s.now) c.of-p-items.ensures c.into_iter-p-iterator.ensures.into_iter_gives in (o.0, rw o.1 (going_start _ _))

pub read_record-requires : goal.read_record-requires
read_record-requires c =
    let z = over-step c.loop-p.invariant.0 c.in-Some.ensures.steps in (here _ _ _ c.requires.1 (rw z.place at c.loop-p.invariant.1) z.inside).readable

pub returns-in_default : goal.returns-in_default
returns-in_default c =
    let z = over-step c.loop-p.invariant.0 c.in-Some.ensures.steps in
    let h = here _ _ _ c.requires.1 (rw z.place at c.loop-p.invariant.1) z.inside in
    sym (fault-3 _ ∙ going-hit h (refused-form _ _ h.readable (sym c.in_default.is ∙ c.read_record.ensures)))

pub loop-p-preserved : goal.loop-p-preserved
unfolding kind next
loop-p-preserved c =
    let z = over-step c.loop-p.invariant.0 c.in-Some.ensures.steps in
    (z.over, rw z.on (going_more (here _ _ _ c.requires.1 (rw z.place at c.loop-p.invariant.1) z.inside) (read-form _ _ (sym c.in-Some-read_record.is ∙ c.read_record.ensures))))

pub returns : goal.returns
returns c = sym (fault-3 _ ∙ going_end c.loop-p.invariant.1 (over-end c.loop-p.invariant.0 c.in-None.ensures.steps))
