-- `elements::elements_at` meets its contract: the instances before the next one have the element in the table.
-- Assumes nothing.
use native.Mathlib.Omega.{arith}
use Rattle.recipe.specs.Records.{is_element, recipe}
use Rattle.recipe.proofs.Reading.{place-low}
use Rattle.marks.proofs.Turn.{record-room}
use Rattle.marks.proofs.Following.{follow-first, follow-last, follows-fits, follows-holds}
use Rattle.elements.proofs.Listing.{list-turn, listed_same, this-few}
use Rattle.elements.proofs.elements_at.Goals as goal

pub cell-o-requires : goal.cell-o-requires
cell-o-requires c = omega (arith, record-room c.args.tree.now.targeted c.args.p c.requires.0)

pub loop-i-init-derived : goal.loop-i-init-derived
loop-i-init-derived c = (follows-fits c.args.tree.now.targeted c.args.p c.requires.0 c.instances_of-i-items.ensures c.into_iter-i-iterator.ensures.into_iter_gives, tt)

pub loop-i-init : goal.loop-i-init
loop-i-init c =
    let s = recipe c.args.tree.now.source.now in
    follow-first c.args.tree.now.targeted c.args.p c.requires.0 (is_element s) _ (listed_same s c.args.el.now) c.instances_of-i-items.ensures c.into_iter-i-iterator.ensures.into_iter_gives c.requires.1.1.0

pub put_element-requires : goal.put_element-requires
put_element-requires c =
    let T = c.args.tree.now.targeted in
    let h = follows-holds T c.args.p c.requires.0 c.loop-i.invariant c.in-Some.ensures.steps in
    let few = this-few T c.args.p c.requires.0 c.requires.1.0 c.in-Some.i h c.cell-f.ensures.0 c.cell-o.ensures.0 in
    let low = place-low (recipe c.args.tree.now.source.now) c.args.p c.requires.0 in
    (omega (arith, c.loop-i.auto.el, c.requires.1.1.1, few), (omega (arith, low, T.planted.measured.linked.numbered.shadowed.short), omega (arith, h.0, T.planted.rows.few, T.planted.rows.count)))

pub loop-i-preserved : goal.loop-i-preserved
loop-i-preserved c =
    list-turn c.args.tree.now.targeted c.args.p c.requires.0 c.requires.1.0 c.in-Some.i c.loop-i.el c.cell-f.ensures.0 c.cell-o.ensures.0 (omega (arith, c.loop-i.auto.el, c.requires.1.1.1)) c.put_element.ensures c.loop-i.invariant c.in-Some.ensures.steps

pub returns : goal.returns
returns c =
    let s = recipe c.args.tree.now.source.now in
    (follow-last c.args.tree.now.targeted c.args.p c.requires.0 (is_element s) _ (listed_same s c.loop-i.el) c.loop-i.invariant c.in-None.ensures.steps, c.loop-i.auto.el)
