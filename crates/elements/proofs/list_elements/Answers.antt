-- `elements::list_elements` meets its contract: the elements of the records before the next one are in the table.
-- Assumes nothing.
use native.Mathlib.Omega.{arith}
use borrow.Author.Tests.{eq-eqb, ne_eqb}
use mathlib.Core.Path.{refl}
use Rattle.recipe.specs.Records.{is_element, kind, recipe}
use Rattle.elements.proofs.Listing.{listed-none, listed_same}
use Rattle.marks.proofs.Passing.{passing-end, passing-on, passing-place, passing-said, passing-skip, passing-start}
use Rattle.elements.proofs.list_elements.Goals as goal

pub loop-p-init : goal.loop-p-init
loop-p-init c = passing-start c.of-p-items.ensures c.into_iter-p-iterator.ensures.into_iter_gives (listed-none _ c.args.el.now)

pub elements_at-requires : goal.elements_at-requires
unfolding is_element kind
elements_at-requires c =
    let p = passing-place c.args.tree.now.targeted c.loop-p.invariant c.in-Some.ensures.steps in
    let said = passing-said c.args.tree.now.targeted c.loop-p.invariant c.in-Some.ensures.steps in
    (p, (eq-eqb _ 2 c.if-tree-p.true, (said, omega (arith, c.loop-p.auto.el, c.requires))))

pub loop-p-preserved-then-tree-p : goal.loop-p-preserved-then-tree-p
loop-p-preserved-then-tree-p c =
    passing-on c.args.tree.now.targeted c.loop-p.invariant c.in-Some.ensures.steps refl c.elements_at.ensures.0

pub loop-p-preserved : goal.loop-p-preserved
unfolding is_element kind
loop-p-preserved c =
    let s = recipe c.args.tree.now.source.now in
    passing-skip c.args.tree.now.targeted c.loop-p.invariant c.in-Some.ensures.steps (is_element s) (listed_same s c.loop-p.el) refl (ne_eqb _ 2 c.if-tree-p.false)

pub returns : goal.returns
returns c =
    let s = recipe c.args.tree.now.source.now in
    (passing-end (is_element s) (listed_same s c.loop-p.el) c.loop-p.invariant c.in-None.ensures.steps, c.loop-p.auto.el)
