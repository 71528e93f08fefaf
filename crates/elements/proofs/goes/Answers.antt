-- `elements::goes` meets its contract: its own cells, or those of its parent, whose number is as far off as the two are apart in their definition.
-- Assumes nothing.
use native.Mathlib.Omega.{arith}
use Rattle.elements.proofs.Elements.{sibling-few, sibling-number, sibling-room}
use Rattle.elements.proofs.Gone.{gone-low, gone-none, gone-own, gone-parent, gone-room, parent-tree}
use Rattle.elements.proofs.goes.Goals as goal

pub is_marked-requires : goal.is_marked-requires
is_marked-requires c =
    (c.requires.1.0, gone-low c.args.aims.now.aimed c.args.aims.now.fits c.requires.0 c.requires.1.1)

pub returns-then-is_marked : goal.returns-then-is_marked
returns-then-is_marked c =
    gone-own c.args.aims.now.aimed c.args.aims.now.fits c.requires.0 c.requires.1.1 c.is_marked.ensures c.if-is_marked.true

pub link-requires : goal.link-requires
link-requires c =
    omega (arith, gone-room c.args.aims.now.aimed c.args.aims.now.fits c.requires.0 c.requires.1.1)

pub returns-in_default : goal.returns-in_default
returns-in_default c =
    gone-none c.args.aims.now.aimed c.args.aims.now.fits c.requires.0 c.requires.1.1 c.is_marked.ensures c.link.ensures.0 c.if-is_marked.false c.in_default.is

pub cell-a-requires : goal.cell-a-requires
cell-a-requires c =
    omega (arith, gone-room c.args.aims.now.aimed c.args.aims.now.fits c.requires.0 c.requires.1.1)

pub cell-b-requires : goal.cell-b-requires
cell-b-requires c =
    let A = c.args.aims.now.aimed in
    omega (arith, sibling-room A c.requires.1.1 _ (parent-tree A c.args.aims.now.fits c.requires.0 c.requires.1.1 c.is_marked.ensures c.link.ensures.0 c.in-Some.is))

pub overflow_sub-e : goal.overflow_sub-e
overflow_sub-e c =
    let A = c.args.aims.now.aimed in
    omega (arith, (sibling-number A c.requires.1.1 _ (parent-tree A c.args.aims.now.fits c.requires.0 c.requires.1.1 c.is_marked.ensures c.link.ensures.0 c.in-Some.is) c.cell-a.ensures.0 c.cell-b.ensures.0).0)

pub overflow_add-e : goal.overflow_add-e
overflow_add-e c =
    let A = c.args.aims.now.aimed in
    omega (arith, sibling-few A c.requires.1.1 _ (parent-tree A c.args.aims.now.fits c.requires.0 c.requires.1.1 c.is_marked.ensures c.link.ensures.0 c.in-Some.is) c.cell-a.ensures.0 c.cell-b.ensures.0 c.args.aims.now.fits)

pub is_marked-requires-2 : goal.is_marked-requires-2
is_marked-requires-2 c =
    let A = c.args.aims.now.aimed in
    let p = parent-tree A c.args.aims.now.fits c.requires.0 c.requires.1.1 c.is_marked.ensures c.link.ensures.0 c.in-Some.is in
    (c.requires.1.0, omega (arith, sibling-few A c.requires.1.1 _ p c.cell-a.ensures.0 c.cell-b.ensures.0 c.args.aims.now.fits, (sibling-number A c.requires.1.1 _ p c.cell-a.ensures.0 c.cell-b.ensures.0).0, gone-low A c.args.aims.now.fits c.requires.0 c.requires.1.1))

pub returns : goal.returns
returns c =
    gone-parent c.args.aims.now.aimed c.args.aims.now.fits c.requires.0 c.requires.1.1 c.is_marked.ensures c.link.ensures.0 c.in-Some.is c.cell-a.ensures.0 c.cell-b.ensures.0 c.if-is_marked.false c.is_marked-2.ensures
