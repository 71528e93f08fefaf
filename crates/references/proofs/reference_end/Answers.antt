-- `references::reference_end` meets its contract: the element that the reference names, and the end of the chain from it.
-- Assumes nothing.
use native.Mathlib.Omega.{arith}
use Rattle.elements.proofs.Elements.{sibling-few, sibling-number, sibling-room}
use Rattle.references.proofs.References.{end-few, end_none, end-some, named-tree, reference-steps, referring-room}
use Rattle.references.proofs.reference_end.Goals as goal

pub link-requires : goal.link-requires
link-requires c = omega (arith, referring-room c.args.aims.now.aimed c.args.aims.now.fits c.requires.0 c.requires.1.0 c.requires.1.1)

pub returns-in_err-q : goal.returns-in_err-q
returns-in_err-q c =
    rw c.from_residual.ensures (end_none c.args.aims.now.aimed c.args.aims.now.fits c.requires.0 c.requires.1.0 c.requires.1.1 c.link.ensures.0 c.in_err-q.was, tt)

pub cell-b-requires : goal.cell-b-requires
cell-b-requires c =
    omega (arith, sibling-room c.args.aims.now.aimed c.requires.1.1 _ (named-tree c.args.aims.now.aimed c.args.aims.now.fits c.requires.0 c.requires.1.0 c.requires.1.1 c.link.ensures.0 c.in_ok-q.was))

pub overflow_sub-e : goal.overflow_sub-e
overflow_sub-e c =
    let a = c.args.aims.now in
    omega (arith, (sibling-number a.aimed c.requires.1.1 _ (named-tree a.aimed a.fits c.requires.0 c.requires.1.0 c.requires.1.1 c.link.ensures.0 c.in_ok-q.was) c.cell-a.ensures.0 c.cell-b.ensures.0).0)

pub overflow_add-e : goal.overflow_add-e
overflow_add-e c =
    let a = c.args.aims.now in
    omega (arith, sibling-few a.aimed c.requires.1.1 _ (named-tree a.aimed a.fits c.requires.0 c.requires.1.0 c.requires.1.1 c.link.ensures.0 c.in_ok-q.was) c.cell-a.ensures.0 c.cell-b.ensures.0 a.fits)

pub chain_end-requires : goal.chain_end-requires
chain_end-requires c =
    reference-steps c.args.aims.now.aimed c.args.aims.now.fits c.requires.0 c.requires.1.0 c.requires.1.1 c.link.ensures.0 c.in_ok-q.was c.cell-a.ensures.0 c.cell-b.ensures.0

pub returns : goal.returns
returns c =
    let a = c.args.aims.now in
    (end-some a.aimed a.fits c.requires.0 c.requires.1.0 c.requires.1.1 c.link.ensures.0 c.in_ok-q.was c.cell-a.ensures.0 c.cell-b.ensures.0 c.chain_end.ensures, end-few a.aimed a.fits c.requires.0 c.requires.1.0 c.requires.1.1 c.link.ensures.0 c.in_ok-q.was c.cell-a.ensures.0 c.cell-b.ensures.0 c.chain_end.ensures)
