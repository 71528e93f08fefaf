-- `tree::plant` meets its contract: a walk from main that goes through, and the instances threaded; or row 7.
-- Assumes nothing.
use mathlib.Core.Path.{refl}
use native.Mathlib.Omega.{arith}
use Rattle.tree.proofs.FromMain.{main-heavy, main-planted, main-requires, main-room, main-threads, none-planted, some-planted, walk-fails, walk-shadowed}
use Rattle.tree.proofs.Walks.{stopped, went}
use Rattle.tree.proofs.plant.Goals as goal

pub cell-requires : goal.cell-requires
cell-requires c = main-room c.requires.0 c.requires.1.0

pub returns-then-cell-gt-MOST_ELEMENTS : goal.returns-then-cell-gt-MOST_ELEMENTS
returns-then-cell-gt-MOST_ELEMENTS c =
    none-planted _ _ _ _ _ (main-heavy c.requires.0 c.requires.1.0 c.cell.ensures.0 c.if-cell-gt-MOST_ELEMENTS.true refl)

pub walk-requires : goal.walk-requires
walk-requires c =
    main-requires c.requires.0 c.requires.1.0 c.args.inst.now c.requires.1.1 c.put_row.ensures c.cell.ensures.0 c.if-cell-gt-MOST_ELEMENTS.false

pub returns-in_err-n : goal.returns-in_err-n
returns-in_err-n c =
    rw c.from_residual.ensures (none-planted _ _ _ _ _ (walk-fails c.requires.0 c.requires.1.0 c.args.inst.now c.requires.1.1 c.put_row.ensures (stopped c.in_err-n.was c.walk.ensures) refl refl))

pub clear_cells-requires : goal.clear_cells-requires
clear_cells-requires c =
    (walk-shadowed c.requires.0 c.requires.1.0 c.args.inst.now c.requires.1.1 c.put_row.ensures (went c.in_ok-n.was c.walk.ensures), omega arith)

pub thread_instances-requires : goal.thread_instances-requires
thread_instances-requires c =
    main-threads c.requires.0 c.requires.1.0 c.args.inst.now c.requires.1.1 c.put_row.ensures (went c.in_ok-n.was c.walk.ensures) refl c.clear_cells.ensures

pub returns : goal.returns
returns c =
    some-planted _ _ _ _ _ (main-planted c.requires.0 c.requires.1.0 c.args.inst.now c.requires.1.1 c.put_row.ensures (went c.in_ok-n.was c.walk.ensures) refl c.clear_cells.ensures c.thread_instances.ensures refl refl refl)
