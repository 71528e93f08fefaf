-- `factors::fill_row` meets its contract: the row around, and the two factors of the submodel, if it has a kind 8.
-- Assumes nothing.
use native.Mathlib.Omega.{arith}
use mathlib.Core.Path.{refl}
use Rattle.factors.proofs.Sites.{extent-at, factors-room, linked-none, linked-some, row-both, row_copied, row-none, shallow, submodel-room, time-at, under}
use Rattle.factors.proofs.fill_row.Goals as goal

pub link-requires : goal.link-requires
link-requires c = omega (arith, submodel-room c.args.c.now.composed c.requires.0.0 c.requires.0.1 c.cell-u.ensures.0 c.cell-m.ensures.0)

pub returns-in_default : goal.returns-in_default
returns-in_default c =
    let C = c.args.c.now.composed in
    let g = row_copied c.requires.1 (under C c.requires.0.0 c.requires.0.1 c.cell-u.ensures.0) c.requires.0.1 c.copy_within.ensures.after in
    row-none C c.requires.0.0 c.requires.0.1 c.cell-u.ensures.0 c.cell-m.ensures.0 refl (linked-none c.in_default.ensures.0) g

pub link-requires-2 : goal.link-requires-2
link-requires-2 c =
    let k = linked-some c.in-Some.ensures.0 in
    omega (arith, factors-room c.args.c.now.composed c.requires.0.0 c.requires.0.1 c.cell-u.ensures.0 c.cell-m.ensures.0 k.0 k.1)

pub factor_site-x-requires : goal.factor_site-x-requires
factor_site-x-requires c =
    let k = linked-some c.in-Some.ensures.0 in
    time-at c.args.c.now.composed c.requires.0.0 c.requires.0.1 c.cell-u.ensures.0 c.cell-m.ensures.0 k.0 k.1 c.cell-f.ensures.0 c.link-2.ensures.0

pub put_site-requires : goal.put_site-requires
put_site-requires c =
    let C = c.args.c.now.composed in
    let g = row_copied c.requires.1 (under C c.requires.0.0 c.requires.0.1 c.cell-u.ensures.0) c.requires.0.1 c.copy_within.ensures.after in
    (omega (arith, shallow C c.requires.0.0 c.requires.0.1 c.cell-u.ensures.0 c.cell-m.ensures.0 c.cell-d.ensures.0, c.requires.0.1, g.room), c.factor_site-x.ensures.1)

pub link-requires-3 : goal.link-requires-3
link-requires-3 c =
    let k = linked-some c.in-Some.ensures.0 in
    omega (arith, factors-room c.args.c.now.composed c.requires.0.0 c.requires.0.1 c.cell-u.ensures.0 c.cell-m.ensures.0 k.0 k.1)

pub factor_site-y-requires : goal.factor_site-y-requires
factor_site-y-requires c =
    let k = linked-some c.in-Some.ensures.0 in
    extent-at c.args.c.now.composed c.requires.0.0 c.requires.0.1 c.cell-u.ensures.0 c.cell-m.ensures.0 k.0 k.1 c.cell-f.ensures.0 c.link-3.ensures.0

pub put_site-requires-2 : goal.put_site-requires-2
put_site-requires-2 c =
    let C = c.args.c.now.composed in
    let g = row_copied c.requires.1 (under C c.requires.0.0 c.requires.0.1 c.cell-u.ensures.0) c.requires.0.1 c.copy_within.ensures.after in
    (omega (arith, shallow C c.requires.0.0 c.requires.0.1 c.cell-u.ensures.0 c.cell-m.ensures.0 c.cell-d.ensures.0, c.requires.0.1, g.room, c.put_site.auto.sites), c.factor_site-y.ensures.1)

pub returns : goal.returns
returns c =
    let C = c.args.c.now.composed in
    let k = linked-some c.in-Some.ensures.0 in
    let g = row_copied c.requires.1 (under C c.requires.0.0 c.requires.0.1 c.cell-u.ensures.0) c.requires.0.1 c.copy_within.ensures.after in
    row-both C c.requires.0.0 c.requires.0.1 c.cell-u.ensures.0 c.cell-m.ensures.0 k.0 k.1 c.cell-f.ensures.0 c.cell-d.ensures.0 g
    c.link-2.ensures.0 c.factor_site-x.ensures.0 c.put_site.ensures c.link-3.ensures.0 c.factor_site-y.ensures.0 c.put_site-2.ensures
