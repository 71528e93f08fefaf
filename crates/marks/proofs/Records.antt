-- What one record sets, by its kind, and a test of a stretch of cells.
-- Assumes nothing.
use Prim.Native.Nat.{◌*◌, ◌+◌, ◌-◌, ◌≤◌, suc, zero, ℕ}
use Rattle.std.specs.List.{list_any, slice_range}
use lib.Dec.{eqb}
use lib.ListN.{drop, length, set, take}
use lib.Seq.{drop-cons}
use mathlib.Core.Bool.{false, not, true, ◌||◌}
use mathlib.Core.List.{List}
use mathlib.Core.Path.{◌∙◌, ◌≡◌, ap, refl, sym}
use native.Mathlib.Omega.{arith}
use Rattle.recipe.specs.Records.{port_kind, mark_kind, replaced_by_kind}
use Rattle.marks.specs.Cells.{any_set, is_set, gone_cell, mark_cell, meets, owner_cell, port_cell, stamped}

-- a test of n cells from a on is a test of the slice
any-take : (t : List ℕ) (a n : ℕ) → a + n ≤ length t → list_any (λ b. not (eqb b 0)) (take n (drop a t)) ≡ any_set t a n
unfolding any_set
any-take t a zero h = refl
any-take t a (suc n) h = rw (drop-cons t a 0 (omega arith)) (ap (λ b. is_set t a || b) (any-take t (suc a) n (omega arith)))

pub any_slice : (t : List ℕ) (a n : ℕ) → a + n ≤ length t → list_any (λ b. not (eqb b 0)) (slice_range t a (a + n)) ≡ any_set t a n
any_slice t a n h =
    let e : a + n - a ≡ n = omega arith in
    rw e (any-take t a n h)

-- a replaced-by that finds no cell of its target set asks those of its owner
pub meets-owner : (t : List ℕ) (k e o d : ℕ) → port_kind k ≡ false → replaced_by_kind k ≡ true → 12 * e + (7 + d) ≤ length t → 12 * o + 11 ≤ length t
    → list_any (λ b. not (eqb b 0)) (slice_range t (12 * e) (12 * e + (7 + d))) ≡ false → list_any (λ b. not (eqb b 0)) (slice_range t (12 * o + 1) (12 * o + 11)) ≡ meets t k e o d
unfolding meets
meets-owner t k e o d n b h h' u =
    let l : 12 * o + 11 ≡ 12 * o + 1 + 10 = omega arith in
    rw (n, b, sym (any_slice t (12 * e) (7 + d) h) ∙ u, l) (any_slice t (12 * o + 1) 10 (omega (arith, h')))

-- the three kinds of record
pub stamped-port : (t : List ℕ) (k e o d : ℕ) → port_kind k ≡ true → set t (12 * e + (6 + d)) 1 ≡ stamped t k e o d
unfolding stamped port_cell
stamped-port t k e o d h = rw h

pub stamped-by : (t : List ℕ) (k e o d : ℕ) → port_kind k ≡ false → replaced_by_kind k ≡ true → set (set t (12 * e + (5 - d)) 1) (12 * o) 1 ≡ stamped t k e o d
unfolding stamped mark_cell owner_cell
stamped-by t k e o d n h = rw (n, h)

pub stamped-other : (t : List ℕ) (k e o d : ℕ) → port_kind k ≡ false → mark_kind k ≡ true → replaced_by_kind k ≡ false → set (set t (12 * e + (5 - d)) 1) (12 * e + 11) 1 ≡ stamped t k e o d
unfolding stamped mark_cell gone_cell
stamped-other t k e o d n m b = rw (n, m, b)
