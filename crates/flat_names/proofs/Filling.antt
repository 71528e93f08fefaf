-- The tables of prefixes and of their lengths, row by row: an instance's row is that of the instance around it, and the prefix of its submodel.
-- Assumes nothing.
use mathlib.Core.Path.{◌≡◌, refl, sym, ap, ◌∙◌}
use Prim.Native.Nat.{ℕ, zero, suc, ◌+◌, ◌*◌, ◌-◌, ◌≤◌, ◌<◌}
use native.Mathlib.Omega.{arith}
use mathlib.Core.List.{List, [], ◌∷◌, ◌++◌, map, append_assoc, append-nil}
use lib.ListN.{length, get_or, set, take, drop, replicate, length-set, length-append, length-drop, length-replicate}
use lib.Seq.{sets, sets-eq, length-sets, get_or-set_other, get_or-set_same, take-set-le, length-take-le, drop_at, take-append_seam}
use Rattle.names.specs.Lists.{In, joined}
use Rattle.names.specs.Names.{underscore}
use Rattle.names.proofs.Tests.{three}
use Rattle.names.proofs.Lists.{get_or-in}
use Rattle.recipe.specs.Records.{Recipe, name}
use Rattle.recipe.specs.Definitions.{main, holder, submodels, model_of}
use Rattle.recipe.proofs.Definitions.{in-submodels}
use Rattle.tree.specs.Tree.{instances, paths_below, most_depth, Submodels}
use Rattle.tree.specs.Planted.{Planted}
use Rattle.tree.proofs.Instances.{instance-path}
use Rattle.flat_names.specs.Prefixes.{prefix, with_underscores, names_around, fewest}
use Rattle.flat_names.specs.Rows.{LengthsTo, Naming, RowsTo, prefixes_of, row_width}
use Rattle.std.specs.List.{copy_within}
use native.Mathlib.Nat.{add-sub_cancel_left}
use Rattle.flat_names.proofs.Puts.{parts, pasted, prefixes-short, rows-below, row_inside}
use Rattle.flat_names.proofs.Looking.{name-bytes}

-- ---- what a run of stores leaves as it was, and what it leaves
get_or-before : (vs l : List ℕ) (i j : ℕ) → j < i → get_or (sets l i vs) j 0 ≡ get_or l j 0
get_or-before [] l i j h = refl
get_or-before (a ∷ vs) l i j h = get_or-before vs (set l i a) (suc i) j (omega arith) ∙ get_or-set_other l i j a 0 (λ e. omega arith)

part-set : (a n : ℕ) (l : List ℕ) (i x : ℕ) → a + n ≤ i → take n (drop a (set l i x)) ≡ take n (drop a l)
part-set zero n l i x h = take-set-le n l i x (omega arith)
part-set (suc a) n [] i x h = refl
part-set (suc a) n (y ∷ l) zero x h = absurd (omega arith)
part-set (suc a) n (y ∷ l) (suc i) x h = part-set a n l i x (omega arith)

part-before : (vs : List ℕ) (a n : ℕ) (l : List ℕ) (i : ℕ) → a + n ≤ i → take n (drop a (sets l i vs)) ≡ take n (drop a l)
part-before [] a n l i h = refl
part-before (x ∷ vs) a n l i h = part-before vs a n (set l i x) (suc i) (omega arith) ∙ part-set a n l i x h

part-there : (vs l : List ℕ) (i : ℕ) → i + length vs ≤ length l → take (length vs) (drop i (sets l i vs)) ≡ vs
part-there vs l i h =
    let rest = drop (i + length vs) l in
    ap (λ (k : List ℕ). take (length vs) (drop i k)) (sets-eq vs l i h ∙ append_assoc (take i l) vs rest)
    ∙ (ap (take (length vs)) (drop_at (take i l) (vs ++ rest) i (length-take-le i l (omega arith))) ∙ take-append_seam vs rest)

-- ---- a copy within the table
pub row-copied : (pre : List ℕ) (from l to : ℕ) → from + l ≤ length pre → to + l ≤ length pre → copy_within pre from (from + l) to ≡ sets pre to (take l (drop from pre))
row-copied pre from l to h room =
    let n : from + l - from ≡ l = add-sub_cancel_left from l in
    pasted pre (drop from pre) to (from + l - from) (omega arith) (omega (arith, length-drop from pre)) ∙ ap (λ (j : ℕ). sets pre to (take j (drop from pre))) n

part_length : (a n : ℕ) (l : List ℕ) → a + n ≤ length l → length (take n (drop a l)) ≡ n
part_length a n l h = length-take-le n (drop a l) (omega (arith, length-drop a l))

sets-long : (out l : List ℕ) (i : ℕ) (vs : List ℕ) → out ≡ sets l i vs → length out ≡ length l
sets-long out l i vs e = ap length e ∙ length-sets l i vs

-- ---- one row
module _ (s : Recipe) where
  pub row-parts : (m n u l : ℕ) (pre o₁ o₂ o₃ : List ℕ) (from to : ℕ) → n ≡ length (name s m) → u ≡ fewest s.width (names_around s m) (name s m)
      → from + l ≤ length pre
      → o₁ ≡ sets pre to (take l (drop from pre)) → o₂ ≡ sets o₁ (to + l) (take n (drop (m + 1) s.bytes)) → o₃ ≡ sets o₂ (to + (l + n)) (replicate u underscore)
      → o₃ ≡ sets pre to (take l (drop from pre) ++ prefix s m)
  unfolding prefix with_underscores
  row-parts m n u l pre o₁ o₂ o₃ from to e c h e₁ e₂ e₃ =
      let a = take l (drop from pre) in
      let z : List ℕ = replicate u underscore in
      parts pre o₁ o₂ o₃ to a (name s m) z l n (part_length from l pre h) (sym e)
      e₁ (e₂ ∙ ap (sets o₁ (to + l)) (name-bytes s m n e)) e₃
      ∙ ap (sets pre to) (append_assoc a (name s m) z ∙ ap (λ (k : ℕ). a ++ (name s m ++ replicate k underscore)) c)

  pub row-length : (m n u : ℕ) → n ≡ length (name s m) → u ≡ fewest s.width (names_around s m) (name s m) → n + u ≡ length (prefix s m)
  unfolding prefix with_underscores
  row-length m n u e c = omega (arith, length-append (name s m) (replicate (fewest s.width (names_around s m) (name s m)) underscore), length-replicate (fewest s.width (names_around s m) (name s m)) underscore)

  -- ---- the instance around
  last-submodel : (d : ℕ) (path : List ℕ) (m : ℕ) → Submodels s d (path ++ m ∷ []) → In m (submodels s (holder s m))
  last-submodel d [] m h = rw (in-submodels s d m h.0).held h.0
  last-submodel d (k ∷ path) m h = last-submodel (model_of s k) path m h.1

joined-last : (f : ℕ → List ℕ) (path : List ℕ) (m : ℕ) → joined (map f (path ++ m ∷ [])) ≡ joined (map f path) ++ f m
joined-last f [] m = append-nil (f m)
joined-last f (k ∷ path) m = ap (λ (l : List ℕ). f k ++ l) (joined-last f path m) ∙ sym (append_assoc (f k) (joined (map f path)) (f m))

pub some-instance : (s : Recipe) → 1 ≤ length (instances s)
unfolding instances paths_below most_depth
some-instance s = omega arith

pub main-path : (s : Recipe) → get_or (instances s) 0 [] ≡ []
unfolding instances paths_below most_depth
main-path s = refl

pub main-prefixes : (s : Recipe) → prefixes_of s 0 ≡ []
unfolding prefixes_of
main-prefixes s = ap (λ (path : List ℕ). joined (map (prefix s) path)) (main-path s)

-- ---- what the loop keeps: the rows of the first i instances
pub record Rowed (s : Recipe) (pre₀ len₀ pre len : List ℕ) (n i : ℕ) : Type 0 where
  pub rows : RowsTo s pre len i
  pub below : i ≤ n
  pub above : 0 < i
  pub long : length pre ≡ length pre₀
  pub lens : length len ≡ length len₀

pub naming : {s : Recipe} {t inst : List ℕ} {n : ℕ} → Planted s t inst n → Naming s
naming g =
    let l = g.measured.linked in
    let h = l.numbered.shadowed in
    record { wide = h.wide; narrow = h.narrow; short = h.short; whole = h.whole; formed = l.row₃; small = g.row₇ }

module _ {s : Recipe} {t inst : List ℕ} {n : ℕ} (x : Planted s t inst n) where
  -- main has no prefix
  pub lengths-start : (len : List ℕ) → n ≤ length len → LengthsTo s (set len 0 0) 1
  lengths-start len b =
      let some = some-instance s in
      record {
        counted = omega (arith, x.rows.count, length-set len 0 0);
        each = λ i l. let z : i ≡ 0 = omega arith in rw (z, main-prefixes s) (get_or-set_same len 0 0 0 (omega (arith, x.rows.count)));
      }

  -- main's row is empty
  pub rowed-start : (pre len : List ℕ) → n * row_width s.width ≤ length pre → n ≤ length len → Rowed s pre (set len 0 0) pre (set len 0 0) n 1
  rowed-start pre len a b =
      let e = x.rows.count in
      let some = some-instance s in
      record {
        rows = record {
          room = rw (← e) a;
          lengths = lengths-start len b;
          bytes = λ i l. let z : i ≡ 0 = omega arith in rw (z, main-prefixes s);
        };
        below = omega arith;
        above = omega arith;
        long = refl;
        lens = refl;
      }

  pub around-low : {i u : ℕ} → i < n → 0 < i → u ≡ get_or inst (6 * i + 4) 0 → u < i
  around-low {i} low pos e = omega (arith, x.rows.below i low pos)

-- ---- an instance and the one around it
-- the prefixes of instance i, of submodel m, are those of the instance u around it, and the prefix of m
pub record Behind (s : Recipe) (i m u : ℕ) : Type 0 where
  pub inside : i < length (instances s)
  pub submodel : In m (submodels s (holder s m))
  pub prefixes-are : prefixes_of s i ≡ prefixes_of s u ++ prefix s m
  pub short : length (prefixes_of s u) + length (prefix s m) ≤ row_width s.width

pub behind : {s : Recipe} {t inst : List ℕ} {n i m u : ℕ} → Planted s t inst n → i < n → 0 < i → m ≡ get_or inst (6 * i + 3) 0 → u ≡ get_or inst (6 * i + 4) 0 → Behind s i m u
unfolding prefixes_of
behind {s} {t} {inst} {n} {i} {m} {u} x low pos em eu =
    let z : i < length (instances s) = omega (arith, x.rows.count) in
    let path-is : get_or (instances s) i [] ≡ get_or (instances s) u [] ++ (m ∷ []) = x.rows.above i low pos ∙ sym (rw (em, eu)) in
    let are : prefixes_of s i ≡ prefixes_of s u ++ prefix s m =
    ap (λ (path : List ℕ). joined (map (prefix s) path)) path-is ∙ joined-last (prefix s) (get_or (instances s) u []) m in
    record {
      inside = z;
      submodel = last-submodel s main (get_or (instances s) u []) m (rw path-is at (instance-path s (get_or (instances s) i []) (get_or-in (instances s) i [] z)));
      prefixes-are = are;
      short = omega (arith, ap length are, length-append (prefixes_of s u) (prefix s m), prefixes-short s (naming x) i z);
    }

-- ---- a turn of the lengths: that of instance i, of submodel m, is more than that of u
pub record Longer (s : Recipe) (len : List ℕ) (i m u l : ℕ) : Type 0 where
  pub behind-is : Behind s i m u
  pub counted : i < length len
  pub before-is : l ≡ length (prefixes_of s u)
  pub fits : l + length (prefix s m) ≤ row_width s.width

module _ {s : Recipe} {t inst len : List ℕ} {n i : ℕ} (x : Planted s t inst n) (g : LengthsTo s len i) (low : i < n) (pos : 0 < i)
    {m u l : ℕ} (em : m ≡ get_or inst (6 * i + 3) 0) (eu : u ≡ get_or inst (6 * i + 4) 0) (el : l ≡ get_or len u 0) where
  pub longer : Longer s len i m u l
  longer =
      let b = behind x low pos em eu in
      let before-is : l ≡ length (prefixes_of s u) = el ∙ g.each u (around-low x low pos eu) in
      record {
        behind-is = b;
        counted = omega (arith, b.inside, g.counted);
        before-is = before-is;
        fits = omega (arith, b.short);
      }

  pub lengthened : {r : ℕ} → r ≡ l + length (prefix s m) → LengthsTo s (set len i r) (i + 1)
  lengthened {r} er =
      let L = longer in
      let size : length (prefixes_of s i) ≡ r = ap length L.behind-is.prefixes-are ∙ (length-append (prefixes_of s u) (prefix s m) ∙ omega (arith, L.before-is)) in
      record {
        counted = rw length-set g.counted;
        each = λ k h. three k i
            (λ v. get_or-set_other len i k r 0 (λ q. omega arith) ∙ g.each k v)
            (λ v. rw v (get_or-set_same len i r 0 L.counted ∙ sym size))
            (λ v. absurd (omega arith));
      }

-- what the loop over the lengths alone keeps
pub record Lengthening (s : Recipe) (len : List ℕ) (n i : ℕ) : Type 0 where
  pub lengths : LengthsTo s len i
  pub below : i ≤ n
  pub above : 0 < i

-- ---- a turn: the row of instance i, of submodel m, behind that of u
pub record Turn (s : Recipe) (pre len : List ℕ) (i m u l row : ℕ) : Type 0 where
  pub longer-is : Longer s len i m u l
  pub fits : l + length (prefix s m) ≤ row
  pub apart : u * row + row ≤ i * row
  pub inside : i * row + row ≤ length pre

module _ {s : Recipe} {t inst pre₀ len₀ pre len : List ℕ} {n i : ℕ} (x : Planted s t inst n) (g : Rowed s pre₀ len₀ pre len n i) (low : i < n)
    {m u l row : ℕ} (em : m ≡ get_or inst (6 * i + 3) 0) (eu : u ≡ get_or inst (6 * i + 4) 0) (el : l ≡ get_or len u 0) (er : row ≡ row_width s.width) where
  pub turn : Turn s pre len i m u l row
  turn =
      let L = longer x g.rows.lengths low g.above em eu el in
      record {
        longer-is = L;
        fits = rw er L.fits;
        apart = rows-below u i row (around-low x low g.above eu);
        inside = rw er (row_inside g.rows L.behind-is.inside).1;
      }

  pub turned : {pre' : List ℕ} {r : ℕ} → r ≡ l + length (prefix s m) → pre' ≡ sets pre (i * row) (take l (drop (u * row) pre) ++ prefix s m)
      → Rowed s pre₀ len₀ pre' (set len i r) n (i + 1)
  turned {pre'} {r} er' ep =
      let T = turn in
      let L = T.longer-is in
      let R = row_width s.width in
      let P = prefixes_of s i in
      let under : u < i = around-low x low g.above eu in
      let same_row : take l (drop (u * row) pre) ≡ prefixes_of s u = rw (er, L.before-is) (g.rows.bytes u under) in
      let put : pre' ≡ sets pre (i * R) P = ep ∙ rw (same_row, er, L.behind-is.prefixes-are) in
      let size : length P ≡ r = ap length L.behind-is.prefixes-are ∙ (length-append (prefixes_of s u) (prefix s m) ∙ omega (arith, L.before-is)) in
      let long : length pre' ≡ length pre = sets-long pre' pre (i * R) P put in
      record {
        rows = record {
          room = rw long g.rows.room;
          lengths = lengthened x g.rows.lengths low g.above em eu el er';
          bytes = λ k h. three k i
              (λ v.
              let y : k < length (instances s) = omega (arith, x.rows.count) in
              let b : k * R + length (prefixes_of s k) ≤ i * R = omega (arith, rows-below k i R v, prefixes-short s (naming x) k y) in
              ap (λ (o : List ℕ). take (length (prefixes_of s k)) (drop (k * R) o)) put
              ∙ (part-before P (k * R) (length (prefixes_of s k)) pre (i * R) b ∙ g.rows.bytes k v))
              (λ v.
              rw v
              (ap (λ (o : List ℕ). take (length P) (drop (i * R) o)) put
              ∙ part-there P pre (i * R) (let z : i * R + r ≤ length pre = omega (arith, rw er at T.inside, rw er at T.fits) in omega arith)))
              (λ v. absurd (omega arith));
        };
        below = omega arith;
        above = omega arith;
        long = long ∙ g.long;
        lens = length-set len i r ∙ g.lens;
      }
