-- Which instances' prefixes a name begins with: a submodel's prefix in the name, and the instances one after the other.
-- Assumes nothing.
use Rattle.std.specs.Prelude.{None, Option, Some}
use mathlib.Core.Path.{◌≡◌, refl, sym, ap, ◌∙◌}
use Prim.Native.Nat.{ℕ, ◌+◌, ◌*◌, ◌≤◌, ◌<◌, min}
use native.Mathlib.Omega.{arith}
use mathlib.Core.Bool.{Bool, true, false}
use mathlib.Core.List.{List, ◌++◌}
use lib.ListN.{length, get_or, set, take, drop, replicate, length-append, length-drop, length-set}
use lib.Seq.{drop-drop, get_or-set_same}
use Rattle.names.specs.Lists.{begins, same}
use Rattle.names.specs.Names.{field_at, underscore}
use Rattle.names.proofs.Lists.{begins-same, begins-split}
use Rattle.names.proofs.Tests.{by_cases, not_none, some-none, the-some}
use Rattle.flat_table.specs.Table.{flat_width}
use Rattle.recipe.specs.Records.{Recipe, name}
use Rattle.recipe.specs.Definitions.{holder}
use Rattle.recipe.proofs.Definitions.{name-short}
use Rattle.shadow.specs.Columns.{Linked}
use Rattle.tree.specs.Planted.{Planted}
use Rattle.tree.specs.Steps.{cell_of, next_of}
use Rattle.tree.specs.Tree.{instances}
use Rattle.tree.proofs.Nexts.{next-cell}
use Rattle.flat_names.specs.Prefixes.{fewest, names_around, prefix, with_underscores}
use Rattle.flat_names.specs.Rows.{Naming, prefixes_of, row_width}
use Rattle.flat_names.specs.Underscores.{run_behind, run_first}
use Rattle.flat_names.proofs.Filling.{Behind, around-low, behind, main-prefixes, naming, row-length, some-instance}
use Rattle.flat_names.proofs.Looking.{name-bytes, own_room}
use Rattle.flat_names.proofs.Puts.{prefixes-short}
use Rattle.flat_names.proofs.OneName.{prefix-count}
use Rattle.flat_names.proofs.Underscores.{behind-most, first-take, most-behind}
use Rattle.origins.specs.Search.{BehindRequires, FitsTo, PrefixRequires, fit_of, prefix_end}

-- ---- the prefix of the submodel m
module _ {s : Recipe} {t : List ℕ} (L : Linked s t) where
  two : 2 ≤ s.width
  two = omega (arith, L.numbered.shadowed.wide)

  pub narrow : s.width ≤ 64
  narrow = L.numbered.shadowed.narrow

  module _ {m l : ℕ} (R : PrefixRequires s m l) where
    abbrev count : ℕ
    count = fewest s.width (names_around s m) (name s m)

    count-two : 2 ≤ count
    count-two = (prefix-count s two L.row₃ (holder s m) m R.submodel).two

    count_most : count ≤ s.width
    count_most = (prefix-count s two L.row₃ (holder s m) m R.submodel).most

    pub two-at-least : {u : ℕ} → u ≡ count → 2 ≤ u
    two-at-least e = omega (arith, e, count-two)

    pub submodel-room : m + 1 + s.width ≤ length s.bytes
    submodel-room = own_room L m R.submodel

    module _ {n : ℕ} (n-is : n ≡ length (name s m)) where
      -- its length
      pub whole_length : {u : ℕ} → u ≡ count → n + u ≡ length (prefix s m)
      whole_length {u} e = row-length s m n u n-is e

      pub name-room : l + n + 2 ≤ row_width s.width
      name-room = omega (arith, R.room, whole_length refl, count-two)

      pub name-inside : m + 1 + n ≤ length s.bytes
      name-inside = omega (arith, submodel-room, n-is, name-short s m)

      -- in f, from l on
      module _ (f : List ℕ) (long : length f ≡ flat_width s.width) where
        abbrev rest : List ℕ
        rest = drop l f

        -- behind it the field goes on for a name's width
        pub run_room : l + n + s.width ≤ length f
        unfolding flat_width
        run_room = omega (arith, name-room, long)

        pub in_field : l + n ≤ length f
        in_field = omega (arith, run_room)

        -- its name stands there
        module _ {b : Bool} (b-is : b ≡ same (field_at n s.bytes (m + 1)) (field_at n f l)) where
          name-test : b ≡ begins (name s m) rest
          unfolding field_at
          name-test =
              b-is
              ∙ rw (name-bytes s m n n-is, n-is)
              (sym (begins-same (name s m) rest (omega (arith, in_field, n-is, length-drop l f))))

          pub no_name : b ≡ false → None ≡ prefix_end s f m l
          unfolding prefix_end prefix with_underscores
          no_name e = rw (begins-split (name s m) (replicate count underscore) rest, sym name-test ∙ e)

          module _ (there : b ≡ true) {k u : ℕ} (k-is : k ≡ run_first (take s.width (drop (l + n) f))) (u-is : u ≡ count) where
            -- underscores behind a name's width do not matter: the count is no more
            run_is : k ≡ min s.width (run_behind (name s m) rest)
            unfolding run_behind
            run_is =
                k-is
                ∙ first-take s.width (drop (l + n) f)
                ∙ rw (sym name-test ∙ there)
                (ap (λ (j : ℕ). min s.width (run_first (drop (l + j) f))) n-is ∙ ap (λ (x : List ℕ). min s.width (run_first x)) (sym (drop-drop (length (name s m)) l f)))

            pub few-underscores : k < u → None ≡ prefix_end s f m l
            unfolding prefix_end prefix with_underscores
            few-underscores h =
                by_cases (begins (name s m ++ replicate count underscore) rest)
                (λ e. absurd (omega (arith, behind-most (name s m) count rest e, run_is, u-is, count_most)))
                (λ e. rw e)

            begins-there : u ≤ k → begins (prefix s m) rest ≡ true
            unfolding prefix with_underscores
            begins-there h = most-behind (name s m) count rest (omega (arith, count-two)) (omega (arith, run_is, u-is))

            pub prefix-there : u ≤ k → Some (l + (n + u)) ≡ prefix_end s f m l
            unfolding prefix_end
            prefix-there h = rw (begins-there h, sym (whole_length u-is))

-- ---- what a cell is read as
pub fit-read : {s : Recipe} {f fit : List ℕ} {n : ℕ} → FitsTo s f fit n → (i : ℕ) → i < n → {o : Option ℕ} → o ≡ next_of (get_or fit (i + 0) 0) → o ≡ fit_of s f i
fit-read {s} {f} {fit} F i l e =
    let here : i + 0 ≡ i = omega arith in
    e ∙ ap (λ (k : ℕ). next_of (get_or fit k 0)) here ∙ ap next_of (F.fits i l) ∙ next-cell (fit_of s f i)

module _ (s : Recipe) (f : List ℕ) (i : ℕ) where
  pub fit_none : None ≡ fit_of s f i → begins (prefixes_of s i) f ≡ false
  unfolding fit_of
  fit_none h = by_cases (begins (prefixes_of s i) f) (λ e. not_none (rw e at h)) (λ e. e)

  pub fit-some : {l : ℕ} → Some l ≡ fit_of s f i → (begins (prefixes_of s i) f ≡ true) × (l ≡ length (prefixes_of s i))
  unfolding fit_of
  fit-some h = by_cases (begins (prefixes_of s i) f) (λ e. (e, the-some (rw e at h))) (λ e. some-none (rw e at h))

  -- it is no longer than the prefixes of an instance can be
  pub fit-few : Naming s → i < length (instances s) → cell_of (fit_of s f i) ≤ row_width s.width + 1
  unfolding fit_of
  fit-few n h = by_cases (begins (prefixes_of s i) f) (λ e. rw e (omega (arith, prefixes-short s n i h))) (λ e. rw e (omega arith))

-- ---- an instance behind the one around it
module _ {s : Recipe} {i m u : ℕ} (B : Behind s i m u) (f : List ℕ) where
  pub unfit-behind : None ≡ fit_of s f u → None ≡ fit_of s f i
  unfolding fit_of
  unfit-behind h = rw (B.prefixes-are, begins-split (prefixes_of s u) (prefix s m) f, fit_none s f u h)

  pub behind-fit : {l : ℕ} → Some l ≡ fit_of s f u → prefix_end s f m l ≡ fit_of s f i
  unfolding fit_of prefix_end
  behind-fit h =
      let a = fit-some s f u h in
      rw (B.prefixes-are, begins-split (prefixes_of s u) (prefix s m) f, a.0, a.1, length-append (prefixes_of s u) (prefix s m))

module _ {s : Recipe} {t inst : List ℕ} {n : ℕ} (P : Planted s t inst n) {i : ℕ} {f fit : List ℕ} (R : BehindRequires s i f fit) where
  low : i < n
  low = omega (arith, R.low, P.rows.count)

  pub fit-room : i + 0 < length fit
  fit-room = omega (arith, R.low, R.fits.counted)

  module _ {m u : ℕ} (em : m ≡ get_or inst (6 * i + 3) 0) (eu : u ≡ get_or inst (6 * i + 4) 0) where
    pub here : Behind s i m u
    here = behind P low R.above em eu

    module _ (o : Option ℕ) (o-is : o ≡ next_of (get_or fit (u + 0) 0)) where
      around-fit : o ≡ fit_of s f u
      around-fit = fit-read R.fits u (around-low P low R.above eu) o-is

      pub turn-unfit : o ≡ None → None ≡ fit_of s f i
      turn-unfit e = unfit-behind here f (sym e ∙ around-fit)

      module _ {l : ℕ} (e : o ≡ Some l) where
        pub prefix-requires : PrefixRequires s m l
        prefix-requires = record {
          submodel = here.submodel;
          room = rw (fit-some s f u (sym e ∙ around-fit)).1 here.short;
        }

        pub turn-fit : prefix_end s f m l ≡ fit_of s f i
        turn-fit = behind-fit here f (sym e ∙ around-fit)

-- ---- what the loop keeps: the fits of the first i instances
pub record FitLoop (s : Recipe) (f fit : List ℕ) (n i : ℕ) : Type 0 where
  pub fits : FitsTo s f fit i
  pub below : i ≤ n
  pub above : 0 < i

-- main has no prefix
main-fits : (s : Recipe) (f : List ℕ) → cell_of (Some 0) ≡ cell_of (fit_of s f 0)
unfolding fit_of
main-fits s f = rw (main-prefixes s)

module _ {s : Recipe} {t inst : List ℕ} {n : ℕ} (P : Planted s t inst n) where
  module _ (fit₀ : List ℕ) (room : n ≤ length fit₀) where
    pub some-room : 0 < length fit₀
    some-room = omega (arith, some-instance s, P.rows.count, room)

    pub fit-start : (f : List ℕ) {fit₁ : List ℕ} → fit₁ ≡ set fit₀ 0 1 → FitLoop s f fit₁ n 1
    fit-start f e =
        let some = some-instance s in
        record {
          fits = record {
            counted = omega (arith, P.rows.count, room, ap length e, length-set fit₀ 0 1);
            fits = λ i l. let z : i ≡ 0 = omega arith in rw (z, e) (get_or-set_same fit₀ 0 1 0 some-room ∙ main-fits s f);
          };
          below = omega (arith, P.rows.count);
          above = omega arith;
        }

  module _ {f fit : List ℕ} {i : ℕ} (g : FitLoop s f fit n i) (before : i < n) where
    pub behind-requires : BehindRequires s i f fit
    behind-requires = record {
      fits = g.fits;
      above = g.above;
      low = omega (arith, P.rows.count);
    }

    module _ {o : Option ℕ} (o-is : o ≡ fit_of s f i) where
      pub cell-few : cell_of o < 65536
      cell-few = rw o-is (omega (arith, fit-few s f i (naming P) behind-requires.low, P.measured.linked.numbered.shadowed.narrow))
