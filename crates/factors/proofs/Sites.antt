-- Where the factors of an instance are: the row of the instance around it, with the two factors of its own submodel put in.
-- Assumes nothing.
use Rattle.std.specs.Prelude.{IfSome, None, Option, Some, option_map, unwrap_or}
use mathlib.Core.Path.{◌≡◌, refl, sym, ap, ◌∙◌}
use Prim.Native.Nat.{ℕ, suc, ◌+◌, ◌*◌, ◌-◌, ◌≤◌, ◌<◌}
use native.Mathlib.Nat.{add-zero}
use native.Mathlib.Omega.{arith}
use Rattle.std.specs.List.{copy_within}
use mathlib.Core.Bool.{cond}
use mathlib.Core.List.{List, [], ◌∷◌, ◌++◌}
use lib.Dec.{eqb}
use lib.ListN.{length, get_or, set, take, drop, length-append, length-drop}
use lib.Seq.{sets, get_or-drop, get_or-set_other, get_or-take, length-sets, length-take-le}
use borrow.Author.Tests.{eqb-true, eqb-false, ne_eqb}
use Rattle.names.specs.Lists.{In}
use Rattle.names.proofs.Lists.{get_or-in}
use Rattle.names.proofs.Stores.{stored_at, stored-before}
use Rattle.names.proofs.Tests.{by_cases, by-option, not_none, some-map, some-none, the-some, three}
use Rattle.recipe.specs.Definitions.{element_in, factors_of, main, submodels}
use Rattle.recipe.specs.Records.{Recipe, extent_field, time_field}
use Rattle.recipe.proofs.Definitions.{in-submodels}
use Rattle.shadow.specs.Shadow.{linked}
use Rattle.shadow.proofs.Cells.{row_room as cells-room}
use Rattle.tree.specs.Numbers.{number}
use Rattle.tree.specs.Steps.{cell_of}
use Rattle.tree.specs.Tree.{Node, definition_at, instances, node, tree_elements}
use Rattle.tree.specs.Planted.{Planted}
use Rattle.targets.proofs.Resolving.{not-zero}
use Rattle.elements.proofs.Elements.{element-held, link_is}
use Rattle.tree.proofs.Instances.{depth, instance-path}
use Rattle.marks.specs.Faults.{factor_named}
use Rattle.marks.specs.Marks.{chain_end}
use Rattle.marks.proofs.Chain.{chain-in}
use Rattle.flat_names.proofs.Filling.{main-path, row-copied}
use Rattle.factor_ends.specs.FactorEnds.{Factor, FactorAt, FactorEnd, end_from}
use Rattle.compose.specs.Composed.{Composed}
use Rattle.composer.specs.declared.Site.{Site}
use Rattle.composer.specs.Writing.{SiteInTree, linked_site, node_at, numbered_site, row_site, site_of}
use Rattle.composer.proofs.Fields.{end-room, end-site, end-tree}
use Rattle.factors.specs.Companion.{factor_for}
use Rattle.factors.specs.Sites.{FactorSite, SiteIs, site_cells, stored_site, SitesTo, factor_field}
use Rattle.factors.proofs.Paths.{extent-beyond, extent-field, factors-none, factors-some, main-fields, named-tree, outer-field, scaling, split-last, time-beyond, time-field}

-- ---- what a site says
pub blank-site : (s : Recipe) {o : Option Node} → o ≡ None → SiteIs s o None
unfolding site_of
blank-site s n = record { is = sym n; inside = tt }

-- one in the tree is at a record
site_inside : (s : Recipe) (x : Option Site) → SiteInTree s x → IfSome x (λ y. (y.inst < length (instances s)) × (0 < y.place))
unfolding node
site_inside s None h = tt
site_inside s (Some x) h =
    let held = element-held s (node_at s x) h.1 in
    (h.0, three 0 x.place (λ l. l) (λ z. absurd (not-zero s _ x.place held.inside (sym z))) (λ l. absurd (omega arith)))

-- and where o is in the tree it is, too
pub site-tree : {s : Recipe} {o : Option Node} (x : Option Site) → SiteIs s o x → ((y : Node) → o ≡ Some y → In y (tree_elements s)) → SiteInTree s x
unfolding site_of
site-tree None S h = tt
site-tree {s} (Some x) S h = (S.inside.0, h (node_at s x) (sym S.is))

-- a site reads as it was written, for no record stands at 0
module _ (sites : List ℕ) (k : ℕ) where
  read-none : get_or sites (k + 1) 0 ≡ 0 → stored_site sites k ≡ None
  unfolding stored_site linked_site
  read-none z = rw (z, linked) refl

  read-some : (x : Site) → get_or sites (k + 0) 0 ≡ x.inst → get_or sites (k + 1) 0 ≡ x.place → (x.place ≡ 0 → ⊥) → stored_site sites k ≡ Some x
  unfolding stored_site linked_site
  read-some x a b z = rw (a, b, ne_eqb x.place 0 z) refl

  -- two places that agree
  read_moved : (other : List ℕ) (j : ℕ) → get_or sites k 0 ≡ get_or other j 0 → get_or sites (k + 1) 0 ≡ get_or other (j + 1) 0 → stored_site sites k ≡ stored_site other j
  unfolding stored_site
  read_moved other j a b = rw (add-zero k, add-zero j, a, b) refl

  read_same : (other : List ℕ) → get_or sites k 0 ≡ get_or other k 0 → get_or sites (k + 1) 0 ≡ get_or other (k + 1) 0 → stored_site sites k ≡ stored_site other k
  read_same other a b = read_moved other k a b

-- what is behind what is stored
stored-behind : (xs out : List ℕ) (at k : ℕ) → at + length xs ≤ k → get_or (sets out at xs) k 0 ≡ get_or out k 0
stored-behind [] out at k h = refl
stored-behind (x ∷ xs) out at k h = stored-behind xs (set out at x) (suc at) k (omega arith) ∙ get_or-set_other out at k x 0 (λ n. omega arith)

two-cells : (x : Option Site) → length (site_cells x) ≡ 2
unfolding site_cells
two-cells None = refl
two-cells (Some x) = refl

pub cells-are : (o : Option Site) (x : Site) → x ≡ unwrap_or o (record { inst = 0; place = 0 }) → x.inst ∷ x.place ∷ [] ≡ site_cells o
unfolding site_cells
cells-are None x e = rw e refl
cells-are (Some y) x e = rw e refl

-- what is put there is read
put-reads : {s : Recipe} {o : Option Node} (x : Option Site) → SiteIs s o x → (sites : List ℕ) (at : ℕ) → at + 1 < length sites → {sites' : List ℕ} → sites' ≡ sets sites at (site_cells x) → stored_site sites' at ≡ x
unfolding site_cells
put-reads None S sites at l {sites'} e =
    read-none sites' at (ap (λ (o : List ℕ). get_or o (at + 1) 0) e ∙ stored_at (0 ∷ 0 ∷ []) sites at 1 (omega arith) (omega arith))
put-reads (Some x) S sites at l {sites'} e =
    read-some sites' at x
    (ap (λ (o : List ℕ). get_or o (at + 0) 0) e ∙ stored_at (x.inst ∷ x.place ∷ []) sites at 0 (omega arith) (omega arith))
    (ap (λ (o : List ℕ). get_or o (at + 1) 0) e ∙ stored_at (x.inst ∷ x.place ∷ []) sites at 1 (omega arith) (omega arith))
    (λ z. omega (arith, S.inside.1, z))

-- ---- what a cell names
pub linked-none : {x : ℕ} → None ≡ linked x → x ≡ 0
linked-none {x} e = by_cases (eqb x 0) (λ t. eqb-true x 0 t) (λ t. not_none {a = x} (e ∙ rw t refl))

pub linked-some : {x q : ℕ} → Some q ≡ linked x → (q ≡ x) × (q ≡ 0 → ⊥)
linked-some {x} {q} e =
    by_cases (eqb x 0)
    (λ t. some-none (e ∙ rw t refl))
    (λ t. let h : q ≡ x = the-some (e ∙ rw t refl) in (h, λ z. eqb-false x 0 t (sym h ∙ z)))

-- ---- the end of a factor's chain, by its number r
module _ {s : Recipe} {t inst el : List ℕ} {insts elems : ℕ} (C : Composed s t inst el insts elems) {f : ℕ} {o : Option ℕ} (r : Option ℕ) (E : FactorEnd s f o r) where
  abbrev ended : List ℕ → Option Node
  ended path = option_map (chain_end s) (option_map (node path) o)

  module _ (path : List ℕ) (F : Factor s f path o) where
    ended-in : (y : Node) → ended path ≡ Some y → In y (tree_elements s)
    unfolding chain_end
    ended-in y n =
        let a = some-map (chain_end s) (option_map (node path) o) y n in
        let b = some-map (node path) o a.0 a.1 in
        rw a.2 (chain-in s C.targeted.planted.measured.linked.row₅ C.targeted.planted.row₇ 5 a.0 (rw b.2 (F.tree b.0 b.1)))

    ended-none : ended path ≡ None → cell_of r ≡ 0
    ended-none n =
        by-option o
        (λ k. ap cell_of (E path F ∙ ap (end_from s path) k))
        (λ e k. let g : ended path ≡ Some (chain_end s (node path e)) = rw k in not_none (sym n ∙ g))

    ended_some : (y : Node) → ended path ≡ Some y → cell_of r ≡ number s y + 1
    ended_some y n =
        let a = some-map (chain_end s) (option_map (node path) o) y n in
        let b = some-map (node path) o a.0 a.1 in
        ap cell_of (E path F ∙ ap (end_from s path) b.1) ∙ ap (λ (v : Node). number s v + 1) (sym (a.2 ∙ ap (chain_end s) b.2))

  factor-room : FactorAt s f o → 5 * cell_of r ≤ length el
  factor-room A = end-room C.targeted.planted.row₇ C.elements (ended-in A.path A.is) (ended-none A.path A.is) (ended_some A.path A.is)

  factor-site : {x : Option Site} → x ≡ numbered_site el (cell_of r) → FactorSite s f o x
  factor-site {x} at path F = record {
    is = end-site C.targeted.planted.row₇ C.elements (ended-in path F) (ended-none path F) (ended_some path F) at;
    inside = site_inside s x (end-tree C.targeted.planted.row₇ C.elements (ended-in path F) (ended-none path F) (ended_some path F) at);
  }

  -- as it is found
  pub lost-site : r ≡ None → FactorSite s f o None
  unfolding numbered_site
  lost-site n = factor-site (rw n refl)

  module _ {z : ℕ} (e : r ≡ Some z) where
    pub found-room : FactorAt s f o → 5 * z + 5 ≤ length el
    found-room A = omega (arith, factor-room A, ap cell_of e)

    pub found-site : {x : Site} → x ≡ row_site el z → FactorSite s f o (Some x)
    unfolding numbered_site
    found-site h =
        let back : z + 1 - 1 ≡ z = omega arith in
        factor-site (rw e (ap Some h ∙ sym (rw (ne_eqb (z + 1) 0 (λ n. omega (arith, n)), back) refl)))

-- ---- a row that is being filled: those before it are done, and its fields are F
pub record SiteRow (s : Recipe) (sites : List ℕ) (i : ℕ) (F : ℕ → Option Node) : Type 0 where
  pub low : i < length (instances s)
  pub room : 16 * length (instances s) ≤ length sites
  pub are : (k j : ℕ) → k < i → j < 8 → SiteIs s (factor_field s (get_or (instances s) k []) j) (stored_site sites (16 * k + 2 * j))
  pub own : (j : ℕ) → j < 8 → SiteIs s (F j) (stored_site sites (16 * i + 2 * j))

-- main's is blank
pub sites-start : {s : Recipe} (sites : List ℕ) → 16 * length (instances s) ≤ length sites → ((k : ℕ) → get_or sites k 0 ≡ 0) → SitesTo s sites 1
sites-start {s} sites h z = record {
  room = h;
  are = λ k j l m.
      let e : k ≡ 0 = omega arith in
      rw (e, read-none sites (16 * 0 + 2 * j) (z (16 * 0 + 2 * j + 1))) (blank-site s (ap (λ (p : List ℕ). factor_field s p j) (main-path s) ∙ main-fields s j));
}

module _ {s : Recipe} {sites : List ℕ} {i : ℕ} where
  -- a copy of an earlier row
  pub row_copied : SitesTo s sites i → {u : ℕ} → u < i → i < length (instances s) → {sites' : List ℕ} → sites' ≡ copy_within sites (16 * u) (16 * u + 16) (16 * i)
      → SiteRow s sites' i (factor_field s (get_or (instances s) u []))
  row_copied g {u} under low {sites'} c =
      let e : sites' ≡ sets sites (16 * i) (take 16 (drop (16 * u) sites)) = c ∙ row-copied sites (16 * u) 16 (16 * i) (omega (arith, g.room)) (omega (arith, g.room)) in
      let part = take 16 (drop (16 * u) sites) in
      let room = g.room in
      let long : length part ≡ 16 = length-take-le 16 (drop (16 * u) sites) (omega (arith, length-drop (16 * u) sites)) in
      let before : (k : ℕ) → k < 16 * i → get_or sites' k 0 ≡ get_or sites k 0 = λ k l. ap (λ (o : List ℕ). get_or o k 0) e ∙ stored-before part sites (16 * i) k l in
      let there : (k : ℕ) → k < 16 → get_or sites' (16 * i + k) 0 ≡ get_or sites (16 * u + k) 0 = λ k l.
      ap (λ (o : List ℕ). get_or o (16 * i + k) 0) e ∙ stored_at part sites (16 * i) k (omega arith) (omega arith) ∙ get_or-take 16 (drop (16 * u) sites) k 0 l ∙ get_or-drop (16 * u) sites k 0 in
      record {
        low = low;
        room = omega (arith, ap length e, length-sets sites (16 * i) part);
        are = λ k j l m. rw (read_same sites' (16 * k + 2 * j) sites (before (16 * k + 2 * j) (omega arith)) (before (16 * k + 2 * j + 1) (omega arith))) (g.are k j l m);
        own = λ j m.
            let a : 16 * i + 2 * j + 1 ≡ 16 * i + (2 * j + 1) = omega arith in
            let b : 16 * u + (2 * j + 1) ≡ 16 * u + 2 * j + 1 = omega arith in
            rw (read_moved sites' (16 * i + 2 * j) sites (16 * u + 2 * j) (there (2 * j) (omega arith)) (rw (a, ← b) (there (2 * j + 1) (omega arith)))) (g.are u j under m);
      }

  -- one field is put in
  pub row_put : {F : ℕ → Option Node} → SiteRow s sites i F → (c : ℕ) → c < 8 → {o : Option Node} {x : Option Site} → SiteIs s o x
      → {sites' : List ℕ} → sites' ≡ sets sites (16 * i + 2 * c) (site_cells x) → SiteRow s sites' i (λ j. cond (eqb j c) o (F j))
  row_put {F} g c h {o} {x} S {sites'} e =
      let low = g.low in
      let room = g.room in
      let at = 16 * i + 2 * c in
      let two = two-cells x in
      let long : length sites' ≡ length sites = ap length e ∙ length-sets sites at (site_cells x) in
      let before : (k : ℕ) → k < at → get_or sites' k 0 ≡ get_or sites k 0 = λ k l. ap (λ (o : List ℕ). get_or o k 0) e ∙ stored-before (site_cells x) sites at k l in
      let behind : (k : ℕ) → at + 2 ≤ k → get_or sites' k 0 ≡ get_or sites k 0 = λ k l. ap (λ (o : List ℕ). get_or o k 0) e ∙ stored-behind (site_cells x) sites at k (omega arith) in
      let other : (k : ℕ) → (k ≡ at → ⊥) → (k + 1 ≡ at → ⊥) → (k ≡ at + 1 → ⊥) → stored_site sites' k ≡ stored_site sites k = λ k n m q.
      three k at
      (λ l. read_same sites' k sites (before k l) (before (k + 1) (omega arith)))
      (λ l. absurd (n l))
      (λ l. read_same sites' k sites (behind k (omega arith)) (behind (k + 1) (omega arith))) in
      let this : stored_site sites' at ≡ x = put-reads x S sites at (omega arith) e in
      record {
        low = low;
        room = omega arith;
        are = λ k j l m. rw (other (16 * k + 2 * j) (λ n. omega arith) (λ n. omega arith) (λ n. omega arith)) (g.are k j l m);
        own = λ j m.
            by_cases (eqb j c)
            (λ t. let n = eqb-true j c t in rw (t, n, this) S)
            (λ t.
            let n = eqb-false j c t in
            rw (t, other (16 * i + 2 * j) (λ q. n (omega arith)) (λ q. omega arith) (λ q. omega arith)) (g.own j m));
      }

  -- it is done
  pub row_done : {F : ℕ → Option Node} → SiteRow s sites i F → ((j : ℕ) → j < 8 → F j ≡ factor_field s (get_or (instances s) i []) j) → SitesTo s sites (i + 1)
  row_done {F} g h = record {
    room = g.room;
    are = λ k j l m.
        three k i
        (λ v. g.are k j v m)
        (λ v. rw (v, ← h j m) (g.own j m))
        (λ v. absurd (omega arith));
  }

-- ---- instance i, behind the instance u around it
module _ {s : Recipe} {t inst el : List ℕ} {insts elems : ℕ} (C : Composed s t inst el insts elems)
    {i : ℕ} (pos : 0 < i) (low : i < length (instances s)) {u : ℕ} (u-is : u ≡ get_or inst (6 * i + 4) 0) where
  P : Planted s t inst (length (instances s))
  P = rw C.targeted.planted.rows.count at C.targeted.planted

  around : List ℕ
  around = get_or (instances s) u []

  pub under : u < i
  under = omega (arith, u-is, P.rows.below i low pos)

  around-in : In around (instances s)
  unfolding around
  around-in = get_or-in (instances s) u [] (omega (arith, under))

  -- its depth, by its row
  deep : {d : ℕ} → d ≡ get_or inst (6 * u + 1) 0 → d ≡ length around
  unfolding around
  deep d-is = d-is ∙ P.rows.depth u (omega (arith, under))

  module _ {m : ℕ} (m-is : m ≡ get_or inst (6 * i + 3) 0) where
    path-is : get_or (instances s) i [] ≡ around ++ (m ∷ [])
    unfolding around
    path-is = P.rows.above i low pos ∙ sym (rw (m-is, u-is))

    short : length around < 4
    short =
        omega (arith, ap length path-is, length-append around (m ∷ []), depth s P.row₇ (get_or (instances s) i []) (get_or-in (instances s) i [] low))

    pub shallow : {d : ℕ} → d ≡ get_or inst (6 * u + 1) 0 → d < 4
    shallow d-is = omega (arith, deep d-is, short)

    whole : (j : ℕ) → factor_field s (get_or (instances s) i []) j ≡ factor_field s (around ++ (m ∷ [])) j
    whole j = ap (λ (p : List ℕ). factor_field s p j) path-is

    submodel : In m (submodels s (definition_at s around))
    unfolding definition_at
    submodel = split-last s main around m (rw path-is at (instance-path s (get_or (instances s) i []) (get_or-in (instances s) i [] low)))

    pub submodel-room : m + 13 ≤ length t
    submodel-room = cells-room P.measured.linked.numbered.shadowed m (in-submodels s (definition_at s around) m submodel).placed

    -- its own kind 8, by its cell
    module _ {k : ℕ} (k-is : k ≡ get_or t (m + 5) 0) where
      cell-is : k ≡ unwrap_or (factors_of s m) 0
      cell-is = let h = in-submodels s (definition_at s around) m submodel in k-is ∙ P.measured.paired.factors m h.placed h.passes

      -- there is none: the row stays
      pub row-none : k ≡ 0 → {sites : List ℕ} → SiteRow s sites i (factor_field s (get_or (instances s) u [])) → SitesTo s sites (i + 1)
      unfolding around factor_for
      row-none z g =
          let none_is = factors-none s m around around-in submodel cell-is z in
          let no-time : factor_for s time_field around m ≡ None = rw (none_is, factor_for) in
          let no-extent : factor_for s extent_field around m ≡ None = rw (none_is, factor_for) in
          row_done g
          (λ j h.
          sym (whole j
          ∙ three j (length around)
          (λ l. outer-field s around m j (λ e. omega arith) (λ e. omega arith))
          (λ e. rw e (time-field s around m short ∙ no-time ∙ sym (time-beyond s around short)))
          (λ l.
          by_cases (eqb j (4 + length around))
          (λ c. let e = eqb-true j (4 + length around) c in rw e (extent-field s around m ∙ no-extent ∙ sym (extent-beyond s around)))
          (λ c. outer-field s around m j (λ e. omega arith) (eqb-false j (4 + length around) c)))))

      module _ (z : k ≡ 0 → ⊥) where
        some_is : factors_of s m ≡ Some k
        some_is = factors-some s m around around-in submodel cell-is z

        pub factors-room : k + 13 ≤ length t
        factors-room = cells-room P.measured.linked.numbered.shadowed k (scaling s m k some_is).placed

        module _ {f : ℕ} (f-is : f ≡ get_or inst (6 * u + 2) 0) where
          -- a field of it, by its cell
          factor : (field : Recipe → ℕ → List ℕ) {o : Option ℕ} → o ≡ element_in s k (field s k) → Factor s f around o
          unfolding around
          factor field e = record {
            inside = around-in;
            first = f-is ∙ P.rows.start u (omega (arith, under));
            tree = λ x n. named-tree s m around around-in submodel k (field s k) x some_is (sym e ∙ n);
          }

          factor-is : (field : Recipe → ℕ → List ℕ) → option_map (chain_end s) (option_map (node around) (element_in s k (field s k))) ≡ factor_for s field around m
          unfolding factor_for factor_named node
          factor-is field = rw (some_is, factor_for)

          module _ {o : Option ℕ} where
            time-is : o ≡ linked (get_or t (k + 3) 0) → o ≡ element_in s k (time_field s k)
            unfolding node
            time-is e = let h = scaling s m k some_is in e ∙ link_is s (node around k) (time_field s k) (P.measured.linked.times k h.placed h.passes)

            extent-is : o ≡ linked (get_or t (k + 5) 0) → o ≡ element_in s k (extent_field s k)
            unfolding node
            extent-is e = let h = scaling s m k some_is in e ∙ link_is s (node around k) (extent_field s k) (P.measured.linked.extents k h.placed h.passes)

            pub time-at : o ≡ linked (get_or t (k + 3) 0) → FactorAt s f o
            time-at e = record { path = around; is = factor time_field (time-is e) }

            pub extent-at : o ≡ linked (get_or t (k + 5) 0) → FactorAt s f o
            extent-at e = record { path = around; is = factor extent_field (extent-is e) }

            time-site : o ≡ linked (get_or t (k + 3) 0) → {a : Option Site} → FactorSite s f o a → SiteIs s (factor_for s time_field around m) a
            time-site e S = rw (time-is e, factor-is time_field) at (S around (factor time_field (time-is e)))

            extent-site : o ≡ linked (get_or t (k + 5) 0) → {a : Option Site} → FactorSite s f o a → SiteIs s (factor_for s extent_field around m) a
            extent-site e S = rw (extent-is e, factor-is extent_field) at (S around (factor extent_field (extent-is e)))

          -- both are put in
          pub row-both : {d : ℕ} → d ≡ get_or inst (6 * u + 1) 0 → {sites sites₁ sites₂ : List ℕ} {o o' : Option ℕ} {a a' : Option Site} → SiteRow s sites i (factor_field s (get_or (instances s) u []))
              → o ≡ linked (get_or t (k + 3) 0) → FactorSite s f o a → sites₁ ≡ sets sites (16 * i + 2 * d) (site_cells a)
              → o' ≡ linked (get_or t (k + 5) 0) → FactorSite s f o' a' → sites₂ ≡ sets sites₁ (16 * i + 2 * (4 + d)) (site_cells a')
              → SitesTo s sites₂ (i + 1)
          unfolding around
          row-both {d} d-is {sites} {sites₁} {sites₂} g e S p e' S' p' =
              let n-is : d ≡ length around = deep d-is in
              let low = shallow d-is in
              row_done (row_put (row_put g d (omega arith) (time-site e S) p) (4 + d) (omega arith) (extent-site e' S') p')
              (λ j h.
              by_cases (eqb j (4 + d))
              (λ c. rw c (sym (whole j ∙ rw (eqb-true j (4 + d) c ∙ ap (λ (n : ℕ). 4 + n) n-is) (extent-field s around m))))
              (λ c.
              by_cases (eqb j d)
              (λ y. rw (c, y) (sym (whole j ∙ rw (eqb-true j d y ∙ n-is) (time-field s around m short))))
              (λ y. rw (c, y) (sym (whole j ∙ outer-field s around m j (λ n. eqb-false j d y (n ∙ sym n-is)) (λ n. eqb-false j (4 + d) c (n ∙ ap (λ (n : ℕ). 4 + n) (sym n-is))))))))
