-- The fields of a flat record, from the rows: what is written for an element, its parent, and the end of the chain from its reference.
-- Assumes nothing.
use Rattle.std.specs.Prelude.{None, Option, Some, option_map, unwrap_or}
use Prim.Native.Nat.{◌*◌, ◌+◌, ◌-◌, ◌<◌, ◌≤◌, ℕ}
use borrow.Author.Tests.{ne_eqb}
use lib.Dec.{eqb}
use lib.ListN.{get_or, length, length-append, replicate, set}
use lib.Seq.{sets}
use mathlib.Core.Bool.{false, not}
use mathlib.Core.List.{List, [], ◌++◌, ◌∷◌}
use mathlib.Core.Path.{◌∙◌, ◌≡◌, ap, refl, sym}
use native.Mathlib.Numerals.{add-one}
use native.Mathlib.Omega.{arith}
use Rattle.names.specs.Lists.{In, padded}
use Rattle.names.proofs.Lists.{keep-in}
use Rattle.names.proofs.Stores.{sets-append}
use Rattle.names.proofs.Tests.{by-option, by_cases, not_none, some-map}
use Rattle.flat_table.specs.Table.{flat_width}
use Rattle.recipe.specs.Definitions.{element_in, holder}
use Rattle.recipe.specs.Records.{Recipe, byte, class, parent_field}
use Rattle.recipe.specs.Reading.{fault₃, fault₅}
use Rattle.recipe.proofs.Definitions.{element-in, in-elements}
use Rattle.recipe.proofs.Going.{class_low}
use Rattle.shadow.specs.Shadow.{linked}
use Rattle.shadow.proofs.Cells.{row_room as cells-room}
use Rattle.tree.specs.Faults.{fault₇}
use Rattle.tree.specs.Numbers.{number}
use Rattle.tree.specs.Tree.{Node, instances, node, parent_of, reference_of, tree_elements}
use Rattle.tree.proofs.Nodes.{parent_in}
use Rattle.targets.proofs.Resolving.{not-zero}
use Rattle.references.specs.Ends.{end_of}
use Rattle.marks.specs.Marks.{chain_end, is_gone, survivors}
use Rattle.tree.specs.Steps.{next_of}
use Rattle.elements.specs.Columns.{ElementRows}
use Rattle.elements.proofs.Elements.{element-held}
use Rattle.flat_names.specs.Prefixes.{flat_name}
use Rattle.flat_names.specs.Rows.{Naming}
use Rattle.composer.specs.Fates.{Writable}
use Rattle.composer.specs.Flat.{flat_field, flat_record, flat_reference}
use Rattle.composer.specs.declared.Site.{Site}
use Rattle.composer.specs.Writing.{SiteInTree, element_at, linked_site, node_at, numbered_site, row_site, site_of}
use Rattle.composer.proofs.ByNumber as by
use Rattle.composer.proofs.Lengths.{name-field, parent-field, reference-end-in}

-- ---- a field by its site
module _ (s : Recipe) (out : List ℕ) (at : ℕ) where
  -- a blank is zeros
  pub blank-written : {n : ℕ} {out' : List ℕ} → n ≡ flat_width s.width → out' ≡ sets out at (replicate n 0) → out' ≡ sets out at (flat_field s (site_of s None))
  unfolding flat_field padded flat_width site_of
  blank-written {n} h o = let e : n ≡ flat_width s.width - 0 = omega arith in o ∙ ap (λ (k : ℕ). sets out at (replicate k 0)) e

  pub name-written : (x : Site) {out' : List ℕ} → out' ≡ sets out at (padded (flat_width s.width) (flat_name s (node_at s x))) → out' ≡ sets out at (flat_field s (site_of s (Some x)))
  unfolding flat_field site_of
  name-written x o = o

-- one of the recipe whose prefixes are filled is one of s
pub field-there : {r s : Recipe} → r ≡ s → (o : Option Site) (out : List ℕ) (at : ℕ) {out' : List ℕ} → out' ≡ sets out at (flat_field r (site_of r o)) → out' ≡ sets out at (flat_field s (site_of s o))
field-there e o out at h = h ∙ ap (λ (r : Recipe). sets out at (flat_field r (site_of r o))) e

pub field-requires : {r s : Recipe} → Naming s → r ≡ s → (o : Option Site) (at : ℕ) {n : ℕ} → SiteInTree s o → at + flat_width s.width ≤ n → Naming r × (SiteInTree r o × (at + flat_width r.width ≤ n))
field-requires n e o at i l = rw e (n, (i, l))

-- a kind byte and three fields, stored one behind the other, are a record
four-stores : (out A B C : List ℕ) (at k f : ℕ) → length A ≡ f → length B ≡ f
    → sets (sets (sets (set out at k) (at + 1) A) (at + 1 + f) B) (at + 1 + f + f) C ≡ sets out at (k ∷ (A ++ B ++ C))
four-stores out A B C at k f a b =
    let o = set out at k in
    ap (λ (j : ℕ). sets (sets (sets o (at + 1) A) (at + 1 + j) B) (at + 1 + f + f) C) (sym a)
    ∙ ap (λ (y : List ℕ). sets y (at + 1 + f + f) C) (sym (sets-append A o (at + 1) B))
    ∙ ap (λ (j : ℕ). sets (sets o (at + 1) (A ++ B)) j C) (omega (arith, length-append A B))
    ∙ sym (sets-append (A ++ B) o (at + 1) C)
    ∙ rw (add-one at) refl

-- the site of the number that an end's cell has, which is one less
pub numbered-by : (el : List ℕ) (z : ℕ) {o : Option ℕ} → o ≡ next_of z → option_map (row_site el) o ≡ numbered_site el z
unfolding numbered_site next_of
numbered-by el z e = rw e (by_cases (eqb z 0) (λ b. rw b refl) (λ b. rw b refl))

-- ---- an element by its row
module _ {s : Recipe} {el : List ℕ} (h₇ : fault₇ s ≡ None) (R : ElementRows s el) where
  -- the element of number k
  module _ (k : ℕ) (l : k < length (tree_elements s)) where
    -- its own site
    module _ {y : Site} (r : y ≡ row_site el k) where
      pub own-site : site_of s (Some y) ≡ Some (element_at s k)
      unfolding site_of
      own-site = rw r (ap Some (by.site-is h₇ R k l refl refl))

      pub own-tree : SiteInTree s (Some y)
      own-tree = rw r (by.instance-low h₇ R k l refl, rw (by.site-is h₇ R k l refl refl) (by.element-in s h₇ k l))

    -- its class
    module _ {q : ℕ} (r : q ≡ get_or el (5 * k + 0) 0) where
      pub class-inside : q + 1 + s.width < length s.bytes
      class-inside =
          let h = element-held s (element_at s k) (by.element-in s h₇ k l) in
          rw (by.record_is h₇ R k l r) (class_low s (element_at s k).place h.placed h.passes)

      pub class-is : get_or s.bytes (q + 1 + s.width) 0 ≡ class s (element_at s k).place
      unfolding class byte
      class-is = ap (λ (j : ℕ). get_or s.bytes (j + 1 + s.width) 0) (by.record_is h₇ R k l r)

  -- none, or an element of the tree: z is one more than its number, or 0
  module _ {o : Option Node} (inside : (y : Node) → o ≡ Some y → In y (tree_elements s)) {z : ℕ} (blank : o ≡ None → z ≡ 0) (filled : (y : Node) → o ≡ Some y → z ≡ number s y + 1) where
    pub end-room : 5 * z ≤ length el
    end-room =
        by-option o
        (λ n. omega (arith, blank n))
        (λ y n.
        let is = by.element-is s h₇ y (inside y n) in
        omega (arith, filled y n, by.row_room h₇ R (number s y) is.0))

    -- its site
    end_blank : o ≡ None → numbered_site el z ≡ None
    unfolding numbered_site
    end_blank n = rw (blank n) refl

    end-filled : (y : Node) → o ≡ Some y → numbered_site el z ≡ Some (row_site el (number s y))
    unfolding numbered_site
    end-filled y n =
        let d : z - 1 ≡ number s y = omega (arith, filled y n) in
        rw (ne_eqb z 0 (λ q. omega (arith, filled y n)), d) refl

    module _ {y : Option Site} (r : y ≡ numbered_site el z) where
      pub end-site : site_of s y ≡ o
      unfolding site_of
      end-site =
          by-option o
          (λ n. rw (r, end_blank n, n) refl)
          (λ y n.
          let is = by.element-is s h₇ y (inside y n) in
          ap (site_of s) (r ∙ end-filled y n) ∙ own-site (number s y) is.0 refl ∙ ap Some is.1 ∙ sym n)

      pub end-tree : SiteInTree s y
      end-tree =
          by-option o
          (λ n. rw (r, end_blank n) tt)
          (λ y n. rw (r, end-filled y n) (own-tree (number s y) (by.element-is s h₇ y (inside y n)).0 refl))

-- ---- the element of number e, a survivor: its parent, and the end of the chain from its reference
module _ {s : Recipe} {t el : List ℕ} (W : Writable s t el) where
  h₃ : fault₃ s ≡ None
  h₃ = W.naming.formed

  h₅ : fault₅ s ≡ None
  h₅ = W.row₅

  h₇ : fault₇ s ≡ None
  h₇ = W.naming.small

  two : 2 ≤ s.width
  two = omega (arith, W.naming.wide)

  module _ {e : ℕ} (le : e < length (tree_elements s)) where
    abbrev x : Node
    x = element_at s e

    x-tree : In x (tree_elements s)
    x-tree = by.element-in s h₇ e le

    module _ {y : Site} (r : y ≡ row_site el e) where
      place-is : y.place ≡ x.place
      place-is = by.record_is h₇ W.elements e le (ap (λ (z : Site). z.place) r)

      pub parent-room : y.place + 13 ≤ length t
      parent-room = omega (arith, place-is, cells-room W.shadowed x.place (element-held s x x-tree).placed)

      -- its parent
      module _ {o : Option Site} (h : o ≡ linked_site y.inst (get_or t (y.place + 3) 0)) where
        parent-link : get_or t (y.place + 3) 0 ≡ unwrap_or (element_in s x.place (parent_field s x.place)) 0
        parent-link = let d = element-held s x x-tree in ap (λ (j : ℕ). get_or t (j + 3) 0) place-is ∙ W.parents x.place d.placed d.passes

        no-parent : element_in s x.place (parent_field s x.place) ≡ None → o ≡ None
        unfolding linked_site
        no-parent n = let z : get_or t (y.place + 3) 0 ≡ 0 = parent-link ∙ rw n in h ∙ rw (z, linked) refl

        a-parent : (k : ℕ) → element_in s x.place (parent_field s x.place) ≡ Some k → o ≡ Some (record { inst = y.inst; place = k })
        unfolding linked_site
        a-parent k n =
            let in-k = (in-elements s (holder s x.place) k (element-in s x.place (parent_field s x.place) k n).2).inside in
            let is : get_or t (y.place + 3) 0 ≡ k = parent-link ∙ rw n in
            h ∙ rw (is, ne_eqb k 0 (not-zero s (holder s x.place) k in-k)) refl

        path-there : get_or (instances s) y.inst [] ≡ x.path
        path-there = by.path-is h₇ W.elements e le (ap (λ (z : Site). z.inst) r)

        pub parent-site : site_of s o ≡ parent_of s x
        unfolding site_of parent_of
        parent-site =
            by-option (element_in s x.place (parent_field s x.place))
            (λ n. rw (no-parent n, n) refl)
            (λ k n. rw (a-parent k n, n) (ap (λ (p : List ℕ). Some (node p k)) path-there))

        pub parent-tree : SiteInTree s o
        unfolding site_of
        parent-tree =
            by-option (element_in s x.place (parent_field s x.place))
            (λ n. rw (no-parent n) tt)
            (λ k n. rw (a-parent k n) (by.instance-low h₇ W.elements e le (ap (λ (z : Site). z.inst) r), parent_in s x _ x-tree (sym parent-site ∙ ap (site_of s) (a-parent k n))))

    -- the end of the chain from its reference
    module _ (alive : is_gone s x ≡ false) where
      x-survives : In x (survivors s)
      unfolding survivors
      x-survives = keep-in (λ y. not (is_gone s y)) (tree_elements s) x x-tree (ap not alive)

      end_is : get_or el (5 * e + 4) 0 ≡ end_of s x
      end_is = sym (by.at-number h₇ W.elements e le 4) ∙ W.ends x x-survives

      -- it is 0, or one more than the number of that end
      end_none : flat_reference s x ≡ None → get_or el (5 * e + 4) 0 ≡ 0
      unfolding end_of flat_reference
      end_none n =
          by-option (reference_of s x)
          (λ k. end_is ∙ rw (k, end_of))
          (λ y k. let g : flat_reference s x ≡ Some (chain_end s y) = rw k in not_none (sym n ∙ g))

      end-number : (v : Node) → reference_of s x ≡ Some v → end_of s x ≡ number s (chain_end s v) + 1
      unfolding end_of
      end-number v k = rw (k, end_of)

      end-some : (y : Node) → flat_reference s x ≡ Some y → get_or el (5 * e + 4) 0 ≡ number s y + 1
      unfolding flat_reference
      end-some y n =
          let r = some-map (chain_end s) (reference_of s x) y n in
          end_is ∙ end-number r.0 r.1 ∙ ap (λ (v : Node). number s v + 1) (sym r.2)

      end-inside : (y : Node) → flat_reference s x ≡ Some y → In y (tree_elements s)
      end-inside y n = reference-end-in s two h₃ h₇ h₅ x y x-tree n

      pub reference-room : 5 * get_or el (5 * e + 4) 0 ≤ length el
      reference-room = end-room h₇ W.elements end-inside end_none end-some

      module _ {o : Option Site} (r : o ≡ numbered_site el (get_or el (5 * e + 4) 0)) where
        pub reference-site : site_of s o ≡ flat_reference s x
        reference-site = end-site h₇ W.elements end-inside end_none end-some r

        pub reference-tree : SiteInTree s o
        reference-tree = end-tree h₇ W.elements end-inside end_none end-some r

    -- ---- its record
    pub record-written : {q k f : ℕ} (out : List ℕ) (at : ℕ) {out₁ out₂ out₃ : List ℕ} {a b c : Option Node} → q ≡ get_or el (5 * e + 0) 0 → k ≡ get_or s.bytes (q + 1 + s.width) 0 → f ≡ flat_width s.width
        → a ≡ Some x → b ≡ parent_of s x → c ≡ flat_reference s x
        → out₁ ≡ sets (set out at k) (at + 1) (flat_field s a)
        → out₂ ≡ sets out₁ (at + 1 + f) (flat_field s b)
        → out₃ ≡ sets out₂ (at + 1 + f + f) (flat_field s c)
        → out₃ ≡ sets out at (flat_record s x)
    unfolding flat_record flat_width
    record-written {q} {k} {f} out at {out₁} {out₂} {out₃} hq hk hf ha hb hc o₁ o₂ o₃ =
        let A = flat_field s (Some x) in
        let B = flat_field s (parent_of s x) in
        let D = flat_field s (flat_reference s x) in
        let la : length A ≡ f = name-field s two h₃ h₇ h₅ x x-tree ∙ sym hf in
        let lb : length B ≡ f = parent-field s two h₃ h₇ h₅ x x-tree ∙ sym hf in
        o₃
        ∙ ap (λ (y : Option Node). sets out₂ (at + 1 + f + f) (flat_field s y)) hc
        ∙ ap (λ (o : List ℕ). sets o (at + 1 + f + f) D) (o₂ ∙ ap (λ (y : Option Node). sets out₁ (at + 1 + f) (flat_field s y)) hb ∙ ap (λ (o : List ℕ). sets o (at + 1 + f) B) (o₁ ∙ ap (λ (y : Option Node). sets (set out at k) (at + 1) (flat_field s y)) ha))
        ∙ four-stores out A B D at k f la lb
        ∙ ap (λ (k : ℕ). sets out at (k ∷ (A ++ B ++ D))) (hk ∙ class-is h₇ W.elements e le hq)
