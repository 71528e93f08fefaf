-- The companion by its entries, at any name width of two or more: entry number i is that of the i-th element, and its filled fields name records of the flat table.
-- Assumes nothing.
use Rattle.std.specs.Prelude.{None, Option, Some, option_map}
use mathlib.Core.Path.{◌≡◌, refl, sym, ap, ◌∙◌}
use mathlib.Core.Logic.{inl, inr, ⊎_elim}
use Prim.Native.Nat.{ℕ, zero, suc, ◌+◌, ◌*◌, ◌≤◌, ◌<◌}
use native.Mathlib.Omega.{arith}
use mathlib.Core.Bool.{Bool, true, false, not, ◌&&◌}
use mathlib.Core.List.{List, [], ◌∷◌, ◌++◌, map}
use lib.Dec.{eqb, ltb}
use lib.ListN.{get_or, length, take, drop}
use borrow.Author.Tests.{eq-eqb, eqb-true, ltb-true, not-false, not-true}
use Rattle.names.specs.Lists.{In, any, holds, joined}
use Rattle.names.specs.Names.{is_blank}
use Rattle.names.proofs.Lists.{get_or-in, in-append, in_map, none_first, not-any, piece}
use Rattle.names.proofs.ListOrder.{at-earlier, keep-earlier}
use Rattle.names.proofs.Tests.{and_left, and_none, and_right, by_cases, by-option, not-both, or-none-left, or-none-right, some-map, three}
use Rattle.flat_table.specs.Table.{flat_width}
use Rattle.recipe.specs.Definitions.{element_in, factors_of}
use Rattle.recipe.specs.Reading.{fault₃, fault₄, fault₅}
use Rattle.recipe.specs.Records.{Recipe, class, extent_field, is_factors, places, time_field}
use Rattle.recipe.proofs.Definitions.{element-in}
use Rattle.tree.specs.Faults.{fault₇}
use Rattle.tree.specs.Numbers.{run}
use Rattle.tree.specs.Tree.{Node, instances, most_depth, node, nodes, tree_elements}
use Rattle.tree.proofs.Nodes.{in-nodes, in_tree, node-place}
use Rattle.tree.proofs.Numbering.{joined-append}
use Rattle.tree.proofs.Order.{elements-distinct}
use Rattle.marks.specs.Faults.{factor_named, fault₂₀, has_factor_fault, is_factor, is_factor_fault, is_unfactored}
use Rattle.marks.specs.Marks.{chain_end, is_gone, survivors}
use Rattle.marks.proofs.Chain.{chain-in}
use Rattle.marks.proofs.Survivors.{survives, survivor}
use Rattle.composer.specs.Flat.{flat_field}
use Rattle.composer.specs.FlatRecords.{NamesOne}
use Rattle.composer.proofs.Characters.{field-blank}
use Rattle.composer.proofs.Lengths.{field-bytes, name-field}
use Rattle.composer.proofs.Table.{names-one, same-survivor}
use Rattle.factors.specs.Companion.{companion, companion_record, entry_length, factor_at, factor_fields, factor_for, is_rated, rated}
use Rattle.factors.specs.Entries.{FactorNamed, entry_field, entry_of, rated_at}
use Rattle.factors.proofs.Entries.{entry-bytes, rated-tree}
use Rattle.factors.proofs.Paths.{around-in, around-submodel, factor-in, factors-node, named-tree}

-- the four fields of each sort
by-four : (P : ℕ → Type 0) → P 0 → P 1 → P 2 → P 3 → (k : ℕ) → k < 4 → P k
by-four P a b c d zero m = a
by-four P a b c d (suc zero) m = b
by-four P a b c d (suc (suc zero)) m = c
by-four P a b c d (suc (suc (suc zero))) m = d
by-four P a b c d (suc (suc (suc (suc k)))) m = absurd (omega arith)

module _ (s : Recipe) (two : 2 ≤ s.width) (h₃ : fault₃ s ≡ None) (h₅ : fault₅ s ≡ None) (h₇ : fault₇ s ≡ None) where
  module _ (i : ℕ) (l : i < length (rated s)) where
    x : Node
    x = rated_at s i

    x-in : In x (survivors s)
    unfolding x
    x-in = rated-tree s (rated_at s i) (get_or-in (rated s) i (node [] 0) l)

    tree : In x (tree_elements s)
    tree = (survivor s x x-in).0

    -- entry number i is that of the i-th element
    pub entry_at : entry_of s.width (companion s) i ≡ companion_record s (rated_at s i)
    unfolding companion
    entry_at =
        piece (companion_record s) (entry_length s.width) (rated s) i (node [] 0)
        (λ y k. entry-bytes s two h₃ h₅ h₇ y (survivor s y (rated-tree s y k)).0) l

    -- its name and its eight factors
    factors : (Recipe → ℕ → List ℕ) → List (Option Node)
    factors field = map (factor_at s field x.path) (run 1 4)

    nine : List (Option Node)
    nine = Some x ∷ (factors time_field ++ factors extent_field)

    nine-are : drop 1 (companion_record s x) ≡ joined (map (flat_field s) nine)
    unfolding companion_record factor_fields factors nine most_depth
    nine-are = ap (λ (r : List ℕ). flat_field s (Some x) ++ r) (sym (joined-append (map (flat_field s) (factors time_field)) (map (flat_field s) (factors extent_field))))

    each-factor : (field : Recipe → ℕ → List ℕ) (o : Option Node) → In o (factors field) → length (flat_field s o) ≡ flat_width s.width
    unfolding factors
    each-factor field o i =
        let d = in_map (factor_at s field x.path) (run 1 4) o i in
        field-bytes s two h₃ h₇ o (λ y n. factor-in s h₅ h₇ x.path (in_tree s x tree).0 field d.0 y (sym d.2 ∙ n))

    each : (o : Option Node) → In o nine → length (flat_field s o) ≡ flat_width s.width
    unfolding nine
    each o (inl e) = rw e (name-field s two h₃ h₇ h₅ x tree)
    each o (inr k) = ⊎_elim (each-factor time_field o) (each-factor extent_field o) (in-append (factors time_field) (factors extent_field) o k)

    field-at : (k : ℕ) → k < 9 → entry_field s.width (companion s) i k ≡ flat_field s (get_or nine k None)
    unfolding factors nine x
    field-at k m =
        ap (λ (r : List ℕ). take (flat_width s.width) (drop (k * flat_width s.width) r)) (ap (drop 1) entry_at ∙ nine-are)
        ∙ piece (flat_field s) (flat_width s.width) nine k None each (omega arith)

    pub name-at : entry_field s.width (companion s) i 0 ≡ flat_field s (Some (rated_at s i))
    unfolding factors nine x
    name-at = field-at 0 (omega arith)

    pub time-at : (k : ℕ) → k < 4 → entry_field s.width (companion s) i (suc k) ≡ flat_field s (factor_at s time_field (rated_at s i).path (suc k))
    unfolding factors nine x
    time-at = by-four _ (field-at 1 (omega arith)) (field-at 2 (omega arith)) (field-at 3 (omega arith)) (field-at 4 (omega arith))

    pub extent-at : (k : ℕ) → k < 4 → entry_field s.width (companion s) i (4 + suc k) ≡ flat_field s (factor_at s extent_field (rated_at s i).path (suc k))
    unfolding factors nine x
    extent-at = by-four _ (field-at 5 (omega arith)) (field-at 6 (omega arith)) (field-at 7 (omega arith)) (field-at 8 (omega arith))

  -- no two entries have one name
  module _ (h₄ : fault₄ s ≡ None) where
    not-before : (i j : ℕ) → i < j → j < length (rated s) → entry_field s.width (companion s) i 0 ≡ entry_field s.width (companion s) j 0 → ⊥
    unfolding rated survivors
    not-before i j h l e =
        let a = rated_at s i in
        let b = rated_at s j in
        let m : i < length (rated s) = omega arith in
        let o = at-earlier (rated s) i j (node [] 0) h l in
        let same : b ≡ a =
        same-survivor s two h₃ h₅ h₇ h₄ b a (rated-tree s b (get_or-in (rated s) j (node [] 0) l)) (rated-tree s a (get_or-in (rated s) i (node [] 0) m)) (sym (name-at j l) ∙ sym e ∙ name-at i m) in
        elements-distinct s a (keep-earlier (λ z. not (is_gone s z)) (tree_elements s) a a (keep-earlier (is_rated s) (survivors s) a a (rw same at o)))

    pub one_entry : (i j : ℕ) → i < length (rated s) → j < length (rated s) → entry_field s.width (companion s) i 0 ≡ entry_field s.width (companion s) j 0 → i ≡ j
    one_entry i j a b e =
        three i j
        (λ l. absurd (not-before i j l b e))
        (λ l. l)
        (λ l. absurd (not-before j i l a (sym e)))

    -- ---- what a filled factor field names
    module _ (h₂₀ : fault₂₀ s ≡ None) where
      no-fault : (y : Node) → In y (nodes s (is_factors s)) → has_factor_fault s y ≡ false
      unfolding fault₂₀ is_unfactored
      no-fault y i =
          let t : ℕ → Node → Bool = λ p z. eqb z.place p && has_factor_fault s z in
          let placed = node-place s (in-nodes s (is_factors s) y i) in
          and_none (eqb y.place y.place) (has_factor_fault s y) (eq-eqb y.place y.place refl)
          (not-any (t y.place) (nodes s (is_factors s)) y (none_first (λ p. any (t p) (nodes s (is_factors s))) (places s) y.place h₂₀ placed) i)

      module _ (field : Recipe → ℕ → List ℕ) (half : (y : Node) → has_factor_fault s y ≡ false → is_factor_fault s y (field s y.place) ≡ false) where
        -- the end of the chain from what a kind 8 names does
        end-does : (path : List ℕ) (f : ℕ) (z : Node) → In (node path f) (nodes s (is_factors s)) → factor_named s (node path f) (field s f) ≡ Some z → is_factor s (chain_end s z) ≡ true
        unfolding is_factor_fault factor_named node
        end-does path f z i e =
            let r = some-map (node path) (element_in s f (field s f)) z e in
            let filled = (element-in s f (field s f) r.0 r.1).0 in
            let g = half (node path f) (no-fault (node path f) i) in
            let n = and_none (not (is_blank (field s f))) (not (holds (λ y. is_factor s (chain_end s y)) (factor_named s (node path f) (field s f)))) (ap not filled) g in
            not-false (is_factor s (chain_end s z)) (rw e at n)

        module _ (path : List ℕ) (k : ℕ) (f : List ℕ) (i : In path (instances s)) (e : f ≡ flat_field s (factor_at s field path (suc k))) (b : is_blank f ≡ false) where
          blank : factor_at s field path (suc k) ≡ None → FactorNamed s field path k f
          blank n = not-both (ap is_blank (e ∙ ap (flat_field s) n) ∙ field-blank s h₃) b

          too-deep : ltb k (length path) ≡ false → factor_at s field path (suc k) ≡ None
          unfolding factor_at
          too-deep t = rw t

          at-depth : ltb k (length path) ≡ true → factor_at s field path (suc k) ≡ factor_for s field (take k path) (get_or path k 0)
          unfolding factor_at
          at-depth t = rw t

          no_kind : factors_of s (get_or path k 0) ≡ None → factor_for s field (take k path) (get_or path k 0) ≡ None
          unfolding factor_for
          no_kind n = rw (n, factor_for)

          by_kind : (c : ℕ) → factors_of s (get_or path k 0) ≡ Some c
              → factor_for s field (take k path) (get_or path k 0) ≡ option_map (chain_end s) (factor_named s (node (take k path) c) (field s c))
          unfolding factor_for
          by_kind c n = rw (n, factor_for)

          below : k < length path → factor_at s field path (suc k) ≡ factor_for s field (take k path) (get_or path k 0) → FactorNamed s field path k f
          unfolding factor_named node chain_end is_factor
          below l is =
              by-option (factors_of s (get_or path k 0))
              (λ n. blank (is ∙ no_kind n))
              (λ c n.
              by-option (factor_named s (node (take k path) c) (field s c))
              (λ m. blank (is ∙ by_kind c n ∙ ap (option_map (chain_end s)) m))
              (λ z m.
              let a = around-in s h₇ path i k l in
              let sub = around-submodel s h₇ path i k l in
              let r = some-map (node (take k path)) (element_in s c (field s c)) z m in
              let inside : In z (tree_elements s) = rw r.2 (named-tree s (get_or path k 0) (take k path) a sub c (field s c) r.0 n r.1) in
              let does = end-does (take k path) c z (factors-node s (get_or path k 0) (take k path) a sub c n) m in
              let alive = not-true (is_gone s (chain_end s z)) (and_left (not (is_gone s (chain_end s z))) _ does) in
              let three-is = eqb-true (class s (chain_end s z).place) 3 (and_right (not (is_gone s (chain_end s z))) _ does) in
              let one : NamesOne s f (chain_end s z) =
              names-one s two h₃ h₅ h₇ h₄ (chain_end s z) (survives s (chain_end s z) (chain-in s h₅ h₇ 5 z inside) alive) f (e ∙ ap (flat_field s) (is ∙ by_kind c n ∙ ap (option_map (chain_end s)) m)) in
              record {
                factors = c;
                scales = n;
                named = z;
                is = m;
                inside = inside;
                names = one;
                constant = one.of.kind ∙ three-is;
              }))

          pub factor-named : FactorNamed s field path k f
          factor-named =
              by_cases (ltb k (length path))
              (λ t. below (ltb-true k (length path) t) (at-depth t))
              (λ t. blank (too-deep t))

      pub time-half : (y : Node) → has_factor_fault s y ≡ false → is_factor_fault s y (time_field s y.place) ≡ false
      unfolding has_factor_fault
      time-half y h = or-none-left (is_factor_fault s y (time_field s y.place)) _ h

      pub extent-half : (y : Node) → has_factor_fault s y ≡ false → is_factor_fault s y (extent_field s y.place) ≡ false
      unfolding has_factor_fault
      extent-half y h = or-none-right (is_factor_fault s y (time_field s y.place)) _ h

      module _ (i : ℕ) (l : i < length (rated s)) (k : ℕ) (m : k < 4) where
        path-in : In (rated_at s i).path (instances s)
        path-in = (in_tree s (rated_at s i) (survivor s (rated_at s i) (rated-tree s (rated_at s i) (get_or-in (rated s) i (node [] 0) l))).0).0

        pub time-named : is_blank (entry_field s.width (companion s) i (suc k)) ≡ false → FactorNamed s time_field (rated_at s i).path k (entry_field s.width (companion s) i (suc k))
        time-named b = factor-named time_field time-half (rated_at s i).path k _ path-in (time-at i l k m) b

        pub extent-named : is_blank (entry_field s.width (companion s) i (4 + suc k)) ≡ false → FactorNamed s extent_field (rated_at s i).path k (entry_field s.width (companion s) i (4 + suc k))
        extent-named b = factor-named extent_field extent-half (rated_at s i).path k _ path-in (extent-at i l k m) b
