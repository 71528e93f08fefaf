-- The records of the flat table are those of the survivors, in tree order; each has a name of its own; and the table check accepts it.
-- Assumes nothing.
use Rattle.std.specs.Prelude.{None, Option, Some, option_map}
use mathlib.Core.Path.{◌≡◌, refl, sym, ap, ◌∙◌}
use mathlib.Core.Logic.{inl, inr}
use Prim.Native.Nat.{ℕ, zero, suc, ◌+◌, ◌*◌, ◌/◌, ◌%◌, ◌≤◌, ◌<◌}
use native.Mathlib.Omega.{arith}
use native.Mathlib.Nat.{mul-div_right, mul-mod_right, mul_comm, mul-le-mul_left, add-zero}
use mathlib.Core.Bool.{Bool, true, false, not, ◌&&◌}
use mathlib.Core.List.{List, [], ◌∷◌, ◌++◌, map, append_assoc}
use lib.ListN.{length, get_or, take, drop}
use lib.Seq.{drop-drop, get_or-drop, take_at, drop_at}
use lib.Dec.{ltb}
use borrow.Author.Tests.{eq-eqb, le-ltb, lt-ltb, ltb-true}
use Rattle.names.specs.Lists.{In, joined, same, Pointwise}
use Rattle.names.specs.Names.{is_blank, field_at}
use Rattle.names.proofs.Tests.{by_cases, by-option, not-both, not_none, three, and_left, and_right}
use Rattle.names.proofs.Lists.{eq-same, same_true, in-keep, keep-length, any_none, first-none, first-is}
use Rattle.names.proofs.ListOrder.{earlier-first, earlier-second, earlier-keep, keep-earlier, Rising, rising-from, earlier-less, less-earlier, pointwise-left, pointwise-right, pointwise-earlier, earlier-pointwise}
use Rattle.flat_table.specs.Classes.{parent_allowed, reference_allowed}
use Rattle.flat_table.specs.Table.{most_rows, rows_from, row_count, rows, row_kind, row_name, row_parent, row_reference, row_named, fault₁₄, is_malformed_row, fault₁₅, is_repeated_row, fault₁₆, is_parent_row, is_link_fault, is_parent_fault, is_reference_row, is_reference_fault, is_row_fault, fault₁₇, flat_width, flat_length, table_verdict, Closed}
use Rattle.flat_table.proofs.Closed.{closed-accepted}
use Rattle.recipe.specs.Records.{Recipe, class, parent_field, reference_field}
use Rattle.recipe.specs.Reading.{fault₃, fault₄, fault₅, fault₆}
use Rattle.recipe.proofs.Rows.{element-reads, blank-parent, filled-parent}
use Rattle.tree.specs.Tree.{Node, node, definition_at, tree_elements, parent_of, reference_of}
use Rattle.tree.specs.Faults.{fault₇, most_elements}
use Rattle.tree.proofs.Nodes.{in_tree, parent_in, reference-in}
use Rattle.tree.proofs.Instances.{elements-most}
use Rattle.tree.proofs.Order.{elements-distinct, instance-order}
use Rattle.marks.specs.Marks.{is_gone, survivors, chain_end}
use Rattle.marks.specs.Faults.{fault₉, fault₁₂}
use Rattle.marks.proofs.Conflicts.{chain-exists}
use Rattle.marks.proofs.IsGone.{not-gone}
use Rattle.marks.proofs.Survivors.{survivor, parent-class, parent-survives, blank-reference, filled-reference, reference-end, end-survives}
use Rattle.composer.specs.Flat.{flat_field, flat_reference, flat_record, flat}
use Rattle.flat_names.proofs.OneName.{flat-names-differ}
use Rattle.composer.proofs.Lengths.{name-field, parent-field, reference-field, reference-end-in, record-bytes, flat-bytes}
use Rattle.composer.proofs.Characters.{field-name, field-tells, field-blank, field-filled, field-reads}
use Rattle.composer.specs.FlatRecords.{record_places, name_at, parent_at, reference_at, RecordOf, NamesOne, ParentNamed, ReferenceNamed, Ended}

module _ (s : Recipe) where
  module _ (two : 2 ≤ s.width) (h₃ : fault₃ s ≡ None) (h₅ : fault₅ s ≡ None) (h₇ : fault₇ s ≡ None) where
    some_bytes : 0 < flat_length s.width
    unfolding flat_length
    some_bytes = omega arith

    -- ---- the record that stands at p
    module _ (p : ℕ) (x : Node) (i : In x (tree_elements s)) (rest : List ℕ) (e : drop p (flat s) ≡ flat_record s x ++ rest) where
      w : ℕ
      w = flat_width s.width

      name_f : List ℕ
      name_f = flat_field s (Some x)

      parent_f : List ℕ
      parent_f = flat_field s (parent_of s x)

      reference_f : List ℕ
      reference_f = flat_field s (flat_reference s x)

      -- what stands behind the kind byte, the name and the parent
      after-kind : drop (p + 1) (flat s) ≡ name_f ++ (parent_f ++ (reference_f ++ rest))
      unfolding flat_record name_f parent_f reference_f
      after-kind =
          sym (drop-drop 1 p (flat s))
          ∙ (ap (drop 1) e ∙ (append_assoc (name_f ++ parent_f) reference_f rest ∙ append_assoc name_f parent_f (reference_f ++ rest)))

      after-name : drop (p + 1 + w) (flat s) ≡ parent_f ++ (reference_f ++ rest)
      unfolding w name_f
      after-name =
          sym (drop-drop w (p + 1) (flat s))
          ∙ (ap (drop w) after-kind ∙ drop_at name_f (parent_f ++ (reference_f ++ rest)) w (name-field s two h₃ h₇ h₅ x i))

      after-parent : drop (p + 1 + w + w) (flat s) ≡ reference_f ++ rest
      unfolding w parent_f
      after-parent =
          sym (drop-drop w (p + 1 + w) (flat s))
          ∙ (ap (drop w) after-name ∙ drop_at parent_f (reference_f ++ rest) w (parent-field s two h₃ h₇ h₅ x i))

      pub record-at : RecordOf s p x
      unfolding w name_f parent_f reference_f row_kind row_name row_parent row_reference field_at flat_record
      record-at =
          record {
            kind = ap (λ (n : ℕ). get_or (flat s) n 0) (sym (add-zero p)) ∙ (sym (get_or-drop p (flat s) 0 0) ∙ ap (λ (l : List ℕ). get_or l 0 0) e);
            name = ap (take w) after-kind ∙ take_at name_f (parent_f ++ (reference_f ++ rest)) w (name-field s two h₃ h₇ h₅ x i);
            parent = ap (take w) after-name ∙ take_at parent_f (reference_f ++ rest) w (parent-field s two h₃ h₇ h₅ x i);
            reference = ap (take w) after-parent ∙ take_at reference_f rest w (reference-field s two h₃ h₇ h₅ x i);
          }

    -- ---- all records, in order
    records-from : (p : ℕ) (xs : List Node) → ((x : Node) → In x xs → In x (tree_elements s)) → drop p (flat s) ≡ joined (map (flat_record s) xs)
        → Pointwise (RecordOf s) (rows_from (flat_width s.width) (flat_length s.width) (length xs) p) xs
    unfolding rows_from
    records-from p [] h e = tt
    records-from p (x ∷ xs) h e =
        let rest : List ℕ = joined (map (flat_record s) xs) in
        let l : ℕ = flat_length s.width in (
          record-at p x (h x (inl refl)) rest e,
          records-from (p + l) xs (λ y i. h y (inr i))
              (sym (drop-drop l p (flat s)) ∙ (ap (drop l) e ∙ drop_at (flat_record s x) rest l (record-bytes s two h₃ h₇ h₅ x (h x (inl refl))))),
        )

    -- "the number of survivors"
    pub record-count : row_count (flat_width s.width) (flat_length s.width) (flat s) ≡ length (survivors s)
    unfolding row_count
    record-count =
        ap (λ (n : ℕ). n / flat_length s.width) (flat-bytes s two h₃ h₇ h₅) ∙ mul-div_right (length (survivors s)) some_bytes

    places-are : record_places s ≡ rows_from (flat_width s.width) (flat_length s.width) (length (survivors s)) 0
    unfolding rows
    places-are = ap (λ (n : ℕ). rows_from (flat_width s.width) (flat_length s.width) n 0) record-count

    pub records : Pointwise (RecordOf s) (record_places s) (survivors s)
    unfolding flat
    records = rw places-are (records-from 0 (survivors s) (λ x i. (survivor s x i).0) refl)

    rise-from : (n p : ℕ) → Rising p (rows_from (flat_width s.width) (flat_length s.width) n p)
    unfolding rows_from
    rise-from zero p = tt
    rise-from (suc n) p =
        let l : ℕ = flat_length s.width in
        (omega arith, rising-from (suc p) (p + l) (rows_from (flat_width s.width) l n (p + l)) (omega (arith, some_bytes)) (rise-from n (p + l)))

    places-rise : Rising 0 (record_places s)
    places-rise = rw places-are (rise-from (length (survivors s)) 0)

    node_at : (p : ℕ) → In p (record_places s) → (x : Node) × In x (survivors s) × RecordOf s p x
    node_at p i = pointwise-left (RecordOf s) (record_places s) (survivors s) p records i

    pub place_of : (x : Node) → In x (survivors s) → (p : ℕ) × In p (record_places s) × RecordOf s p x
    place_of x i = pointwise-right (RecordOf s) (record_places s) (survivors s) x records i

    -- "the end of the replacement chain, never a gone element", of a survivor's reference
    pub reference-ended : fault₆ s ≡ None → fault₉ s ≡ None → fault₁₂ s ≡ None → (x y : Node) → In x (survivors s) → reference_of s x ≡ Some y → Ended s y
    reference-ended h₆ h₉ h₁₂ x y i e =
        let j : In y (tree_elements s) = reference-in s x y (survivor s x i).0 e in
        let c = chain-exists s h₉ h₃ h₅ h₆ h₇ y j in
        let k : In (chain_end s y) (survivors s) = end-survives s h₁₂ h₅ h₇ x y i e in
        let z = survivor s (chain_end s y) k in
        record { inside = j; steps = c.0; chain = c.1; survives = k; present = not-gone s h₅ (chain_end s y) z.0 z.1 }

    module _ (h₄ : fault₄ s ≡ None) where
      -- ---- "no two records with one name"
      pub same-survivor : (x y : Node) → In x (survivors s) → In y (survivors s) → flat_field s (Some x) ≡ flat_field s (Some y) → x ≡ y
      same-survivor x y i j e =
          let a = (survivor s x i).0 in
          let b = (survivor s y j).0 in
          flat-names-differ s two h₃ h₄ x y a b (field-tells s h₃ x y a b e)

      not-before : (p q : ℕ) → In p (record_places s) → In q (record_places s) → p < q → name_at s p ≡ name_at s q → ⊥
      unfolding survivors
      not-before p q i j l e =
          let r = pointwise-earlier (RecordOf s) (record_places s) (survivors s) p q records (less-earlier 0 (record_places s) p q places-rise i j l) in
          let x : Node = r.0 in
          let y : Node = r.1 in
          let one : y ≡ x =
          same-survivor y x (earlier-second (survivors s) x y r.2) (earlier-first (survivors s) x y r.2) (sym r.4.name ∙ (sym e ∙ r.3.name)) in
          elements-distinct s x (keep-earlier (λ z. not (is_gone s z)) (tree_elements s) x x (rw one at r.2))

      pub one-record : (p q : ℕ) → In p (record_places s) → In q (record_places s) → name_at s p ≡ name_at s q → p ≡ q
      one-record p q i j e =
          three p q
          (λ l. absurd (not-before p q i j l e))
          (λ l. l)
          (λ l. absurd (not-before q p j i l (sym e)))

      -- the record that a field names: that of the element whose flat name it is
      named : (x : Node) (q : ℕ) → In q (record_places s) → RecordOf s q x → (f : List ℕ) → f ≡ flat_field s (Some x)
          → row_named (flat_width s.width) (flat_length s.width) (flat s) f ≡ Some q
      unfolding row_named
      named x q j r f e =
          first-is (λ k. same (name_at s k) f) (record_places s) q j (eq-same (r.name ∙ sym e))
          (λ k i h. one-record k q i j (same_true (name_at s k) f h ∙ (e ∙ sym r.name)))

      pub names-one : (z : Node) → In z (survivors s) → (f : List ℕ) → f ≡ flat_field s (Some z) → NamesOne s f z
      names-one z k f e =
          let q = place_of z k in
          let n : name_at s q.0 ≡ f = q.2.name ∙ sym e in
          record { survives = k; place = q.0; listed = q.1; of = q.2; named = n; only = λ j i h. one-record j q.0 i q.1 (h ∙ sym n) }

      -- "each filled parent .. field is the name of exactly one record"
      pub parent-named : (p : ℕ) → In p (record_places s) → is_blank (parent_at s p) ≡ false → ParentNamed s p
      parent-named p i b =
          let n = node_at p i in
          let x : Node = n.0 in
          by-option (parent_of s x)
          (λ e. not-both (ap is_blank (n.2.parent ∙ ap (flat_field s) e) ∙ field-blank s h₃) b)
          (λ y e.
          record {
            survivor = x;
            survives = n.1;
            of = n.2;
            parent = y;
            is = e;
            names = names-one y (parent-survives s h₅ x y n.1 e) (parent_at s p) (n.2.parent ∙ ap (flat_field s) e);
          })

      -- "each filled .. reference field is the name of exactly one record", that of the end of the chain
      pub reference-named : fault₁₂ s ≡ None → (p : ℕ) → In p (record_places s) → is_blank (reference_at s p) ≡ false → ReferenceNamed s p
      unfolding flat_reference
      reference-named h₁₂ p i b =
          let n = node_at p i in
          let x : Node = n.0 in
          let f : (o : Option Node) → reference_of s x ≡ o → reference_at s p ≡ flat_field s (option_map (chain_end s) o) =
          λ o e. n.2.reference ∙ ap (λ (k : Option Node). flat_field s (option_map (chain_end s) k)) e in
          by-option (reference_of s x)
          (λ e. not-both (ap is_blank (f None e) ∙ field-blank s h₃) b)
          (λ y e.
          record {
            survivor = x;
            survives = n.1;
            of = n.2;
            referenced = y;
            is = e;
            inside = reference-in s x y (survivor s x n.1).0 e;
            names = names-one (chain_end s y) (end-survives s h₁₂ h₅ h₇ x y n.1 e) (reference_at s p) (f (Some y) e);
          })

      -- the parent's record stands before its child's
      parent-before : (p : ℕ) (x y : Node) → In p (record_places s) → RecordOf s p x → In x (survivors s) → parent_of s x ≡ Some y → (q : ℕ) × In q (record_places s) × RecordOf s q y × (q < p)
      unfolding survivors
      parent-before p x y i r j e =
          let t : Node → Bool = λ z. not (is_gone s z) in
          let a = in-keep t (tree_elements s) x j in
          let b = in-keep t (tree_elements s) y (parent-survives s h₅ x y j e) in
          let c = parent-class s h₅ x y a.0 e in
          let o = earlier-keep t (tree_elements s) y x (instance-order s y x b.0 a.0 c.0 c.1) b.1 a.1 in
          let k = earlier-pointwise (RecordOf s) (record_places s) (survivors s) y x records o in
          let here : k.1 ≡ p = one-record k.1 p (earlier-second (record_places s) k.0 k.1 k.2) i (k.4.name ∙ sym r.name) in
          (k.0, earlier-first (record_places s) k.0 k.1 k.2, k.3, omega (arith, earlier-less 0 (record_places s) k.0 k.1 places-rise k.2))

      module _ (h₁₂ : fault₁₂ s ≡ None) where
        -- ---- rows 14 to 17
        no-fault₁₄ : fault₁₄ (flat_width s.width) (flat_length s.width) (flat s) ≡ None
        unfolding fault₁₄ survivors most_rows most_elements
        no-fault₁₄ =
            let l : ℕ = flat_length s.width in
            let n : ℕ = length (survivors s) in
            let bytes : length (flat s) ≡ l * n = flat-bytes s two h₃ h₇ h₅ in
            let whole : length (flat s) % l ≡ 0 = ap (λ (k : ℕ). k % l) bytes ∙ mul-mod_right l n in
            let few : n ≤ most_rows = omega (arith, keep-length (λ x. not (is_gone s x)) (tree_elements s), elements-most s h₇) in
            let long : length (flat s) ≤ most_rows * l = omega (arith, mul-le-mul_left l few, mul_comm l most_rows) in
            rw (eq-eqb (length (flat s) % l) 0 whole, le-ltb (most_rows * l) (length (flat s)) long)

        no-fault₁₅ : fault₁₅ (flat_width s.width) (flat_length s.width) (flat s) ≡ None
        unfolding fault₁₅ is_malformed_row
        no-fault₁₅ =
            first-none (is_malformed_row (flat_width s.width) (flat_length s.width) (flat s)) (record_places s)
            (λ p i.
            let n = node_at p i in
            let x : Node = n.0 in
            let a : In x (tree_elements s) = (survivor s x n.1).0 in
            let r : RecordOf s p x = n.2 in
            rw (
              r.kind,
              r.name,
              r.parent,
              r.reference,
              (element-reads s h₃ (definition_at s x.path) x.place (in_tree s x a).1).classed,
              field-name s h₃ x a,
              field-reads s h₃ (parent_of s x) (λ y e. parent_in s x y a e),
              field-reads s h₃ (flat_reference s x) (λ y e. reference-end-in s two h₃ h₇ h₅ x y a e),
            ))

        no-fault₁₆ : fault₁₆ (flat_width s.width) (flat_length s.width) (flat s) ≡ None
        unfolding fault₁₆ is_repeated_row
        no-fault₁₆ =
            first-none (is_repeated_row (flat_width s.width) (flat_length s.width) (flat s)) (record_places s)
            (λ p i.
            any_none (λ q. ltb q p && same (name_at s q) (name_at s p)) (record_places s)
            (λ q j.
            by_cases (ltb q p && same (name_at s q) (name_at s p))
            (λ h.
            absurd (not-before q p j i (ltb-true q p (and_left (ltb q p) _ h)) (same_true (name_at s q) (name_at s p) (and_right (ltb q p) _ h))))
            (λ h. h)))

        -- "parent against the class table or not an earlier record"
        no-parent-fault : (p : ℕ) → In p (record_places s) → is_parent_fault (flat_width s.width) (flat_length s.width) (flat s) p ≡ false
        unfolding is_parent_fault is_link_fault is_parent_row parent_of
        no-parent-fault p i =
            let n = node_at p i in
            let x : Node = n.0 in
            let a : In x (tree_elements s) = (survivor s x n.1).0 in
            let r : RecordOf s p x = n.2 in
            let el = (in_tree s x a).1 in
            by-option (parent_of s x)
            (λ e.
            let blank : is_blank (parent_at s p) ≡ true = ap is_blank (r.parent ∙ ap (flat_field s) e) ∙ field-blank s h₃ in
            let allowed : parent_allowed (class s x.place) None ≡ true =
            by_cases (is_blank (parent_field s x.place))
            (λ b. blank-parent s h₅ (definition_at s x.path) x.place el b)
            (λ b. let f = filled-parent s h₅ (definition_at s x.path) x.place el b in
            not_none (sym e ∙ ap (option_map (node x.path)) f.1)) in
            rw (blank, r.kind, allowed))
            (λ y e.
            let b = parent-before p x y i r n.1 e in
            let f : parent_at s p ≡ flat_field s (Some y) = r.parent ∙ ap (flat_field s) e in
            let filled : is_blank (parent_at s p) ≡ false = ap is_blank f ∙ field-filled s h₃ y (parent_in s x y a e) in
            let look = named y b.0 b.1 b.2 (parent_at s p) f in
            rw (filled, look, r.kind, b.2.kind, lt-ltb b.0 p b.3, (parent-class s h₅ x y a e).2))

        -- "reference against the class table or not a record"
        no-reference-fault : (p : ℕ) → In p (record_places s) → is_reference_fault (flat_width s.width) (flat_length s.width) (flat s) p ≡ false
        unfolding is_reference_fault is_link_fault is_reference_row flat_reference
        no-reference-fault p i =
            let n = node_at p i in
            let x : Node = n.0 in
            let a : In x (tree_elements s) = (survivor s x n.1).0 in
            let r : RecordOf s p x = n.2 in
            by-option (reference_of s x)
            (λ e.
            let f : flat_reference s x ≡ None = ap (option_map (chain_end s)) e in
            let blank : is_blank (reference_at s p) ≡ true = ap is_blank (r.reference ∙ ap (flat_field s) f) ∙ field-blank s h₃ in
            let allowed : reference_allowed (class s x.place) None ≡ true =
            by_cases (is_blank (reference_field s x.place))
            (λ b. blank-reference s h₁₂ x n.1 b)
            (λ b. not_none (sym e ∙ (filled-reference s h₁₂ x n.1 b).1)) in
            rw (blank, r.kind, allowed))
            (λ y e.
            let z : Node = chain_end s y in
            let k = end-survives s h₁₂ h₅ h₇ x y n.1 e in
            let q = place_of z k in
            let f : reference_at s p ≡ flat_field s (Some z) = r.reference ∙ ap (λ (o : Option Node). flat_field s (option_map (chain_end s) o)) e in
            let filled : is_blank (reference_at s p) ≡ false = ap is_blank f ∙ field-filled s h₃ z (survivor s z k).0 in
            let look = named z q.0 q.1 q.2 (reference_at s p) f in
            rw (filled, look, r.kind, q.2.kind, (reference-end s h₁₂ x y n.1 e).1))

        no-fault₁₇ : fault₁₇ (flat_width s.width) (flat_length s.width) (flat s) ≡ None
        unfolding fault₁₇ is_row_fault
        no-fault₁₇ =
            first-none (is_row_fault (flat_width s.width) (flat_length s.width) (flat s)) (record_places s)
            (λ p i. rw (no-parent-fault p i, no-reference-fault p i))

        -- the table is closed
        pub table-closed : Closed s.width (flat s)
        table-closed = record { row₁₄ = no-fault₁₄; row₁₅ = no-fault₁₅; row₁₆ = no-fault₁₆; row₁₇ = no-fault₁₇ }

        -- the table check accepts, with the number of survivors
        pub table-accepted : table_verdict s.width (flat s) ≡ record { number = 0; place = 0; count = length (survivors s) }
        table-accepted =
            closed-accepted s.width (flat s) table-closed
            ∙ ap (λ (n : ℕ). record { number = 0; place = 0; count = n }) record-count
