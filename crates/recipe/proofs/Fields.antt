-- What the record at a place reads as, field by field: one law for each way through its reader.
-- Assumes nothing.
use Rattle.std.specs.Prelude.{None, Option, Some}
use mathlib.Core.Path.{◌≡◌, refl, sym, ap, ◌∙◌}
use Prim.Native.Nat.{ℕ, zero, suc, ◌+◌, ◌-◌, ◌*◌, ◌≤◌, ◌<◌}
use native.Mathlib.Omega.{arith}
use mathlib.Core.Bool.{true, false, cond, not, ◌&&◌}
use mathlib.Core.List.{List, [], ◌∷◌}
use lib.ListN.{length, get_or, take, drop, length-take}
use lib.Seq.{get_or-take, get_or-drop}
use borrow.Author.Tests.{eq-eqb, ne_eqb}
use Rattle.names.specs.Lists.{last_or, first}
use Rattle.names.specs.Names.{text, is_name, is_name_or_blank, field_of, field_at, non_zero, underscore}
use Rattle.names.specs.declared.Field.TheVariants.{Name}
use Rattle.names.proofs.Tests.{not-both, by_cases, or_left}
use Rattle.names.proofs.Lists.{while-length, take_while}
use Rattle.names.proofs.Names.{is_name_lem, some-character, name-characters}
use Rattle.flat_table.specs.Classes.{is_class}
use Rattle.recipe.specs.Records.{Recipe, kind_byte, is_known, places, part_offset, submodel_part, port_kind, mark_kind, pointer_kind, is_replaced_by, record_length, kind, next, is_readable, is_model, is_element, is_port, is_submodel, is_deletion, is_replacement, is_factors, field, byte, first_field, name, class, parent_field, reference_field, model_field, submodel_offset, submodel_field, way, target_field, time_field, extent_field}
use Rattle.recipe.specs.Reading.{ends_with_underscore, is_way, is_form, fault₃}
use Rattle.recipe.specs.Fields.{name_read, way_read, way_of, target_reading, element_fields, port_fields, submodel_fields, mark_fields, mark_reading, factors_fields, record_of, reading_of, RecordAt, TargetAt, MarkAt}
use Rattle.recipe.specs.declared.Way.{Way}
use Rattle.recipe.specs.declared.Kind.{Kind}
use Rattle.recipe.specs.declared.Mark.{Mark}
use Rattle.recipe.specs.declared.Record.{Record}
use Rattle.recipe.specs.declared.Record.TheVariants.{Model, Element, Port, Submodel, Deletion, Replacement, ReplacedBy, Factors}
use Rattle.recipe.proofs.Bodies.{by_kind, by-pointer, model-form, element-form, port-form, submodel-form, mark-form, factors-form, mark-kind}
use Rattle.recipe.proofs.Reading.{readable-fits, known, next_more}

-- ---- the last character of a name
pub last-at : (d : ℕ) (xs : List ℕ) (k : ℕ) → length xs ≡ suc k → last_or d xs ≡ get_or xs k 0
last-at d [] k h = absurd (omega arith)
last-at d (x ∷ []) zero h = refl
last-at d (x ∷ []) (suc k) h = absurd (omega arith)
last-at d (x ∷ y ∷ xs) zero h = absurd (omega arith)
last-at d (x ∷ y ∷ xs) (suc k) h = last-at x (y ∷ xs) k (omega arith)

-- ---- a name field read
module _ (f : List ℕ) where
  pub name-given : {n : ℕ} → Name n ≡ field_of f → Some n ≡ name_read f
  unfolding field_of name_read
  name-given {n} e =
      by_cases (is_name f)
      (λ h. let k : Name n ≡ Name (length (text f)) = rw h at e in rw h cc)
      (λ h. absurd (not-both (is_name_lem f e) h))

  pub name-none : is_name f ≡ false → None ≡ name_read f
  unfolding name_read
  name-none h = rw h

  module _ {n : ℕ} (e : Some n ≡ name_read f) where
    named : (is_name f ≡ true) × (n ≡ length (text f))
    unfolding name_read
    named =
        by_cases (is_name f)
        (λ h. let g : Some n ≡ Some (length (text f)) = rw h at e in (h, let z : n ≡ length (text f) = cc in z))
        (λ h. let g : Some n ≡ None = rw h at e in let z : ◌≡◌ {A = ℕ} 0 1 = cc in absurd (omega arith))

    pub is-named : is_name f ≡ true
    is-named = named.0

    name-some : 1 ≤ n
    name-some = omega (arith, named.1, some-character (text f) (name-characters f named.0))

  pub unnamed : None ≡ name_read f → is_name f ≡ false
  unfolding name_read
  unnamed e =
      by_cases (is_name f)
      (λ h. let g : None ≡ Some (length (text f)) = rw h at e in let z : ◌≡◌ {A = ℕ} 0 1 = cc in absurd (omega arith))
      (λ h. h)

module _ (s : Recipe) (p : ℕ) where
  pub name-fits : {n : ℕ} (k : ℕ) → Some n ≡ name_read (field s p k) → n ≤ s.width
  unfolding field field_at text
  name-fits {n} k e =
      let f : List ℕ = take s.width (drop (p + 1 + k) s.bytes) in
      omega (arith, (named f e).1, while-length non_zero f, length-take s.width (drop (p + 1 + k) s.bytes))

  -- the byte before the padding is the last character
  pub last_byte : {n : ℕ} → Some n ≡ name_read (field s p 0) → last_or 0 (name s p) ≡ get_or s.bytes (p + n) 0
  unfolding name first_field field field_at text
  last_byte {n} e =
      let f : List ℕ = take s.width (drop (p + 1 + 0) s.bytes) in
      let l : n ≡ length (text f) = (named f e).1 in
      let a : 1 ≤ n = name-some f e in
      let b : n ≤ s.width = name-fits 0 e in
      let c : n - 1 < n = omega arith in
      let d : p + 1 + 0 + (n - 1) ≡ p + n = omega arith in
      last-at 0 (text f) (n - 1) (omega arith)
      ∙ (ap (λ (x : List ℕ). get_or x (n - 1) 0) (sym (take_while non_zero f) ∙ ap (λ (k : ℕ). take k f) (sym l))
      ∙ (get_or-take n f (n - 1) 0 c
      ∙ (get_or-take s.width (drop (p + 1 + 0) s.bytes) (n - 1) 0 (omega arith)
      ∙ (get_or-drop (p + 1 + 0) s.bytes (n - 1) 0 ∙ ap (λ (k : ℕ). get_or s.bytes k 0) d))))

  -- ---- the kind byte
  pub of-kind : {k j : Kind} → kind_byte k ≡ get_or s.bytes p 0 → k ≡ j → kind s p ≡ kind_byte j
  unfolding kind
  of-kind b e = sym b ∙ ap kind_byte e

  -- ---- a record that row 2 does not refuse has room for its fields
  module _ (e : is_readable s p ≡ true) where
    fits : next s p ≤ length s.bytes
    fits = readable-fits s p e

    pub in-recipe : p < length s.bytes
    in-recipe = omega (arith, fits, next_more s p)

    pub at_1 : kind s p ≡ 1 → RecordAt s p 1 (1 + s.width)
    unfolding next record_length
    at_1 k = record { kinded = k; room = rw k at fits }

    pub at-2 : kind s p ≡ 2 → RecordAt s p 2 (2 + 3 * s.width)
    unfolding next record_length
    at-2 k = record { kinded = k; room = let h : p + (1 + (s.width + (1 + (s.width + s.width)))) ≤ length s.bytes = rw k at fits in omega arith }

    pub at-3 : kind s p ≡ 3 → RecordAt s p 3 (2 + 3 * s.width)
    unfolding next record_length
    at-3 k = record { kinded = k; room = let h : p + (1 + (s.width + (s.width + (1 + s.width)))) ≤ length s.bytes = rw k at fits in omega arith }

    pub at-4 : kind s p ≡ 4 → RecordAt s p 4 (1 + 2 * s.width)
    unfolding next record_length
    at-4 k = record { kinded = k; room = let h : p + (1 + (s.width + s.width)) ≤ length s.bytes = rw k at fits in omega arith }

    pub at_8 : kind s p ≡ 8 → RecordAt s p 8 (1 + 3 * s.width)
    unfolding next record_length
    at_8 k = record { kinded = k; room = let h : p + (1 + (s.width + (s.width + s.width))) ≤ length s.bytes = rw k at fits in omega arith }

    -- its kind byte is read as one
    pub kinded : is_known (get_or s.bytes p 0) ≡ false → ⊥
    unfolding kind
    kinded u = not-both (known s p e) u

  -- ---- marks
  -- submodel, way and target of a whole mark or port are in the recipe
  pub target_at : next s p ≤ length s.bytes → pointer_kind (kind s p) ≡ true → {o : ℕ} → o ≡ submodel_offset s p → TargetAt s p o
  unfolding submodel_offset next record_length
  target_at f h {o} e =
      record {
        begins = e;
        room =
            by-pointer (λ k. kind s p ≡ k → p + 1 + (o + s.width + 1) + s.width ≤ length s.bytes)
            (behind 3 refl refl)
            (λ k. let g : p + (1 + (s.width + (1 + s.width))) ≤ length s.bytes = rw k at f in let q : o ≡ 0 = rw k at e in omega arith)
            (behind 6 refl refl)
            (behind 7 refl refl)
            (kind s p) h refl;
      }
    where
      behind : (j : ℕ) → record_length s.width j ≡ 1 + (s.width + (s.width + (1 + s.width))) → part_offset s.width j (submodel_part j) ≡ s.width
          → kind s p ≡ j → p + 1 + (o + s.width + 1) + s.width ≤ length s.bytes
      behind j l q k =
          let g : p + record_length s.width j ≤ length s.bytes = rw k at f in
          let r : o ≡ part_offset s.width j (submodel_part j) = rw k at e in
          omega arith

  pub mark-at : is_readable s p ≡ true → (k : ℕ) → mark_kind k ≡ true → kind s p ≡ k → MarkAt s p (part_offset s.width k (submodel_part k))
  unfolding submodel_offset
  mark-at e k m h =
      let t = target_at (readable-fits s p e) (ap pointer_kind h ∙ or_left (mark_kind k) (port_kind k) m) refl in
      record { marks = mark-kind s p ∙ (ap mark_kind h ∙ m); begins = rw h; room = rw h at t.room }

  marked : {m : Mark} → Some m ≡ mark_reading s p → (is_form s p ≡ true) × (m ≡ mark_fields s p)
  unfolding mark_reading
  marked {m} h =
      by_cases (is_form s p)
      (λ f. let g : Some m ≡ Some (mark_fields s p) = rw f at h in (f, let z : m ≡ mark_fields s p = cc in z))
      (λ f. let g : Some m ≡ None = rw f at h in let z : ◌≡◌ {A = ℕ} 0 1 = cc in absurd (omega arith))

  pub unmarked : None ≡ mark_reading s p → None ≡ reading_of s p
  unfolding reading_of mark_reading
  unmarked h =
      by_cases (is_form s p)
      (λ f. let g : None ≡ Some (mark_fields s p) = rw f at h in let z : ◌≡◌ {A = ℕ} 0 1 = cc in absurd (omega arith))
      (λ f. rw f)

  pub deletion-read : kind s p ≡ 5 → {m : Mark} → Some m ≡ mark_reading s p → Some (Deletion m) ≡ reading_of s p
  unfolding reading_of record_of is_model is_element is_port is_submodel is_deletion
  deletion-read k h = let r = marked h in rw (r.0, k, r.1)

  pub replacement-read : kind s p ≡ 6 → {m : Mark} → Some m ≡ mark_reading s p → Some (Replacement m) ≡ reading_of s p
  unfolding reading_of record_of is_model is_element is_port is_submodel is_deletion is_replacement
  replacement-read k h = let r = marked h in rw (r.0, k, r.1)

  pub replaced-by-read : kind s p ≡ 7 → {m : Mark} → Some m ≡ mark_reading s p → Some (ReplacedBy m) ≡ reading_of s p
  unfolding reading_of record_of is_model is_element is_port is_submodel is_deletion is_replacement is_replaced_by
  replaced-by-read k h = let r = marked h in rw (r.0, k, r.1)

  -- ---- way and target
  module _ (k : ℕ) (begins : k ≡ submodel_offset s p) where
    target_is : target_reading s p ≡ cond (is_name (field s p (k + s.width + 1))) (way_read (get_or s.bytes (p + 1 + (k + s.width)) 0) (p + 1 + (k + s.width + 1))) None
    unfolding target_reading way_read way_of way byte target_field
    target_is =
        by_cases (is_way (get_or s.bytes (p + 1 + (k + s.width)) 0))
        (λ w. rw (← begins, w))
        (λ w. by_cases (is_name (field s p (k + s.width + 1))) (λ n. rw (← begins, w, n)) (λ n. rw (← begins, w, n)))

    pub target-nameless : is_name (field s p (k + s.width + 1)) ≡ false → None ≡ target_reading s p
    target-nameless n = sym (target_is ∙ rw n)

    pub target-read : is_name (field s p (k + s.width + 1)) ≡ true → {o : Option Way} → o ≡ way_read (get_or s.bytes (p + 1 + (k + s.width)) 0) (p + 1 + (k + s.width + 1)) → o ≡ target_reading s p
    target-read n h = h ∙ sym (target_is ∙ rw n)

    pub target-far : None ≡ way_read (get_or s.bytes (p + 1 + (k + s.width)) 0) (p + 1 + (k + s.width + 1)) → None ≡ target_reading s p
    target-far h = by_cases (is_name (field s p (k + s.width + 1))) (λ n. target-read n h) target-nameless

  target-named : {t : Way} → Some t ≡ target_reading s p → (is_way (way s p) && is_name (target_field s p) ≡ true) × (t ≡ way_of s p)
  unfolding target_reading
  target-named {t} h =
      by_cases (is_way (way s p) && is_name (target_field s p))
      (λ f. let g : Some t ≡ Some (way_of s p) = rw f at h in (f, let z : t ≡ way_of s p = cc in z))
      (λ f. let g : Some t ≡ None = rw f at h in let z : ◌≡◌ {A = ℕ} 0 1 = cc in absurd (omega arith))

  target-unnamed : None ≡ target_reading s p → is_way (way s p) && is_name (target_field s p) ≡ false
  unfolding target_reading
  target-unnamed h =
      by_cases (is_way (way s p) && is_name (target_field s p))
      (λ f. let g : None ≡ Some (way_of s p) = rw f at h in let z : ◌≡◌ {A = ℕ} 0 1 = cc in absurd (omega arith))
      (λ f. f)

  -- ---- by kind: 1
  module _ (k : kind s p ≡ 1) where
    pub model-refused : is_name (field s p 0) ≡ false → None ≡ reading_of s p
    unfolding reading_of first_field
    model-refused a = rw (model-form s p k, a)

    pub model-read : is_name (field s p 0) ≡ true → Some (Model (p + 1)) ≡ reading_of s p
    unfolding reading_of record_of is_model first_field
    model-read a = rw (model-form s p k, a, k)

  -- 2
  module _ (k : kind s p ≡ 2) where
    element-reading : reading_of s p ≡ cond (is_form s p) (Some (Element (element_fields s p))) None
    unfolding reading_of record_of is_model is_element
    element-reading = rw k

    pub element-nameless : is_name (field s p 0) ≡ false → None ≡ reading_of s p
    unfolding first_field
    element-nameless a = sym (element-reading ∙ rw (element-form s p k, a))

    module _ (a : is_name (field s p 0) ≡ true) where
      pub element-classless : is_class (get_or s.bytes (p + 1 + s.width) 0) ≡ false → None ≡ reading_of s p
      unfolding first_field class byte
      element-classless b = sym (element-reading ∙ rw (element-form s p k, a, b))

      module _ (b : is_class (get_or s.bytes (p + 1 + s.width) 0) ≡ true) where
        pub element-parent : is_name_or_blank (field s p (s.width + 1)) ≡ false → None ≡ reading_of s p
        unfolding first_field class byte parent_field
        element-parent c = sym (element-reading ∙ rw (element-form s p k, a, b, c))

        module _ (c : is_name_or_blank (field s p (s.width + 1)) ≡ true) where
          pub element-reference : is_name_or_blank (field s p (s.width + (1 + s.width))) ≡ false → None ≡ reading_of s p
          unfolding first_field class byte parent_field reference_field
          element-reference d = sym (element-reading ∙ rw (element-form s p k, a, b, c, d))

          pub element-read : is_name_or_blank (field s p (s.width + (1 + s.width))) ≡ true
              → Some (Element (record { name = p + 1; class = get_or s.bytes (p + 1 + s.width) 0; parent = p + 1 + (s.width + 1); reference = p + 1 + (s.width + (1 + s.width)) })) ≡ reading_of s p
          unfolding first_field class byte parent_field reference_field element_fields
          element-read d = sym (element-reading ∙ rw (element-form s p k, a, b, c, d))

  -- 3
  module _ (k : kind s p ≡ 3) where
    port-reading : reading_of s p ≡ cond (is_form s p) (Some (Port (port_fields s p))) None
    unfolding reading_of record_of is_model is_element is_port
    port-reading = rw k

    pub port-offset : s.width ≡ submodel_offset s p
    unfolding submodel_offset
    port-offset = rw k

    pub port-nameless : is_name (field s p 0) ≡ false → None ≡ reading_of s p
    unfolding first_field
    port-nameless a = sym (port-reading ∙ rw (port-form s p k, a))

    module _ (a : is_name (field s p 0) ≡ true) where
      pub port-submodel : is_name_or_blank (field s p s.width) ≡ false → None ≡ reading_of s p
      unfolding first_field submodel_field
      port-submodel b = sym (port-reading ∙ rw (port-form s p k, a, ← port-offset, b))

      module _ (b : is_name_or_blank (field s p s.width) ≡ true) where
        port-target : is_form s p ≡ is_way (way s p) && is_name (target_field s p)
        unfolding first_field submodel_field
        port-target = rw (port-form s p k, a, ap (λ (o : ℕ). is_name_or_blank (field s p o)) (sym port-offset) ∙ b)

        pub port-untargeted : None ≡ target_reading s p → None ≡ reading_of s p
        port-untargeted h = sym (port-reading ∙ rw (port-target ∙ target-unnamed h))

        pub port-read : {t : Way} → Some t ≡ target_reading s p → Some (Port (record { name = p + 1; submodel = p + 1 + s.width; target = t })) ≡ reading_of s p
        unfolding port_fields
        port-read {t} h = let r = target-named h in sym (port-reading ∙ rw (port-target ∙ r.0, r.1, ← port-offset))

  -- 4
  module _ (k : kind s p ≡ 4) where
    submodel-reading : reading_of s p ≡ cond (is_form s p) (Some (Submodel (submodel_fields s p))) None
    unfolding reading_of record_of is_model is_element is_port is_submodel
    submodel-reading = rw k

    pub submodel-nameless : is_name (field s p 0) ≡ false → None ≡ reading_of s p
    unfolding first_field
    submodel-nameless a = sym (submodel-reading ∙ rw (submodel-form s p k, a))

    module _ {n : ℕ} (a : Some n ≡ name_read (field s p 0)) where
      pub submodel-underscore : get_or s.bytes (p + n) 0 ≡ 95 → None ≡ reading_of s p
      unfolding first_field ends_with_underscore underscore
      submodel-underscore h = sym (submodel-reading ∙ rw (submodel-form s p k, is-named (field s p 0) a, last_byte a, eq-eqb (get_or s.bytes (p + n) 0) 95 h))

      module _ (h : get_or s.bytes (p + n) 0 ≡ 95 → ⊥) where
        submodel-model : is_form s p ≡ is_name (field s p s.width)
        unfolding first_field model_field ends_with_underscore underscore
        submodel-model = rw (submodel-form s p k, is-named (field s p 0) a, last_byte a, ne_eqb (get_or s.bytes (p + n) 0) 95 h)

        pub submodel-modelless : is_name (field s p s.width) ≡ false → None ≡ reading_of s p
        submodel-modelless b = sym (submodel-reading ∙ rw (submodel-model ∙ b))

        pub submodel-read : is_name (field s p s.width) ≡ true → Some (Submodel (record { name = p + 1; model = p + 1 + s.width })) ≡ reading_of s p
        unfolding submodel_fields
        submodel-read b = sym (submodel-reading ∙ rw (submodel-model ∙ b))

  -- 8
  module _ (k : kind s p ≡ 8) where
    factors-reading : reading_of s p ≡ cond (is_form s p) (Some (Factors (factors_fields s p))) None
    unfolding reading_of record_of is_model is_element is_port is_submodel is_deletion is_replacement is_replaced_by is_factors
    factors-reading = rw k

    pub factors-nameless : is_name (field s p 0) ≡ false → None ≡ reading_of s p
    unfolding first_field
    factors-nameless a = sym (factors-reading ∙ rw (factors-form s p k, a))

    module _ (a : is_name (field s p 0) ≡ true) where
      pub factors-time : is_name_or_blank (field s p s.width) ≡ false → None ≡ reading_of s p
      unfolding first_field time_field
      factors-time b = sym (factors-reading ∙ rw (factors-form s p k, a, b))

      module _ (b : is_name_or_blank (field s p s.width) ≡ true) where
        pub factors-extent : is_name_or_blank (field s p (s.width + s.width)) ≡ false → None ≡ reading_of s p
        unfolding first_field time_field extent_field
        factors-extent c = sym (factors-reading ∙ rw (factors-form s p k, a, b, c))

        pub factors-read : is_name_or_blank (field s p (s.width + s.width)) ≡ true
            → Some (Factors (record { submodel = p + 1; time = p + 1 + s.width; extent = p + 1 + (s.width + s.width) })) ≡ reading_of s p
        unfolding first_field time_field extent_field factors_fields
        factors-read c = sym (factors-reading ∙ rw (factors-form s p k, a, b, c))

  -- 5 to 7
  module _ {k : ℕ} (m : MarkAt s p k) where
    pub mark-nameless : is_name (field s p 0) ≡ false → None ≡ mark_reading s p
    unfolding mark_reading first_field
    mark-nameless a = rw (mark-form s p m.marks, a)

    module _ (a : is_name (field s p 0) ≡ true) where
      pub mark-submodelless : is_name (field s p k) ≡ false → None ≡ mark_reading s p
      unfolding mark_reading first_field submodel_field
      mark-submodelless b = rw (mark-form s p m.marks, a, ← m.begins, b)

      module _ (b : is_name (field s p k) ≡ true) where
        mark-end : is_form s p ≡ is_way (way s p) && is_name (target_field s p)
        unfolding first_field submodel_field
        mark-end = rw (mark-form s p m.marks, a, ap (λ (o : ℕ). is_name (field s p o)) (sym m.begins) ∙ b)

        pub mark-untargeted : None ≡ target_reading s p → None ≡ mark_reading s p
        unfolding mark_reading
        mark-untargeted h = rw (mark-end ∙ target-unnamed h)

        pub mark-read : {t : Way} → Some t ≡ target_reading s p → Some (record { owner = p + 1; submodel = p + 1 + k; target = t }) ≡ mark_reading s p
        unfolding mark_reading mark_fields
        mark-read {t} h = let r = target-named h in rw (mark-end ∙ r.0, r.1, ← m.begins)

-- ---- what the answer says of the form
module _ (s : Recipe) (p : ℕ) where
  pub read-form : {r : Record} → Some r ≡ reading_of s p → not (is_form s p) ≡ false
  unfolding reading_of
  read-form {r} e =
      by_cases (is_form s p)
      (λ f. rw f)
      (λ f. let g : Some r ≡ None = rw f at e in let z : ◌≡◌ {A = ℕ} 0 1 = cc in absurd (omega arith))

  -- a record that row 2 does not refuse has one of the kinds
  record-known : is_readable s p ≡ true → (r : Record) × (record_of s p ≡ Some r)
  unfolding is_readable record_of is_model is_element is_port is_submodel is_deletion is_replacement is_replaced_by is_factors
  record-known e =
      by_kind (λ k. kind s p ≡ k → (r : Record) × (record_of s p ≡ Some r))
      (λ k. (Model (p + 1), rw k)) (λ k. (Element (element_fields s p), rw k)) (λ k. (Port (port_fields s p), rw k)) (λ k. (Submodel (submodel_fields s p), rw k))
      (λ k. (Deletion (mark_fields s p), rw k)) (λ k. (Replacement (mark_fields s p), rw k)) (λ k. (ReplacedBy (mark_fields s p), rw k))
      (λ k. (Factors (factors_fields s p), rw k))
      (kind s p) (known s p e) refl

  pub refused-form : is_readable s p ≡ true → None ≡ reading_of s p → not (is_form s p) ≡ true
  unfolding reading_of
  refused-form h e =
      by_cases (is_form s p)
      (λ f.
      let r = record-known h in
      let g : None ≡ Some r.0 = rw f at e ∙ r.1 in
      let z : ◌≡◌ {A = ℕ} 0 1 = cc in
      absurd (omega arith))
      (λ f. rw f)

-- row 3, as a loop finds it
pub fault-3 : (s : Recipe) → fault₃ s ≡ first (λ p. not (is_form s p)) (places s)
unfolding fault₃
fault-3 s = refl
