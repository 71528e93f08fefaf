-- The fields of a record that rows 1 to 3 do not refuse: each lies in the recipe, and reads as it must; and what the reader's answer says of the record.
-- Assumes nothing.
use Rattle.std.specs.Prelude.{None, Some}
use mathlib.Core.Path.{◌≡◌, refl, sym, ap, ◌∙◌}
use mathlib.Core.Logic.{⊎_elim}
use mathlib.Core.Bool.{Bool, true, false, not, ◌&&◌, ◌||◌}
use mathlib.Core.List.{List}
use Prim.Native.Nat.{ℕ, ◌+◌, ◌≤◌, ◌<◌}
use native.Mathlib.Omega.{arith}
use lib.ListN.{length}
use lib.Dec.{eqb}
use borrow.Author.Tests.{not-false, eqb-true, eqb-false, leb-true}
use Rattle.names.specs.Lists.{In}
use Rattle.names.specs.Names.{is_name, is_name_or_blank, is_blank, field_at}
use Rattle.names.proofs.Tests.{by_cases, and_left, and_right, or_left, or_cases, not-both}
use Rattle.names.proofs.Lists.{none_first}
use Rattle.flat_table.specs.Classes.{is_class}
use Rattle.recipe.specs.Records.{Recipe, kind_byte, owned_kind, kind, places, is_readable, is_model, is_element, is_port, is_submodel, is_deletion, is_replacement, is_replaced_by, is_mark, is_factors, class, field, first_field, name, parent_field, reference_field, submodel_field, submodel_offset, model_field, target_field, way, time_field, extent_field}
use Rattle.recipe.specs.Reading.{is_form, ends_with_underscore, is_way, fault₃}
use Rattle.recipe.specs.Fields.{target_offset, way_of, element_fields, port_fields, submodel_fields, mark_fields, factors_fields, record_of, reading_of}
use Rattle.recipe.specs.declared.Kind.{Kind}
use Rattle.recipe.specs.declared.Way.TheVariants.{ByElement, ByPort}
use Rattle.recipe.specs.declared.ElementFields.{ElementFields}
use Rattle.recipe.specs.declared.PortFields.{PortFields}
use Rattle.recipe.specs.declared.SubmodelFields.{SubmodelFields}
use Rattle.recipe.specs.declared.Mark.{Mark}
use Rattle.recipe.specs.declared.FactorsFields.{FactorsFields}
use Rattle.recipe.specs.declared.Record.{Record}
use Rattle.recipe.specs.declared.Record.TheVariants.{Model, Element, Port, Submodel, Deletion, Replacement, ReplacedBy, Factors}
use Rattle.recipe.proofs.Reading.{known, readable, readable-fits}
use Rattle.recipe.proofs.Bodies.{by_kind, pointer-kind, element-form, port-form, submodel-form, mark-form, factors-form}
use Rattle.recipe.proofs.Fields.{at-2, at-4, at_8, target_at, refused-form}
use Rattle.record_index.specs.Entries.{SoughtIn}
use Rattle.record_index.proofs.Places.{place-room}

-- the field f stands at the offset q
pub record FieldAt (s : Recipe) (f : List ℕ) (q : ℕ) : Type 0 where
  pub room : q + s.width ≤ length s.bytes
  pub is : field_at s.width s.bytes q ≡ f

pub sought : {s : Recipe} {f : List ℕ} {q d : ℕ} {k : Kind} → FieldAt s f q → is_name f ≡ true → kind_byte k ≤ 4 → d < 16384 → SoughtIn s (record { kind = k; definition = d; name = q })
sought a n m l = record { most = m; low = l; room = a.room; reads = rw a.is n }

pub optional-at : {s : Recipe} {f : List ℕ} {q : ℕ} → FieldAt s f q → is_name_or_blank f ≡ true → (q + s.width ≤ length s.bytes) × (is_name_or_blank (field_at s.width s.bytes q) ≡ true)
optional-at a n = (a.room, rw a.is n)

pub filled : (f : List ℕ) → is_name_or_blank f ≡ true → is_blank f ≡ false → is_name f ≡ true
unfolding is_name_or_blank
filled f e b = ⊎_elim (λ (h : is_name f ≡ true). h) (λ (h : is_blank f ≡ true). not-both h b) (or_cases (is_name f) (is_blank f) e)

pub name-at : {s : Recipe} {f : List ℕ} {q : ℕ} → FieldAt s f q → is_name f ≡ true → (q + s.width ≤ length s.bytes) × (is_name_or_blank (field_at s.width s.bytes q) ≡ true)
unfolding is_name_or_blank
name-at {s} {f} {q} a n = (a.room, rw a.is (or_left (is_name f) (is_blank f) n))

-- a test of the field there
pub blank-at : {s : Recipe} {f : List ℕ} {q : ℕ} {b z : Bool} → FieldAt s f q → b ≡ is_blank (field_at s.width s.bytes q) → b ≡ z → is_blank f ≡ z
blank-at a eb h = sym (eb ∙ ap is_blank a.is) ∙ h

module _ (s : Recipe) (p : ℕ) (i : In p (places s)) where
  pub read : is_readable s p ≡ true
  read = readable s p i

  -- ---- where the fields stand
  at_field : (k : ℕ) {q : ℕ} → q ≡ p + 1 + k → p + 1 + k + s.width ≤ length s.bytes → FieldAt s (field s p k) q
  unfolding field
  at_field k e h = record { room = omega arith; is = ap (field_at s.width s.bytes) e }

  pub first-at : {q : ℕ} → q ≡ p + 1 → FieldAt s (first_field s p) q
  unfolding first_field
  first-at {q} e = at_field 0 (omega arith) (omega (arith, place-room s p i))

  module _ (k : kind s p ≡ 2) {e : ElementFields} (h : e ≡ element_fields s p) where
    pub parent-at : FieldAt s (parent_field s p) e.parent
    unfolding parent_field element_fields
    parent-at = at_field (s.width + 1) (ap (λ (x : ElementFields). x.parent) h) (omega (arith, (at-2 s p read k).room))

    pub reference-at : FieldAt s (reference_field s p) e.reference
    unfolding reference_field element_fields
    reference-at = at_field (s.width + (1 + s.width)) (ap (λ (x : ElementFields). x.reference) h) (omega (arith, (at-2 s p read k).room))

    pub class-is : e.class ≡ class s p
    unfolding element_fields
    class-is = ap (λ (x : ElementFields). x.class) h

  pub model_at : kind s p ≡ 4 → {e : SubmodelFields} → e ≡ submodel_fields s p → FieldAt s (model_field s p) e.model
  unfolding model_field submodel_fields
  model_at k h = at_field s.width (ap (λ (x : SubmodelFields). x.model) h) (omega (arith, (at-4 s p read k).room))

  module _ (k : kind s p ≡ 8) {e : FactorsFields} (h : e ≡ factors_fields s p) where
    pub scaled_at : FieldAt s (first_field s p) e.submodel
    unfolding factors_fields
    scaled_at = first-at (ap (λ (x : FactorsFields). x.submodel) h)

    pub time-at : FieldAt s (time_field s p) e.time
    unfolding time_field factors_fields
    time-at = at_field s.width (ap (λ (x : FactorsFields). x.time) h) (omega (arith, (at_8 s p read k).room))

    pub extent-at : FieldAt s (extent_field s p) e.extent
    unfolding extent_field factors_fields
    extent-at = at_field (s.width + s.width) (ap (λ (x : FactorsFields). x.extent) h) (omega (arith, (at_8 s p read k).room))

  module _ (h : is_mark s p || is_port s p ≡ true) where
    room-target : p + 1 + (submodel_offset s p + s.width + 1) + s.width ≤ length s.bytes
    room-target = (target_at s p (readable-fits s p read) (sym (pointer-kind s p) ∙ h) refl).room

    pub submodel-at : {q : ℕ} → q ≡ p + 1 + submodel_offset s p → FieldAt s (submodel_field s p) q
    unfolding submodel_field
    submodel-at e = at_field (submodel_offset s p) e (omega (arith, room-target))

    pub target-at-field : {q : ℕ} → q ≡ p + 1 + (submodel_offset s p + s.width + 1) → FieldAt s (target_field s p) q
    unfolding target_field
    target-at-field e = at_field (submodel_offset s p + s.width + 1) e room-target

  pub owner_at : {m : Mark} → m ≡ mark_fields s p → FieldAt s (first_field s p) m.owner
  unfolding mark_fields
  owner_at h = first-at (ap (λ (x : Mark). x.owner) h)

  -- ---- how they read
  module _ (h₃ : fault₃ s ≡ None) where
    form : is_form s p ≡ true
    unfolding fault₃
    form = not-false (is_form s p) (none_first (λ q. not (is_form s q)) (places s) p h₃ i)

    pub not-refused : {X : Type 0} → None ≡ reading_of s p → X
    not-refused e = not-both (refused-form s p read e) (rw form)

    module _ (k : kind s p ≡ 2) where
      links : is_name_or_blank (parent_field s p) && is_name_or_blank (reference_field s p) ≡ true
      links = and_right (is_class (class s p)) _ (and_right (is_name (first_field s p)) _ (sym (element-form s p k) ∙ form))

      pub parent-reads : is_name_or_blank (parent_field s p) ≡ true
      parent-reads = and_left (is_name_or_blank (parent_field s p)) _ links

      pub reference-reads : is_name_or_blank (reference_field s p) ≡ true
      reference-reads = and_right (is_name_or_blank (parent_field s p)) _ links

    pub model-reads : kind s p ≡ 4 → is_name (model_field s p) ≡ true
    model-reads k = and_right (is_name (first_field s p) && not (ends_with_underscore (name s p))) _ (sym (submodel-form s p k) ∙ form)

    module _ (k : kind s p ≡ 8) where
      both-factors : is_name_or_blank (time_field s p) && is_name_or_blank (extent_field s p) ≡ true
      both-factors = and_right (is_name (first_field s p)) _ (sym (factors-form s p k) ∙ form)

      pub time-reads : is_name_or_blank (time_field s p) ≡ true
      time-reads = and_left (is_name_or_blank (time_field s p)) _ both-factors

      pub extent-reads : is_name_or_blank (extent_field s p) ≡ true
      extent-reads = and_right (is_name_or_blank (time_field s p)) _ both-factors

    -- a port or mark: its submodel, its way and its target
    mark-rest : is_mark s p ≡ true → is_name (submodel_field s p) && (is_way (way s p) && is_name (target_field s p)) ≡ true
    mark-rest m = and_right (is_name (first_field s p)) _ (sym (mark-form s p m) ∙ form)

    port-rest : is_port s p ≡ true → is_name_or_blank (submodel_field s p) && (is_way (way s p) && is_name (target_field s p)) ≡ true
    unfolding is_port
    port-rest e = and_right (is_name (first_field s p)) _ (sym (port-form s p (eqb-true (kind s p) 3 e)) ∙ form)

    pub mark-submodel-reads : is_mark s p ≡ true → is_name (submodel_field s p) ≡ true
    mark-submodel-reads m = and_left (is_name (submodel_field s p)) _ (mark-rest m)

    module _ (h : is_mark s p || is_port s p ≡ true) where
      target-rest : is_way (way s p) && is_name (target_field s p) ≡ true
      target-rest =
          ⊎_elim
          (λ (m : is_mark s p ≡ true). and_right (is_name (submodel_field s p)) _ (mark-rest m))
          (λ (e : is_port s p ≡ true). and_right (is_name_or_blank (submodel_field s p)) _ (port-rest e))
          (or_cases (is_mark s p) (is_port s p) h)

      pub way-reads : is_way (way s p) ≡ true
      way-reads = and_left (is_way (way s p)) _ target-rest

      pub target-reads : is_name (target_field s p) ≡ true
      target-reads = and_right (is_way (way s p)) _ target-rest

      pub pointing-reads : is_blank (submodel_field s p) ≡ false → is_name (submodel_field s p) ≡ true
      pointing-reads b =
          ⊎_elim
          (λ (m : is_mark s p ≡ true). mark-submodel-reads m)
          (λ (e : is_port s p ≡ true). filled (submodel_field s p) (and_left (is_name_or_blank (submodel_field s p)) _ (port-rest e)) b)
          (or_cases (is_mark s p) (is_port s p) h)

  -- ---- the reader's answer: the kind of the record, and its fields
  abbrev pub ReadRight : Record → Type 0
  ReadRight (Model x) = kind s p ≡ 1
  ReadRight (Element e) = (kind s p ≡ 2) × (e ≡ element_fields s p)
  ReadRight (Port e) = (kind s p ≡ 3) × (e ≡ port_fields s p)
  ReadRight (Submodel e) = (kind s p ≡ 4) × (e ≡ submodel_fields s p)
  ReadRight (Deletion m) = (kind s p ≡ 5) × (m ≡ mark_fields s p)
  ReadRight (Replacement m) = (owned_kind (kind s p) ≡ true) × (m ≡ mark_fields s p)
  ReadRight (ReplacedBy m) = (owned_kind (kind s p) ≡ true) × (m ≡ mark_fields s p)
  ReadRight (Factors e) = (kind s p ≡ 8) × (e ≡ factors_fields s p)

  module _ {r : Record} (e : Some r ≡ reading_of s p) where
    as-record : Some r ≡ record_of s p
    unfolding reading_of
    as-record =
        by_cases (is_form s p)
        (λ f. rw f at e)
        (λ f. let g : Some r ≡ None = rw f at e in let z : ◌≡◌ {A = ℕ} 0 1 = cc in absurd (omega arith))

    right : (x : Record) → Some r ≡ Some x → ReadRight x → ReadRight r
    right x h a = let z : r ≡ x = cc in rw z a

    pub read_right : ReadRight r
    unfolding record_of is_model is_element is_port is_submodel is_deletion is_replacement is_replaced_by is_factors
    read_right =
        by_kind (λ k. kind s p ≡ k → ReadRight r)
        (λ k. right (Model (p + 1)) (rw k at as-record) k)
        (λ k. right (Element (element_fields s p)) (rw k at as-record) (k, refl))
        (λ k. right (Port (port_fields s p)) (rw k at as-record) (k, refl))
        (λ k. right (Submodel (submodel_fields s p)) (rw k at as-record) (k, refl))
        (λ k. right (Deletion (mark_fields s p)) (rw k at as-record) (k, refl))
        (λ k. right (Replacement (mark_fields s p)) (rw k at as-record) (rw k, refl))
        (λ k. right (ReplacedBy (mark_fields s p)) (rw k at as-record) (rw k, refl))
        (λ k. right (Factors (factors_fields s p)) (rw k at as-record) (k, refl))
        (kind s p) (known s p read) refl

  -- a way that reads as one
  pub way-element : {q : ℕ} → ByElement q ≡ way_of s p → (way s p ≡ 0) × (q ≡ target_offset s p)
  unfolding way_of
  way-element {q} e =
      by_cases (eqb (way s p) 0)
      (λ b. let z : ByElement q ≡ ByElement (target_offset s p) = rw b at e in let y : q ≡ target_offset s p = cc in (eqb-true (way s p) 0 b, y))
      (λ b. let z : ByElement q ≡ ByPort (target_offset s p) = rw b at e in let y : ◌≡◌ {A = ℕ} 0 1 = cc in absurd (omega arith))

  pub way-port : {q : ℕ} → ByPort q ≡ way_of s p → is_way (way s p) ≡ true → way s p ≡ 1
  unfolding way_of is_way
  way-port {q} e h =
      by_cases (eqb (way s p) 0)
      (λ b. let z : ByPort q ≡ ByElement (target_offset s p) = rw b at e in let y : ◌≡◌ {A = ℕ} 0 1 = cc in absurd (omega arith))
      (λ b. let n = eqb-false (way s p) 0 b in let l = leb-true (way s p) 1 h in omega arith)

  pub target-way : {e : PortFields} → e ≡ port_fields s p → e.target ≡ way_of s p
  unfolding port_fields
  target-way h = ap (λ (x : PortFields). x.target) h
