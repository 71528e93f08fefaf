-- Of a record in the index, and its definition: what it reads as, where its fields stand, and that what these name may be sought.
-- Assumes nothing.
use Rattle.std.specs.Prelude.{None, Option, Some, cond, is_some, option_map}
use mathlib.Core.Path.{◌≡◌, refl, sym, ap, ◌∙◌}
use mathlib.Core.Bool.{Bool, true, false, not, ◌||◌}
use mathlib.Core.List.{List}
use Prim.Native.Nat.{ℕ, ◌+◌, ◌≤◌}
use native.Mathlib.Omega.{arith}
use lib.Dec.{eqb}
use borrow.Author.Tests.{eq-eqb, eqb-true}
use Rattle.names.specs.Lists.{In, among}
use Rattle.names.specs.Names.{text, is_blank, is_name}
use Rattle.names.proofs.Tests.{or_left}
use Rattle.names.proofs.Lists.{among-any, any-in, any_some}
use Rattle.recipe.specs.Records.{Recipe, kind_byte, kind, owned_kind, places, class, first_field, is_port, model_field, parent_field, reference_field, submodel_field, target_field, time_field, extent_field, submodel_offset, way}
use Rattle.recipe.specs.Definitions.{holder, element_in}
use Rattle.recipe.specs.Fields.{mark_fields}
use Rattle.recipe.specs.Reading.{fault₃}
use Rattle.recipe.specs.declared.ElementFields.{ElementFields}
use Rattle.recipe.specs.declared.FactorsFields.{FactorsFields}
use Rattle.recipe.specs.declared.Kind.{Kind}
use Rattle.recipe.specs.declared.Mark.{Mark}
use Rattle.recipe.specs.declared.PortFields.{PortFields}
use Rattle.recipe.specs.declared.Record.{Record}
use Rattle.recipe.specs.declared.Record.TheVariants.{Element, Factors, Port, Submodel}
use Rattle.recipe.specs.declared.SubmodelFields.{SubmodelFields}
use Rattle.recipe.specs.declared.Way.TheVariants.{ByElement, ByPort}
use Rattle.recipe.proofs.Rows.{first-name}
use Rattle.recipe.proofs.Spans.{holder-below}
use Rattle.record_index.specs.Entries.{record_named}
use Rattle.record_index.proofs.Places.{place-room}
use Rattle.record_index.proofs.Lookups.{element-look}
use Rattle.links.specs.Held.{its_recipe, its_field, ReadsAs, SoughtAt}
use Rattle.links.specs.Links.{OptionalAt, Unowned, links, links_of}
use Rattle.links.specs.declared.Held.{Held}
use Rattle.links.proofs.Fields.{FieldAt, blank-at, ReadRight, sought, optional-at, name-at, filled, read_right, parent-at, reference-at, class-is, model_at, scaled_at, time-at, extent-at, submodel-at, target-at-field, owner_at, parent-reads, reference-reads, model-reads, time-reads, extent-reads, mark-submodel-reads, way-reads, target-reads, pointing-reads, way-element, way-port, target-way}
use Rattle.links.proofs.Linking.{by-element-links, owned-links, element-blank, element-filled, owned-mark, mark-begins, port-begins, port-points, pointing-points, pointing-filled}

pub among-placed : (p : ℕ) (ps : List ℕ) → In p ps → among p ps ≡ true
among-placed p ps i = among-any p ps ∙ any-in (eqb p) ps p i (eq-eqb p p refl)

module _ (h : Held) where
  abbrev s : Recipe
  s = its_recipe h

  abbrev p : ℕ
  p = h.place

  abbrev formed : fault₃ s ≡ None
  formed = h.linker.now.index.formed

  pub placed : In p (places s)
  placed =
      let r = any_some (eqb p) (places s) (sym (among-any p (places s)) ∙ h.placed) in
      rw (eqb-true p r.0 r.2) r.1

  sought-here : {f : List ℕ} {q : ℕ} {k : Kind} → FieldAt s f q → is_name f ≡ true → kind_byte k ≤ 4 → SoughtAt h k q
  sought-here a n m =
      sought a n m (omega (arith, h.held, holder-below s p, place-room s p placed, h.linker.now.index.short))

  as-read : {r : Record} → ReadsAs h r → ReadRight s p placed r
  as-read e = read_right s p placed e

  -- ---- a field that may be blank
  module _ (q : ℕ) (n : OptionalAt s q) {b : Bool} (eb : b ≡ is_blank (its_field h q)) where
    pub blank-answer : b ≡ true → None ≡ element_in s p (its_field h q)
    blank-answer z = sym (element-blank s p (its_field h q) (sym eb ∙ z))

    module _ (z : b ≡ false) where
      pub filled-sought : {k : Kind} → kind_byte k ≤ 4 → SoughtAt h k q
      filled-sought m = sought-here (record { room = n.0; is = refl }) (filled (its_field h q) n.1 (sym eb ∙ z)) m

      pub filled-answer : {a : Option ℕ} → a ≡ record_named s 2 h.definition (text (its_field h q)) → a ≡ element_in s p (its_field h q)
      filled-answer e =
          e
          ∙ (ap (λ (d : ℕ). record_named s 2 d (text (its_field h q))) h.held
          ∙ sym (element-filled s p (its_field h q) (sym eb ∙ z) ∙ element-look s (holder s p) (text (its_field h q))))

  -- ---- an element
  module _ {e : ElementFields} (r : ReadsAs h (Element e)) where
    pub element-kind : kind s p ≡ 2
    element-kind = (as-read r).0

    pub class-here : e.class ≡ class s p
    class-here = class-is s p placed element-kind (as-read r).1

    pub parent-here : FieldAt s (parent_field s p) e.parent
    parent-here = parent-at s p placed element-kind (as-read r).1

    pub reference-here : FieldAt s (reference_field s p) e.reference
    reference-here = reference-at s p placed element-kind (as-read r).1

    pub parent-asked : OptionalAt s e.parent
    parent-asked = optional-at parent-here (parent-reads s p placed formed element-kind)

    pub reference-asked : OptionalAt s e.reference
    reference-asked = optional-at reference-here (reference-reads s p placed formed element-kind)

  -- ---- a submodel
  module _ {e : SubmodelFields} (r : ReadsAs h (Submodel e)) where
    pub submodel-kind : kind s p ≡ 4
    submodel-kind = (as-read r).0

    pub model-here : FieldAt s (model_field s p) e.model
    model-here = model_at s p placed submodel-kind (as-read r).1

    pub model-asked : {k : Kind} → kind_byte k ≤ 4 → SoughtAt h k e.model
    model-asked m = sought-here model-here (model-reads s p placed formed submodel-kind) m

  -- ---- a port
  module _ {e : PortFields} (r : ReadsAs h (Port e)) where
    pub port-kind : kind s p ≡ 3
    port-kind = (as-read r).0

    pub port-submodel : e.submodel ≡ p + 1 + submodel_offset s p
    port-submodel = port-begins s p (as-read r).1

    pub submodel-here : FieldAt s (submodel_field s p) e.submodel
    submodel-here = submodel-at s p placed (port-points s p port-kind) port-submodel

    pub blank-here : {b z : Bool} → b ≡ is_blank (its_field h e.submodel) → b ≡ z → is_blank (submodel_field s p) ≡ z
    blank-here eb ez = blank-at submodel-here eb ez

    pub by-port : {q : ℕ} → e.target ≡ ByPort q → way s p ≡ 1
    by-port t = way-port s p placed (sym t ∙ target-way s p placed (as-read r).1) (way-reads s p placed formed (port-points s p port-kind))

    module _ {q : ℕ} (t : e.target ≡ ByElement q) where
      pub by-element : way s p ≡ 0
      by-element = (way-element s p placed (sym t ∙ target-way s p placed (as-read r).1)).0

      pub target-here : FieldAt s (target_field s p) q
      target-here = target-at-field s p placed (port-points s p port-kind) (way-element s p placed (sym t ∙ target-way s p placed (as-read r).1)).1

      pub own-links : is_blank (submodel_field s p) ≡ true → {a o : Option ℕ} → a ≡ record_named s 2 h.definition (text (its_field h q)) → a ≡ o → option_map (λ x. links None None (Some x)) o ≡ links_of s p
      own-links b ea eo = by-element-links s p port-kind b by-element h.held target-here ea eo

      pub target-asked : {k : Kind} → kind_byte k ≤ 4 → SoughtAt h k q
      target-asked m = sought-here target-here (target-reads s p placed formed (port-points s p port-kind)) m

  -- ---- a port or deletion that names a submodel
  module _ {q : ℕ} (u : Unowned s p q) where
    pub pointer-here : FieldAt s (submodel_field s p) q
    pointer-here = submodel-at s p placed (pointing-points s p u.pointing) u.begins

    pub pointer-asked : {k : Kind} → kind_byte k ≤ 4 → SoughtAt h k q
    pointer-asked m = sought-here pointer-here (pointing-reads s p placed formed (pointing-points s p u.pointing) (pointing-filled s p u.pointing)) m

  -- ---- a mark with an owner
  module _ (o : owned_kind (kind s p) ≡ true) {m : Mark} (r : m ≡ mark_fields s p) where
    pub owner-here : FieldAt s (first_field s p) m.owner
    owner-here = owner_at s p placed r

    pub owner-asked : OptionalAt s m.owner
    owner-asked = name-at owner-here (first-name s formed p placed)

    pub mark-here : FieldAt s (submodel_field s p) m.submodel
    mark-here = submodel-at s p placed (or_left _ (is_port s p) (owned-mark s p o)) (mark-begins s p r)

    pub mark-named : is_name (submodel_field s p) ≡ true
    mark-named = mark-submodel-reads s p placed formed (owned-mark s p o)

    pub mark-links : {a o : Option ℕ} → o ≡ element_in s p (its_field h m.owner) → a ≡ record_named s 4 h.definition (text (its_field h m.submodel))
        → cond (not (is_some a) || not (is_some o)) None (Some (links o a None)) ≡ links_of s p
    mark-links eo ea = owned-links s p h.held mark-here ea o mark-named (first-name s formed p placed) owner-here eo

    pub mark-asked : {k : Kind} → kind_byte k ≤ 4 → SoughtAt h k m.submodel
    mark-asked l = sought-here mark-here mark-named l

  -- ---- a kind 8
  module _ {e : FactorsFields} (r : ReadsAs h (Factors e)) where
    pub factors-kind : kind s p ≡ 8
    factors-kind = (as-read r).0

    pub scaled-here : FieldAt s (first_field s p) e.submodel
    scaled-here = scaled_at s p placed factors-kind (as-read r).1

    pub time-here : FieldAt s (time_field s p) e.time
    time-here = time-at s p placed factors-kind (as-read r).1

    pub extent-here : FieldAt s (extent_field s p) e.extent
    extent-here = extent-at s p placed factors-kind (as-read r).1

    pub scaled-asked : {k : Kind} → kind_byte k ≤ 4 → SoughtAt h k e.submodel
    scaled-asked m = sought-here scaled-here (first-name s formed p placed) m

    pub time-asked : OptionalAt s e.time
    time-asked = optional-at time-here (time-reads s p placed formed factors-kind)

    pub extent-asked : OptionalAt s e.extent
    extent-asked = optional-at extent-here (extent-reads s p placed formed factors-kind)
