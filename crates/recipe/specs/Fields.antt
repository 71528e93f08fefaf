-- What the record at a place reads as: the case of its kind, with the offsets of its fields. Row 3 refuses it where a field does not read.
-- Assumes nothing.
use Rattle.std.specs.Prelude.{◌≡◌, ℕ, ◌+◌, ◌≤◌, true, cond, ◌&&◌, List, length, eqb, None, Option, Some}
use Rattle.names.specs.Names.{text, is_name}
use Rattle.recipe.specs.Records.{Recipe, part_offset, kind, is_model, is_element, is_port, is_submodel, is_deletion, is_replacement, is_replaced_by, is_mark, is_factors, class, submodel_offset, way, target_field}
use Rattle.recipe.specs.Reading.{is_way, is_form}
use Rattle.recipe.specs.declared.Way.{Way}
use Rattle.recipe.specs.declared.Way.TheVariants.{ByElement, ByPort}
use Rattle.recipe.specs.declared.ElementFields.{ElementFields}
use Rattle.recipe.specs.declared.PortFields.{PortFields}
use Rattle.recipe.specs.declared.SubmodelFields.{SubmodelFields}
use Rattle.recipe.specs.declared.Mark.{Mark}
use Rattle.recipe.specs.declared.FactorsFields.{FactorsFields}
use Rattle.recipe.specs.declared.Record.{Record}
use Rattle.recipe.specs.declared.Record.TheVariants.{Model, Element, Port, Submodel, Deletion, Replacement, ReplacedBy, Factors}

-- a name field read, as the length of its name, or not
unfoldable pub name_read : List ℕ → Option ℕ
name_read f = cond (is_name f) (Some (length (text f))) None

-- the offset in the recipe of the field that begins k bytes into the body of the record at p
abbrev pub offset : ℕ → ℕ → ℕ
offset p k = p + 1 + k

-- the offset of the target's name
abbrev pub target_offset : Recipe → ℕ → ℕ
target_offset s p = offset p (submodel_offset s p + s.width + 1)

-- "The way byte is 0 (target given by element name) or 1 (by port name)": the way of the byte b, to the target's name at the offset q
abbrev pub way_to : ℕ → ℕ → Way
way_to b q = cond (eqb b 0) (ByElement q) (ByPort q)

-- the byte read, or not
unfoldable pub way_read : ℕ → ℕ → Option Way
way_read b q = cond (is_way b) (Some (way_to b q)) None

-- the way of the port or mark at p
unfoldable pub way_of : Recipe → ℕ → Way
way_of s p = way_to (way s p) (target_offset s p)

-- "way, target" read, or not
unfoldable pub target_reading : Recipe → ℕ → Option Way
target_reading s p = cond (is_way (way s p) && is_name (target_field s p)) (Some (way_of s p)) None

-- kind 2: "name, class byte, parent or blank, reference or blank"
unfoldable pub element_fields : Recipe → ℕ → ElementFields
element_fields s p =
    record { name = p + 1; class = class s p; parent = offset p (part_offset s.width 2 2); reference = offset p (part_offset s.width 2 3) }

-- kind 3: "name, submodel or blank, way, target"
unfoldable pub port_fields : Recipe → ℕ → PortFields
port_fields s p = record { name = p + 1; submodel = offset p (submodel_offset s p); target = way_of s p }

-- kind 4: "name, model"
unfoldable pub submodel_fields : Recipe → ℕ → SubmodelFields
submodel_fields s p = record { name = p + 1; model = offset p (part_offset s.width 4 1) }

-- kinds 5 to 7: "owner, submodel, way, target"; the owner of a deletion is its submodel once more
unfoldable pub mark_fields : Recipe → ℕ → Mark
mark_fields s p = record { owner = p + 1; submodel = offset p (submodel_offset s p); target = way_of s p }

-- a mark read, or not
unfoldable pub mark_reading : Recipe → ℕ → Option Mark
mark_reading s p = cond (is_form s p) (Some (mark_fields s p)) None

-- kind 8: "submodel, time factor or blank, extent factor or blank"
unfoldable pub factors_fields : Recipe → ℕ → FactorsFields
factors_fields s p = record { submodel = p + 1; time = offset p (part_offset s.width 8 1); extent = offset p (part_offset s.width 8 2) }

-- the record at p, by its kind
unfoldable pub record_of : Recipe → ℕ → Option Record
record_of s p =
    cond (is_model s p) (Some (Model (p + 1)))
    (cond (is_element s p) (Some (Element (element_fields s p)))
    (cond (is_port s p) (Some (Port (port_fields s p)))
    (cond (is_submodel s p) (Some (Submodel (submodel_fields s p)))
    (cond (is_deletion s p) (Some (Deletion (mark_fields s p)))
    (cond (is_replacement s p) (Some (Replacement (mark_fields s p)))
    (cond (is_replaced_by s p) (Some (ReplacedBy (mark_fields s p)))
    (cond (is_factors s p) (Some (Factors (factors_fields s p)))
    None)))))))

-- what the record at p reads as; refused, by row 3, where a field of it does not read
unfoldable pub reading_of : Recipe → ℕ → Option Record
reading_of s p = cond (is_form s p) (record_of s p) None

-- ---- what the readers ask
-- a record of kind k, of n bytes
pub record RecordAt (s : Recipe) (p k n : ℕ) : Type 0 where
  pub kinded : kind s p ≡ k
  pub room : p + n ≤ length s.bytes

-- a whole port or mark, whose submodel begins k bytes into its body
pub record TargetAt (s : Recipe) (p k : ℕ) : Type 0 where
  pub begins : k ≡ submodel_offset s p
  pub room : p + 1 + (k + s.width + 1) + s.width ≤ length s.bytes

-- a whole mark, whose submodel begins k bytes into its body
pub record MarkAt (s : Recipe) (p k : ℕ) : Type 0 where
  pub marks : is_mark s p ≡ true
  pub begins : k ≡ submodel_offset s p
  pub room : p + 1 + (k + s.width + 1) + s.width ≤ length s.bytes
