-- 01's "Recipe records". A record is named by its place p, the offset of its kind byte. Names have any width: 01's is 12.
-- Assumes nothing.
use Rattle.std.specs.Prelude.{◌≡◌, Option, MatchOption, ℕ, zero, suc, ◌+◌, Bool, true, false, cond, ◌&&◌, ◌||◌, List, [], ◌∷◌, length, get_or, take, leb, ltb, eqb}
use Rattle.names.specs.Names.{field_at, text}
use Rattle.recipe.specs.declared.Source.{Source}
use Rattle.recipe.specs.declared.Kind.{Kind}
use Rattle.recipe.specs.declared.Kind.TheVariants.{Model, Element, Port, Submodel, Deletion, Replacement, ReplacedBy, Factors}

-- "A recipe is a byte string"; "A name field is 12 bytes": the width of its name fields
pub record Recipe : Type 0 where
  pub width : ℕ
  pub bytes : List ℕ

-- the recipe of these bytes and this width
abbrev pub recipe_at : ℕ → List ℕ → Recipe
recipe_at w b = record { width = w; bytes = b }

-- the recipe that is lent
abbrev pub recipe : Source → Recipe
recipe s = recipe_at s.width s.bytes.now

-- what a part of a body is
pub data Part : Type 0 where
  -- a name: "name", "model", "submodel", "owner", "target"
  a_name : Part
  -- the name of kind 4: "A submodel's name may not end with an underscore"
  a_submodel_name : Part
  -- "parent or blank", "reference or blank", "submodel or blank"
  a_name_or_blank : Part
  -- "class byte"
  a_class : Part
  -- "way"
  a_way : Part

-- the table of the kinds, column "Body, in order"; there is no kind 0
abbrev pub bodies : List (List Part)
bodies =
    []
    -- 1 model: name
    ∷ (a_name ∷ [])
    -- 2 element: name, class byte, parent or blank, reference or blank
    ∷ (a_name ∷ a_class ∷ a_name_or_blank ∷ a_name_or_blank ∷ [])
    -- 3 port: name, submodel or blank, way, target
    ∷ (a_name ∷ a_name_or_blank ∷ a_way ∷ a_name ∷ [])
    -- 4 submodel: name, model
    ∷ (a_submodel_name ∷ a_name ∷ [])
    -- 5 deletion: submodel, way, target
    ∷ (a_name ∷ a_way ∷ a_name ∷ [])
    -- 6 replacement: owner, submodel, way, target
    ∷ (a_name ∷ a_name ∷ a_way ∷ a_name ∷ [])
    -- 7 replaced-by: owner, submodel, way, target
    ∷ (a_name ∷ a_name ∷ a_way ∷ a_name ∷ [])
    -- Paper 2, 8 factors: submodel, time factor or blank, extent factor or blank
    ∷ (a_name ∷ a_name_or_blank ∷ a_name_or_blank ∷ [])
    ∷ []

-- the body of kind k
abbrev pub body_of : ℕ → List Part
body_of k = get_or bodies k []

-- "A name field is 12 bytes", of name width w; class and way are one byte
abbrev pub part_bytes : ℕ → Part → ℕ
part_bytes w a_name = w
part_bytes w a_submodel_name = w
part_bytes w a_name_or_blank = w
part_bytes w a_class = 1
part_bytes w a_way = 1

-- the bytes of some parts, one behind the other
abbrev pub bytes_of : ℕ → List Part → ℕ
bytes_of w [] = 0
bytes_of w (x ∷ []) = part_bytes w x
bytes_of w (x ∷ y ∷ xs) = part_bytes w x + bytes_of w (y ∷ xs)

-- how many of some parts are names,
abbrev pub names_in : List Part → ℕ
names_in [] = 0
names_in (a_name ∷ xs) = suc (names_in xs)
names_in (a_submodel_name ∷ xs) = suc (names_in xs)
names_in (a_name_or_blank ∷ xs) = suc (names_in xs)
names_in (a_class ∷ xs) = names_in xs
names_in (a_way ∷ xs) = names_in xs

-- and how many single bytes
abbrev pub singles_in : List Part → ℕ
singles_in [] = 0
singles_in (a_name ∷ xs) = singles_in xs
singles_in (a_submodel_name ∷ xs) = singles_in xs
singles_in (a_name_or_blank ∷ xs) = singles_in xs
singles_in (a_class ∷ xs) = suc (singles_in xs)
singles_in (a_way ∷ xs) = suc (singles_in xs)

-- where part number i of the body of kind k begins in it, counted from 0
abbrev pub part_offset : ℕ → ℕ → ℕ → ℕ
part_offset w k i = bytes_of w (take i (body_of k))

-- there is a part
abbrev pub has_parts : List Part → Bool
has_parts [] = false
has_parts (x ∷ xs) = true

-- column "Kind": the kinds of the table
unfoldable pub is_known : ℕ → Bool
is_known k = has_parts (body_of k)

-- its bytes, kind by kind
abbrev pub kind_byte : Kind → ℕ
kind_byte Model = 1
kind_byte Element = 2
kind_byte Port = 3
kind_byte Submodel = 4
kind_byte Deletion = 5
kind_byte Replacement = 6
kind_byte ReplacedBy = 7
kind_byte Factors = 8

-- the kind that a byte is read as: its own, or none of an unknown byte
abbrev pub IsKind : ℕ → Option Kind → Type 0
IsKind b o = MatchOption o (is_known b ≡ false) (λ k. kind_byte k ≡ b)

-- "Each record is one kind byte and a body whose length the kind fixes": the bytes of a record of kind k
unfoldable pub record_length : ℕ → ℕ → ℕ
record_length w k = 1 + bytes_of w (body_of k)

-- ---- what is asked of a kind
-- "3 port"
abbrev pub port_kind : ℕ → Bool
port_kind k = eqb k 3

-- "5 deletion"
abbrev pub deletion_kind : ℕ → Bool
deletion_kind k = eqb k 5

-- "7 replaced-by"
abbrev pub replaced_by_kind : ℕ → Bool
replaced_by_kind k = eqb k 7

-- a mark with an owner: "6 replacement", "7 replaced-by"
abbrev pub owned_kind : ℕ → Bool
owned_kind k = eqb k 6 || eqb k 7

-- "A mark has one of three kinds (5, 6, 7)"
abbrev pub mark_kind : ℕ → Bool
mark_kind k = eqb k 5 || eqb k 6 || eqb k 7

-- a mark or port
abbrev pub pointer_kind : ℕ → Bool
pointer_kind k = mark_kind k || port_kind k

-- the kind byte of the record at p
unfoldable pub kind : Recipe → ℕ → ℕ
kind s p = get_or s.bytes p 0

-- "1 model"
unfoldable pub is_model : Recipe → ℕ → Bool
is_model s p = eqb (kind s p) 1

-- "2 element"
unfoldable pub is_element : Recipe → ℕ → Bool
is_element s p = eqb (kind s p) 2

-- "3 port"
unfoldable pub is_port : Recipe → ℕ → Bool
is_port s p = port_kind (kind s p)

-- "4 submodel"
unfoldable pub is_submodel : Recipe → ℕ → Bool
is_submodel s p = eqb (kind s p) 4

-- "5 deletion"
unfoldable pub is_deletion : Recipe → ℕ → Bool
is_deletion s p = deletion_kind (kind s p)

-- "6 replacement"
unfoldable pub is_replacement : Recipe → ℕ → Bool
is_replacement s p = eqb (kind s p) 6

-- "7 replaced-by"
unfoldable pub is_replaced_by : Recipe → ℕ → Bool
is_replaced_by s p = replaced_by_kind (kind s p)

-- a mark with an owner
abbrev pub is_owned : Recipe → ℕ → Bool
is_owned s p = is_replacement s p || is_replaced_by s p

-- "A mark has one of three kinds (5, 6, 7)"
unfoldable pub is_mark : Recipe → ℕ → Bool
is_mark s p = is_deletion s p || is_replacement s p || is_replaced_by s p

-- Paper 2, "Kind 8 holds submodel, time factor or blank, extent factor or blank"
unfoldable pub is_factors : Recipe → ℕ → Bool
is_factors s p = eqb (kind s p) 8

-- a mark or port
abbrev pub is_pointer : Recipe → ℕ → Bool
is_pointer s p = is_mark s p || is_port s p

-- "a body whose length the kind fixes": where the record after the one at p begins
unfoldable pub next : Recipe → ℕ → ℕ
next s p = p + record_length s.width (kind s p)

-- the record at p is whole, of a known kind, and of kind 1 if it is the first: row 2 does not refuse it
unfoldable pub is_readable : Recipe → ℕ → Bool
is_readable s p = is_known (kind s p) && leb (next s p) (length s.bytes) && (is_model s p || ltb 0 p)

-- the places of the records from p on, up to the first that row 2 refuses; n tries, of which as many as there are bytes left suffice
unfoldable pub places_from : ℕ → Recipe → ℕ → List ℕ
places_from zero s p = []
places_from (suc n) s p = elim (is_readable s p) [ true ↦ p ∷ places_from n s (next s p) | false ↦ [] ]

-- "2 stops at its own record": the offset at which that reading stops
unfoldable pub stop_from : ℕ → Recipe → ℕ → ℕ
stop_from zero s p = p
stop_from (suc n) s p = elim (is_readable s p) [ true ↦ stop_from n s (next s p) | false ↦ p ]

-- "Each record is one kind byte and a body whose length the kind fixes": the places of the records
unfoldable pub places : Recipe → List ℕ
places s = places_from (length s.bytes) s 0

-- where reading stops: the recipe's end, or the first record that row 2 refuses
unfoldable pub stop : Recipe → ℕ
stop s = stop_from (length s.bytes) s 0

-- the name field that begins k bytes into the body of the record at p
unfoldable pub field : Recipe → ℕ → ℕ → List ℕ
field s p k = field_at s.width s.bytes (p + 1 + k)

-- the byte there
unfoldable pub byte : Recipe → ℕ → ℕ → ℕ
byte s p k = get_or s.bytes (p + 1 + k) 0

-- column "Body": the first field, which is the name (kinds 1 to 4), the owner (6 and 7) or the submodel (5 and 8)
unfoldable pub first_field : Recipe → ℕ → List ℕ
first_field s p = field s p 0

-- the name of a record of kinds 1 to 4
unfoldable pub name : Recipe → ℕ → List ℕ
name s p = text (first_field s p)

-- kind 2, "name, class byte, parent or blank, reference or blank": the class
unfoldable pub class : Recipe → ℕ → ℕ
class s p = byte s p (part_offset s.width 2 1)

-- the parent
unfoldable pub parent_field : Recipe → ℕ → List ℕ
parent_field s p = field s p (part_offset s.width 2 2)

-- the reference
unfoldable pub reference_field : Recipe → ℕ → List ℕ
reference_field s p = field s p (part_offset s.width 2 3)

-- kind 4, "name, model": the model
unfoldable pub model_field : Recipe → ℕ → List ℕ
model_field s p = field s p (part_offset s.width 4 1)

-- kinds 3 and 5 to 7, "submodel, way, target": the number of the submodel's part, the first of a deletion, the second of the others
abbrev pub submodel_part : ℕ → ℕ
submodel_part k = cond (deletion_kind k) 0 1

-- where it begins in the body
unfoldable pub submodel_offset : Recipe → ℕ → ℕ
submodel_offset s p = part_offset s.width (kind s p) (submodel_part (kind s p))

-- the submodel of a port or mark
unfoldable pub submodel_field : Recipe → ℕ → List ℕ
submodel_field s p = field s p (submodel_offset s p)

-- "The way byte is 0 (target given by element name) or 1 (by port name)", behind the submodel
unfoldable pub way : Recipe → ℕ → ℕ
way s p = byte s p (submodel_offset s p + s.width)

-- the target's name, behind the way
unfoldable pub target_field : Recipe → ℕ → List ℕ
target_field s p = field s p (submodel_offset s p + s.width + 1)

-- kind 8, "submodel, time factor or blank, extent factor or blank": the time factor
unfoldable pub time_field : Recipe → ℕ → List ℕ
time_field s p = field s p (part_offset s.width 8 1)

-- the extent factor
unfoldable pub extent_field : Recipe → ℕ → List ℕ
extent_field s p = field s p (part_offset s.width 8 2)
