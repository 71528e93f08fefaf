-- The key of a record, so that two records have one key and one first field where row 4 refuses the later; what the tables have, and what is sought in them.
-- Assumes nothing.
use Rattle.std.specs.Prelude.{ℕ, ◌+◌, ◌*◌, ◌%◌, ◌≤◌, ◌<◌, ◌≡◌, Bool, true, cond, ◌&&◌, ◌||◌, List, length, get_or, eqb, Option}
use Rattle.names.specs.Lists.{keep}
use Rattle.names.specs.Names.{is_name, field_at}
use Rattle.name_index.specs.declared.Layout.{Layout}
use Rattle.name_index.specs.Hash.{hash_of}
use Rattle.name_index.specs.Index.{name_of, Whole}
use Rattle.recipe.specs.Records.{Recipe, kind_byte, port_kind, replaced_by_kind, kind, places, first_field}
use Rattle.recipe.specs.Definitions.{holder, named}
use Rattle.record_index.specs.declared.Space.{Space}
use Rattle.record_index.specs.declared.Space.TheVariants.{Models, Names, Ports, ReplacedBys, Own}
use Rattle.record_index.specs.declared.Sought.{Sought}

-- the number of a name space
abbrev pub space_number : Space → ℕ
space_number Models = 0
space_number Names = 1
space_number Ports = 2
space_number ReplacedBys = 3
space_number Own = 4

-- where a record of kind k at p, of definition d, has its name: models share one space; elements and submodels of a definition share one,
-- its ports one, and its replaced-by's, by their owners; each record of another kind has one of its own
unfoldable pub tag_of : ℕ → ℕ → ℕ → ℕ
tag_of k p d =
    cond (eqb k 1) (space_number Models)
    (cond (port_kind k) (8 * d + space_number Ports)
    (cond (replaced_by_kind k) (8 * d + space_number ReplacedBys)
    (cond (eqb k 2 || eqb k 4) (8 * d + space_number Names)
    (8 * p + space_number Own))))

-- that of the record at p
unfoldable pub tag_at : Recipe → ℕ → ℕ
tag_at s p = tag_of (kind s p) p (holder s p)

-- the key of the name in the field f in the space t; the name's number is in it so that most comparisons of two names end at once
abbrev pub key_of : ℕ → List ℕ → ℕ
key_of t f = t * 32768 + hash_of f % 32768

-- the key of the record at p
unfoldable pub key_at : Recipe → ℕ → ℕ
key_at s p = key_of (tag_at s p) (first_field s p)

-- fields of width w, one after the other
abbrev pub layout : ℕ → Layout
layout w = record { first = 0; stride = w; width = w }

-- the tables have the first field and the key of each record, in order
pub record Entered (s : Recipe) (fields keys : List ℕ) : Type 0 where
  pub few : length (places s) ≤ 1536
  pub room : Whole fields (layout s.width) (length (places s))
  pub enough : length (places s) ≤ length keys
  pub copied : (i : ℕ) → i < length (places s) → name_of fields (layout s.width) i ≡ first_field s (get_or (places s) i 0)
  pub keyed : (i : ℕ) → i < length (places s) → get_or keys i 0 ≡ key_at s (get_or (places s) i 0)

-- a record of kind k, of definition d unless it is a model
unfoldable pub is_of : Recipe → ℕ → ℕ → ℕ → Bool
is_of s k d p = eqb (kind s p) k && (eqb k 1 || eqb (holder s p) d)

-- that of the name n: the definition, element, port or submodel
unfoldable pub record_named : Recipe → ℕ → ℕ → List ℕ → Option ℕ
record_named s k d n = named s n (keep (is_of s k d) (places s))

-- what may be sought: one of these, by a name in the recipe
pub record SoughtIn (s : Recipe) (q : Sought) : Type 0 where
  pub most : kind_byte q.kind ≤ 4
  pub low : q.definition < 16384
  pub room : q.name + s.width ≤ length s.bytes
  pub reads : is_name (field_at s.width s.bytes q.name) ≡ true
