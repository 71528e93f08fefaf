-- What a record names, by the cells it is written to, and what is asked of a record's fields.
-- Assumes nothing.
use Rattle.names.specs.declared.Reason.TheVariants.{Repeated, Undeclared}
use Rattle.std.specs.Prelude.{ℕ, ◌+◌, ◌≤◌, ◌≡◌, Bool, true, false, cond, not, ◌&&◌, List, [], ◌∷◌, length, eqb, None, Option, Some, unwrap_or}
use Rattle.names.specs.Names.{text, is_blank, is_name_or_blank, field_at}
use Rattle.names.specs.Judging.{Row, row}
use Rattle.recipe.specs.Records.{Recipe, places, is_element, is_port, is_submodel, is_factors, is_owned, is_pointer, first_field, parent_field, reference_field, model_field, submodel_offset, submodel_field, way, target_field, time_field, extent_field}
use Rattle.recipe.specs.Definitions.{holder, element_named, submodel_named, definition_named, element_in, scaled_by}
use Rattle.recipe.specs.declared.Kind.{Kind}
use Rattle.recipe.specs.declared.Kind.TheVariants.{Element, Port}
use Rattle.recipe.specs.declared.Way.{Way}
use Rattle.recipe.specs.declared.Way.TheVariants.{ByElement, ByPort}
use Rattle.recipe.specs.Reading.{is_undeclared, fault₄, fault₅}
use Rattle.shadow.specs.Shadow.{Cell}
use Rattle.shadow.specs.Columns.{Numbered}
use Rattle.links.specs.declared.Links.{Links}

-- rows 4 and 5, which look at what the records name
abbrev pub declared_rows : Recipe → List Row
declared_rows s = row Repeated (fault₄ s) ∷ row Undeclared (fault₅ s) ∷ []

-- a field at q that may be blank
abbrev pub OptionalAt : Recipe → ℕ → Type 0
OptionalAt s q = (q + s.width ≤ length s.bytes) × (is_name_or_blank (field_at s.width s.bytes q) ≡ true)

-- a port or mark that names a submodel
unfoldable pub is_pointing : Recipe → ℕ → Bool
is_pointing s p = is_pointer s p && not (is_blank (submodel_field s p))

-- a port or deletion that does, by the field at q
pub record Unowned (s : Recipe) (p q : ℕ) : Type 0 where
  pub pointing : is_pointing s p ≡ true
  pub unowned : is_owned s p ≡ false
  pub begins : q ≡ p + 1 + submodel_offset s p

-- the kind of the record that a way names
abbrev pub way_kind : Way → Kind
way_kind (ByElement q) = Element
way_kind (ByPort q) = Port

-- what the record at p names, for cell 3: an element its parent, a mark its owner, a submodel its model, a kind 8 the time factor
unfoldable pub upper : Recipe → ℕ → Option ℕ
upper s p =
    cond (is_element s p) (element_in s p (parent_field s p))
    (cond (is_owned s p) (element_named s (holder s p) (text (first_field s p)))
    (cond (is_submodel s p) (definition_named s (text (model_field s p)))
    (cond (is_factors s p) (element_in s p (time_field s p)) None)))

-- for cell 4: an element its reference, a port or mark its submodel, if that is filled; a kind 8 the submodel
unfoldable pub lower : Recipe → ℕ → Option ℕ
lower s p =
    cond (is_element s p) (element_in s p (reference_field s p))
    (cond (is_pointing s p) (submodel_named s (holder s p) (text (submodel_field s p)))
    (cond (is_factors s p) (scaled_by s p) None))

-- for cell 5: a port with a blank submodel the element; a kind 8 the extent factor
unfoldable pub own : Recipe → ℕ → Option ℕ
own s p =
    cond (is_port s p && is_blank (submodel_field s p) && eqb (way s p) 0) (element_named s (holder s p) (text (target_field s p)))
    (cond (is_factors s p) (element_in s p (extent_field s p)) None)

-- what the cells 3 to 5 have: 0 where nothing is named
abbrev pub upper_of : Recipe → ℕ → ℕ
upper_of s p = unwrap_or (upper s p) 0

abbrev pub lower_of : Recipe → ℕ → ℕ
lower_of s p = unwrap_or (lower s p) 0

abbrev pub own_of : Recipe → ℕ → ℕ
own_of s p = unwrap_or (own s p) 0

-- what a record names, cell by cell
abbrev pub links : Option ℕ → Option ℕ → Option ℕ → Links
links x y z = record { upper = x; lower = y; own = z }

-- what the record at p names, none where row 5 refuses it
unfoldable pub links_of : Recipe → ℕ → Option Links
links_of s p = cond (is_undeclared s p) None (Some (links (upper s p) (lower s p) (own s p)))

-- the cells 3 and 4 of each record, of a recipe that rows 1 to 5 do not refuse
pub record Pointed (s : Recipe) (t : List ℕ) : Type 0 where
  pub numbered : Numbered s t
  pub declared : fault₅ s ≡ None
  pub uppers : Cell (places s) 3 (upper_of s) t
  pub lowers : Cell (places s) 4 (lower_of s) t
