-- Definitions, and what is looked up in one by its name. A definition is named by the place of its kind 1 record.
-- Assumes nothing.
use Rattle.std.specs.Prelude.{ℕ, Bool, true, false, cond, not, ◌&&◌, ◌||◌, List, leb, eqb, None, Option, unwrap_or}
use Rattle.names.specs.Lists.{keep, first, last_or, same}
use Rattle.names.specs.Names.{text, is_blank}
use Rattle.recipe.specs.Records.{Recipe, places, is_model, is_element, is_port, is_submodel, is_factors, name, model_field, first_field, submodel_field, way, target_field}

-- "The first definition is main"
unfoldable pub main : ℕ
main = 0

-- the definitions, in record order
unfoldable pub definitions : Recipe → List ℕ
definitions s = keep (is_model s) (places s)

-- the definition that holds the record at p: the last kind 1 at or before it
unfoldable pub holder : Recipe → ℕ → ℕ
holder s p = last_or main (keep (λ d. leb d p) (definitions s))

-- "Records after a kind 1, up to the next, form its definition"
unfoldable pub records_of : Recipe → ℕ → List ℕ
records_of s d = keep (λ p. not (is_model s p) && eqb (holder s p) d) (places s)

-- the elements of definition d, in record order
unfoldable pub elements : Recipe → ℕ → List ℕ
elements s d = keep (is_element s) (records_of s d)

-- its submodels
unfoldable pub submodels : Recipe → ℕ → List ℕ
submodels s d = keep (is_submodel s) (records_of s d)

-- its ports
unfoldable pub ports : Recipe → ℕ → List ℕ
ports s d = keep (is_port s) (records_of s d)

-- "an element or submodel declared": the records that share the names of their definition
unfoldable pub is_declared : Recipe → ℕ → Bool
is_declared s p = is_element s p || is_submodel s p

-- the record among ps whose name is n
unfoldable pub named : Recipe → List ℕ → List ℕ → Option ℕ
named s n ps = first (λ p. same (name s p) n) ps

-- the definition of the model named n
unfoldable pub definition_named : Recipe → List ℕ → Option ℕ
definition_named s n = named s n (definitions s)

-- the element named n of definition d
unfoldable pub element_named : Recipe → ℕ → List ℕ → Option ℕ
element_named s d n = named s n (elements s d)

-- the submodel named n of definition d
unfoldable pub submodel_named : Recipe → ℕ → List ℕ → Option ℕ
submodel_named s d n = named s n (submodels s d)

-- the port named n of definition d
unfoldable pub port_named : Recipe → ℕ → List ℕ → Option ℕ
port_named s d n = named s n (ports s d)

-- "submodel's model": its definition (main where there is none, which row 5 refuses)
unfoldable pub model_of : Recipe → ℕ → ℕ
model_of s m = unwrap_or (definition_named s (text (model_field s m))) main

-- the owner of a mark of kind 6 or 7 (main's place where there is none, which row 5 refuses)
unfoldable pub owner_of : Recipe → ℕ → ℕ
owner_of s r = unwrap_or (element_named s (holder s r) (text (first_field s r))) main

-- the element that a parent or reference field f of the element e, or a factor field f of the kind 8 e, names, if it is filled
unfoldable pub element_in : Recipe → ℕ → List ℕ → Option ℕ
element_in s e f = elim (is_blank f) [ true ↦ None | false ↦ element_named s (holder s e) (text f) ]

-- the submodel that a port or mark names (0 where there is none, which row 5 refuses)
unfoldable pub submodel_of : Recipe → ℕ → ℕ
submodel_of s r = unwrap_or (submodel_named s (holder s r) (text (submodel_field s r))) 0

-- "names its target by element name or by port name": the record that the port or mark at r names, an element or a port
unfoldable pub named_by : Recipe → ℕ → Option ℕ
named_by s r =
    cond (is_blank (submodel_field s r))
    (element_named s (holder s r) (text (target_field s r)))
    (cond (eqb (way s r) 0)
    (element_named s (model_of s (submodel_of s r)) (text (target_field s r)))
    (port_named s (model_of s (submodel_of s r)) (text (target_field s r))))

-- Paper 2: the submodel that the kind 8 at f names, if its definition has it
unfoldable pub scaled_by : Recipe → ℕ → Option ℕ
scaled_by s f = submodel_named s (holder s f) (text (first_field s f))

-- the record at f is a kind 8 of the definition of the submodel m, and names it
unfoldable pub scales : Recipe → ℕ → ℕ → Bool
scales s m f = is_factors s f && eqb (holder s f) (holder s m) && same (text (first_field s f)) (name s m)

-- the kind 8 that gives the submodel m its factors, if there is one
unfoldable pub factors_of : Recipe → ℕ → Option ℕ
factors_of s m = first (scales s m) (places s)
