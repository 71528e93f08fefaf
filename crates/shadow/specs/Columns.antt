-- Which cell of which record means what. A pass fills its cells and keeps those of the passes before it:
--
--      cell              of                   has                                              filled by
--   0  definition_of     each record          its definition                                   number_records
--   1  element_order     an element           how many of its definition come before it        number_records
--   2  element_count     a model              how many elements it has                         number_records
--   3  parent, owner,    an element, a mark   the element that its parent, or owner, names     link_records
--      model             a submodel           its model's definition                           link_records
--      time_factor       a kind 8             the element that its time factor names           link_records
--   4  reference         an element           the element that its reference names             link_records
--      submodel          a port or mark       the submodel that it names, 0 for a blank        link_records
--      submodel          a kind 8             the submodel that it names, 0 for none           link_records
--   5  named_record      a port or mark       the element or port that it names, 0 for none    name_targets
--      extent_factor     a kind 8             the element that its extent factor names         link_records
--      factors           a submodel           its kind 8, 0 for none                           pair_factors
--   6  height            a model              a number that falls along its submodels          find_heights
--   7  element_offset    a submodel           the elements of its instance before its subtree  plant
--   8  first_instance    a model              one more than its first instance's number        thread_instances
--   9  target_number     a port or mark       its target's number, from its instance's first   first_untargeted
--  10  target            a port or mark       its target's record                              first_untargeted
--
-- Assumes nothing.
use Rattle.std.specs.Prelude.{ℕ, ◌+◌, ◌≤◌, ◌<◌, ◌≡◌, true, false, List, [], ◌∷◌, length, get_or, eqb, None, unwrap_or}
use Rattle.names.specs.Lists.{In}
use Rattle.names.specs.Names.{is_blank}
use Rattle.recipe.specs.Records.{Recipe, places, is_element, is_submodel, is_factors, is_owned, is_pointer, parent_field, reference_field, submodel_field, time_field, extent_field}
use Rattle.recipe.specs.Definitions.{definitions, holder, elements, submodels, model_of, owner_of, element_in, submodel_of, named_by, scaled_by, factors_of}
use Rattle.recipe.specs.Reading.{fault₃, fault₄, fault₅, fault₁₉, fault₆}
use Rattle.shadow.specs.Shadow.{Shadowed, Cell}

-- f of each before a, added
abbrev pub up_to : (ℕ → ℕ) → ℕ → List ℕ → ℕ
up_to f a [] = 0
up_to f a (x ∷ xs) = elim (eqb x a) [ true ↦ 0 | false ↦ f x + up_to f a xs ]

-- an element's number within its definition
unfoldable pub order : Recipe → ℕ → ℕ → ℕ
order s d e = up_to (λ k. 1) e (elements s d)

-- the cells 0 to 2: each record's definition, each element's number in it, and how many elements a definition has
pub record Numbered (s : Recipe) (t : List ℕ) : Type 0 where
  pub shadowed : Shadowed s t
  pub held : Cell (places s) 0 (holder s) t
  pub orders : (e : ℕ) → In e (places s) → is_element s e ≡ true → get_or t (e + 1) 0 ≡ order s (holder s e) e
  pub counts : Cell (definitions s) 2 (λ d. length (elements s d)) t

-- the cells 3 to 5 besides, of a recipe that rows 1 to 5 do not refuse: what its records name; nothing is said of cell 5 of a submodel
pub record Linked (s : Recipe) (t : List ℕ) : Type 0 where
  pub numbered : Numbered s t
  pub row₃ : fault₃ s ≡ None
  pub row₄ : fault₄ s ≡ None
  pub row₅ : fault₅ s ≡ None
  pub parents : (e : ℕ) → In e (places s) → is_element s e ≡ true → get_or t (e + 3) 0 ≡ unwrap_or (element_in s e (parent_field s e)) 0
  pub owners : (r : ℕ) → In r (places s) → is_owned s r ≡ true → get_or t (r + 3) 0 ≡ owner_of s r
  pub models : (m : ℕ) → In m (places s) → is_submodel s m ≡ true → get_or t (m + 3) 0 ≡ model_of s m
  pub references : (e : ℕ) → In e (places s) → is_element s e ≡ true → get_or t (e + 4) 0 ≡ unwrap_or (element_in s e (reference_field s e)) 0
  pub named-submodels : (r : ℕ) → In r (places s) → is_pointer s r ≡ true → is_blank (submodel_field s r) ≡ false → get_or t (r + 4) 0 ≡ submodel_of s r
  pub no-submodels : (r : ℕ) → In r (places s) → is_pointer s r ≡ true → is_blank (submodel_field s r) ≡ true → get_or t (r + 4) 0 ≡ 0
  pub named-records : (r : ℕ) → In r (places s) → is_pointer s r ≡ true → get_or t (r + 5) 0 ≡ unwrap_or (named_by s r) 0
  pub times : (f : ℕ) → In f (places s) → is_factors s f ≡ true → get_or t (f + 3) 0 ≡ unwrap_or (element_in s f (time_field s f)) 0
  pub scaled : (f : ℕ) → In f (places s) → is_factors s f ≡ true → get_or t (f + 4) 0 ≡ unwrap_or (scaled_by s f) 0
  pub extents : (f : ℕ) → In f (places s) → is_factors s f ≡ true → get_or t (f + 5) 0 ≡ unwrap_or (element_in s f (extent_field s f)) 0

-- cell 5 of each submodel, before its kind 8 is known
abbrev pub Unpaired : Recipe → List ℕ → Type 0
Unpaired s t = (m : ℕ) → In m (places s) → is_submodel s m ≡ true → get_or t (m + 5) 0 ≡ 0

-- and once it is known, where row 19 does not apply either
pub record Paired (s : Recipe) (t : List ℕ) : Type 0 where
  pub row₁₉ : fault₁₉ s ≡ None
  pub factors : (m : ℕ) → In m (places s) → is_submodel s m ≡ true → get_or t (m + 5) 0 ≡ unwrap_or (factors_of s m) 0

-- cell 6: each definition's height is 1 at least, and greater than that of each of its submodels' models
pub record Heights (s : Recipe) (t : List ℕ) : Type 0 where
  pub some : (d : ℕ) → In d (definitions s) → 1 ≤ get_or t (d + 6) 0
  pub falls : (d m : ℕ) → In m (submodels s d) → get_or t (model_of s m + 6) 0 < get_or t (d + 6) 0

-- cell 6 besides, where row 6 does not apply either
pub record Measured (s : Recipe) (t : List ℕ) : Type 0 where
  pub linked : Linked s t
  pub paired : Paired s t
  pub row₆ : fault₆ s ≡ None
  pub heights : Heights s t
