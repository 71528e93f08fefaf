-- 01's "Verdicts", rows 1 to 6, and Paper 2's row 19, that judge a recipe without its tree: of each row the lowest place where it applies, if any.
-- Assumes nothing.
use Rattle.names.specs.declared.Reason.TheVariants.{BadLength, Unreadable, Unformed, Repeated, Undeclared, Cyclic, Misscaled}
use Rattle.std.specs.Prelude.{ℕ, Bool, true, false, cond, not, ◌&&◌, ◌||◌, List, [], ◌∷◌, ◌++◌, length, leb, ltb, eqb, None, Option, Some, is_some}
use Rattle.names.specs.Lists.{any, first, holds, last_or, same}
use Rattle.names.specs.Names.{underscore, text, is_name, is_name_or_blank, is_blank}
use Rattle.names.specs.Judging.{Row, row}
use Rattle.flat_table.specs.Classes.{is_class, parent_allowed}
use Rattle.recipe.specs.Records.{Recipe, Part, a_name, a_submodel_name, a_name_or_blank, a_class, a_way, body_of, bytes_of, kind, is_model, is_element, is_port, is_submodel, is_replaced_by, is_owned, is_mark, is_factors, places, stop, field, byte, first_field, name, class, parent_field, model_field, submodel_field, way, target_field}
use Rattle.recipe.specs.Definitions.{definitions, holder, is_declared, element_named, submodel_named, definition_named, element_in, scaled_by}
use Rattle.recipe.specs.Reaching.{reaches}

-- column "Place", 0: there if the test passes
unfoldable pub at_start : Bool → Option ℕ
at_start b = cond b (Some 0) None

-- row 1, "over 16,384 bytes": the most bytes of a recipe
unfoldable pub most_bytes : ℕ
most_bytes = 16384

-- row 1: "empty, or over 16,384 bytes"
unfoldable pub fault₁ : Recipe → Option ℕ
fault₁ s = at_start (eqb (length s.bytes) 0 || ltb most_bytes (length s.bytes))

-- row 2: "kind unknown, body cut short, or first record not kind 1"; "2 stops at its own record"
unfoldable pub fault₂ : Recipe → Option ℕ
fault₂ s = cond (ltb (stop s) (length s.bytes)) (Some (stop s)) None

-- "A submodel's name may not end with an underscore"
unfoldable pub ends_with_underscore : List ℕ → Bool
ends_with_underscore n = eqb (last_or 0 n) underscore

-- "The way byte is 0 .. or 1"
unfoldable pub is_way : ℕ → Bool
is_way w = leb w 1

-- the part that begins k bytes into the body of the record at p reads as it must
unfoldable pub reads : Recipe → ℕ → ℕ → Part → Bool
reads s p k a_name = is_name (field s p k)
reads s p k a_submodel_name = is_name (field s p k) && not (ends_with_underscore (text (field s p k)))
reads s p k a_name_or_blank = is_name_or_blank (field s p k)
reads s p k a_class = is_class (byte s p k)
reads s p k a_way = is_way (byte s p k)

-- each of some parts does that stand behind others
unfoldable pub reads_behind : Recipe → ℕ → List Part → List Part → Bool
reads_behind s p before [] = true
reads_behind s p before (x ∷ xs) = reads s p (bytes_of s.width before) x && reads_behind s p (before ++ (x ∷ [])) xs

-- the body of the record at p reads as its kind has it
unfoldable pub is_form : Recipe → ℕ → Bool
is_form s p = reads_behind s p [] (body_of (kind s p))

-- row 3: "a field that fails to read as a name, or is blank where no blank is allowed; way or class byte without meaning; a kind 4 whose own name ends with an underscore"
unfoldable pub fault₃ : Recipe → Option ℕ
fault₃ s = first (λ p. not (is_form s p)) (places s)

-- row 4: two records of one definition that must not have one name (or, replaced-by's, one owner)
unfoldable pub share_names : Recipe → ℕ → ℕ → Bool
share_names s q p =
    (is_declared s q && is_declared s p) || (is_port s q && is_port s p) || (is_replaced_by s q && is_replaced_by s p)

-- row 4: the record at p has the name of the earlier one at q, and must not
unfoldable pub repeats : Recipe → ℕ → ℕ → Bool
repeats s p q =
    ltb q p
    && same (name s q) (name s p)
    && ((is_model s q && is_model s p) || (eqb (holder s q) (holder s p) && share_names s q p))

-- row 4: "model name used twice; element or submodel name twice in a definition; port name twice in one; a definition's second replaced-by with one owner"
unfoldable pub fault₄ : Recipe → Option ℕ
fault₄ s = first (λ p. any (repeats s p) (places s)) (places s)

-- row 5: the element at q, by its class and place, may be the parent of the one at e
unfoldable pub is_parent : Recipe → ℕ → ℕ → Bool
is_parent s e q = ltb q e && parent_allowed (class s e) (Some (class s q))

-- row 5: "parent against the class table or not an earlier element of the definition"
unfoldable pub is_parent_fault : Recipe → ℕ → Bool
is_parent_fault s e =
    cond (is_blank (parent_field s e))
    (not (parent_allowed (class s e) None))
    (not (holds (is_parent s e) (element_in s e (parent_field s e))))

-- row 5: "blank-submodel port with way 1 or unknown element"
unfoldable pub is_own_port_fault : Recipe → ℕ → Bool
is_own_port_fault s p = eqb (way s p) 1 || not (is_some (element_named s (holder s p) (text (target_field s p))))

-- row 5: "submodel field no submodel .. of the definition"
unfoldable pub is_submodel_field_fault : Recipe → ℕ → Bool
is_submodel_field_fault s p = not (is_some (submodel_named s (holder s p) (text (submodel_field s p))))

-- row 5: "or owner no element, of the definition"; a deletion has none
unfoldable pub is_owner_fault : Recipe → ℕ → Bool
is_owner_fault s p = is_owned s p && not (is_some (element_named s (holder s p) (text (first_field s p))))

-- row 5: "submodel's model undefined"
unfoldable pub is_model_fault : Recipe → ℕ → Bool
is_model_fault s m = not (is_some (definition_named s (text (model_field s m))))

-- row 5, of a port: a blank submodel field, or a filled one
unfoldable pub is_port_fault : Recipe → ℕ → Bool
is_port_fault s p = cond (is_blank (submodel_field s p)) (is_own_port_fault s p) (is_submodel_field_fault s p)

-- row 5, by the kind of the record at p
unfoldable pub is_undeclared : Recipe → ℕ → Bool
is_undeclared s p =
    cond (is_model s p) false
    (cond (is_element s p) (is_parent_fault s p)
    (cond (is_port s p) (is_port_fault s p)
    (cond (is_submodel s p) (is_model_fault s p)
    (cond (is_mark s p) (is_submodel_field_fault s p || is_owner_fault s p) false))))

-- row 5: "submodel's model undefined; parent against the class table ..; submodel field no submodel, or owner no element, of the definition; blank-submodel port .."
unfoldable pub fault₅ : Recipe → Option ℕ
fault₅ s = first (is_undeclared s) (places s)

-- Paper 2, row 19: "given factors twice": the kind 8 at q is earlier than that at p, of the same definition, and names the same submodel
unfoldable pub gave_factors : Recipe → ℕ → ℕ → Bool
gave_factors s p q = is_factors s q && ltb q p && eqb (holder s q) (holder s p) && same (text (first_field s q)) (text (first_field s p))

-- row 19, of the record at p: "submodel undeclared (no 5 here) or given factors twice"
unfoldable pub is_factors_fault : Recipe → ℕ → Bool
is_factors_fault s p = is_factors s p && (not (is_some (scaled_by s p)) || any (gave_factors s p) (places s))

-- row 19, at the later kind 8
unfoldable pub fault₁₉ : Recipe → Option ℕ
fault₁₉ s = first (is_factors_fault s) (places s)

-- row 6: "definition reaches itself, used by main or not"
unfoldable pub fault₆ : Recipe → Option ℕ
fault₆ s = first (λ d. reaches s d d) (definitions s)

-- ---- the order of judging
-- rows 1 to 3, which look at each record alone
abbrev pub form_rows : Recipe → List Row
form_rows s = row BadLength (fault₁ s) ∷ row Unreadable (fault₂ s) ∷ row Unformed (fault₃ s) ∷ []

-- rows 4, 5, 19 and 6, which look at what the records name
abbrev pub naming_rows : Recipe → List Row
naming_rows s = row Repeated (fault₄ s) ∷ row Undeclared (fault₅ s) ∷ row Misscaled (fault₁₉ s) ∷ row Cyclic (fault₆ s) ∷ []
