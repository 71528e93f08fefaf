-- 01's "Verdicts", rows 9, 11 and 12, and Paper 2's row 20, that speak of main's tree alone: of each row the lowest place where it applies, if any.
-- Assumes nothing.
use Rattle.names.specs.declared.Reason.TheVariants.{Conflicting, Misclassed, Lost, Misreferred, Misfactored}
use Rattle.std.specs.Prelude.{ℕ, Bool, cond, not, ◌&&◌, ◌||◌, List, [], ◌∷◌, ltb, eqb, None, Option, Some, option_map}
use Rattle.names.specs.Lists.{any, first, holds}
use Rattle.names.specs.Names.{is_blank}
use Rattle.names.specs.Judging.{Row, row}
use Rattle.flat_table.specs.Classes.{reference_allowed}
use Rattle.recipe.specs.Records.{Recipe, is_replaced_by, is_factors, places, class, reference_field, time_field, extent_field}
use Rattle.recipe.specs.Definitions.{element_in}
use Rattle.tree.specs.Tree.{Node, node, nodes, reference_of}
use Rattle.tree.specs.Faults.{fault₁₀}
use Rattle.marks.specs.Marks.{tree_pointers, aim, is_gone, survivors, chain_end, conflict}

-- row 9: "conflict with an earlier record", somewhere in the tree, of the record at p
unfoldable pub conflicts_with_earlier : Recipe → ℕ → Bool
conflicts_with_earlier s p =
    any (λ r. eqb r.place p && any (λ q. ltb q.place p && conflict s q r) (tree_pointers s)) (tree_pointers s)

-- row 9: "conflict with an earlier record", at the later
unfoldable pub fault₉ : Recipe → Option ℕ
fault₉ s = first (conflicts_with_earlier s) (places s)

-- row 11, of the record at p: "target is gone, in the tree", of a kind 7
unfoldable pub aims_at_gone : Recipe → ℕ → Bool
aims_at_gone s p = any (λ r. eqb r.place p && holds (is_gone s) (aim s r)) (nodes s (is_replaced_by s))

-- row 11: "target is gone, in the tree"
unfoldable pub fault₁₁ : Recipe → Option ℕ
fault₁₁ s = first (aims_at_gone s) (places s)

-- row 12, "its chain ends at a gone element or a wrong class": the end z does for the survivor x
unfoldable pub is_reference : Recipe → Node → Node → Bool
is_reference s x z = not (is_gone s z) && reference_allowed (class s x.place) (Some (class s z.place))

-- row 12: "a survivor's reference is blank or filled against its class, names no element of its definition, or its chain ends .."
unfoldable pub is_reference_fault : Recipe → Node → Bool
is_reference_fault s x =
    cond (is_blank (reference_field s x.place))
    (not (reference_allowed (class s x.place) None))
    (not (holds (λ y. is_reference s x (chain_end s y)) (reference_of s x)))

-- row 12, at the element record of such a survivor
unfoldable pub fault₁₂ : Recipe → Option ℕ
fault₁₂ s = first (λ p. any (λ x. eqb x.place p && is_reference_fault s x) (survivors s)) (places s)

-- Paper 2, "Factors follow the chain as references do": the element that the factor field f of the kind 8 x names, in its own instance; none for a blank
unfoldable pub factor_named : Recipe → Node → List ℕ → Option Node
factor_named s x f = option_map (node x.path) (element_in s x.place f)

-- row 20, "ends gone or is no class 3": the end z does for a factor
unfoldable pub is_factor : Recipe → Node → Bool
is_factor s z = not (is_gone s z) && eqb (class s z.place) 3

-- row 20, of the factor field f of the kind 8 x: "undeclared, ends gone or is no class 3"
unfoldable pub is_factor_fault : Recipe → Node → List ℕ → Bool
is_factor_fault s x f = not (is_blank f) && not (holds (λ y. is_factor s (chain_end s y)) (factor_named s x f))

-- row 20, of both factors of the kind 8 x
unfoldable pub has_factor_fault : Recipe → Node → Bool
has_factor_fault s x = is_factor_fault s x (time_field s x.place) || is_factor_fault s x (extent_field s x.place)

-- row 20, of the record at p: a kind 8 in some instance of the tree
unfoldable pub is_unfactored : Recipe → ℕ → Bool
is_unfactored s p = any (λ x. eqb x.place p && has_factor_fault s x) (nodes s (is_factors s))

-- row 20: "a factor in the tree is undeclared, ends gone or is no class 3"
unfoldable pub fault₂₀ : Recipe → Option ℕ
fault₂₀ s = first (is_unfactored s) (places s)

-- rows 9 to 11 in the order of judging, which look at the marks
abbrev pub mark_rows : Recipe → List Row
mark_rows s = row Conflicting (fault₉ s) ∷ row Misclassed (fault₁₀ s) ∷ row Lost (fault₁₁ s) ∷ []

-- and rows 12 and 20, which look at references and factors
abbrev pub reference_rows : Recipe → List Row
reference_rows s = row Misreferred (fault₁₂ s) ∷ row Misfactored (fault₂₀ s) ∷ []
