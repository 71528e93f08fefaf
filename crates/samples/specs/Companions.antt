-- Recipes flattened with factors, each with the answer and both tables that 02's Paper 2 states, in one list. The harness reads them from this file. The name width is 12.
-- Assumes nothing.
use Rattle.std.specs.Prelude.{ℕ, ◌-◌, Bool, ◌&&◌, List, [], ◌∷◌, ◌++◌, length, eqb}
use Prim.Native.String.{String}
use Rattle.names.specs.Lists.{every, same}
use Rattle.recipe.specs.Records.{Recipe}
use Rattle.composer.specs.Verdicts.{name_width, recipe_of}
use Rattle.factors.specs.declared.FactorsAnswer.{FactorsAnswer}
use Rattle.factors.specs.Companion.{companion_after, entry_length, factors_verdict, table_after}
use Rattle.samples.specs.Samples.{deletion, element, model, name_field, output_before, replacement, row, submodel}
use Rattle.samples.specs.Walks.{flat_name_field}

-- "Kind 8 holds submodel, time factor or blank, extent factor or blank"
unfoldable pub factors : String → String → String → List ℕ
factors m time extent = 8 ∷ name_field m ++ name_field time ++ name_field extent

-- "kind 8, its flat name, four time fields and four extent fields": those for the submodels at depth 1 and 2, and blanks
unfoldable pub entry : String → String → String → String → String → List ℕ
entry n t₁ t₂ e₁ e₂ =
    8 ∷ flat_name_field n
    ++ (flat_name_field t₁ ++ flat_name_field t₂ ++ flat_name_field "" ++ flat_name_field "")
    ++ (flat_name_field e₁ ++ flat_name_field e₂ ++ flat_name_field "" ++ flat_name_field "")

-- a recipe, the lengths of both outputs, the answer, the flat table and the companion (nothing on a refusal)
pub record CompanionSample : Type 0 where
  pub recipe : Recipe
  pub room : ℕ
  pub companion_room : ℕ
  pub answer : FactorsAnswer
  pub table : List ℕ
  pub companion : List ℕ

-- the recipe gives n records, the table t, and k entries, the companion c
unfoldable pub entered : List ℕ → ℕ → ℕ → ℕ → List ℕ → ℕ → List ℕ → CompanionSample
entered s room companion_room n t k c =
    record { recipe = recipe_of s; room = room; companion_room = companion_room; answer = record { number = 0; place = 0; count = n; bytes = length t; entries = k }; table = t; companion = c }

-- the recipe is refused with number n at place p
unfoldable pub unentered : List ℕ → ℕ → ℕ → ℕ → ℕ → CompanionSample
unentered s room companion_room n p =
    record { recipe = recipe_of s; room = room; companion_room = companion_room; answer = record { number = n; place = p; count = 0; bytes = 0; entries = 0 }; table = []; companion = [] }

-- a parameter
unfoldable pub parameter : String → List ℕ
parameter n = element n 3 "" ""

-- main with a parameter f, inside it a definition with a parameter g, and inside that one with a reaction r; some records of the first two
unfoldable pub levels : List ℕ → List ℕ → List ℕ
levels upper lower =
    model "t" ++ parameter "f" ++ submodel "a" "m" ++ upper ++ (model "m" ++ parameter "g" ++ submodel "b" "n" ++ lower) ++ (model "n" ++ element "r" 4 "" "")

-- main with some records, and an empty definition
unfoldable pub around : List ℕ → List ℕ
around records = model "t" ++ submodel "a" "m" ++ records ++ model "m"

-- those that are accepted
unfoldable pub more_entered : List CompanionSample
more_entered =
    -- factors on two levels, "field i for the submodel at depth i"
    entered (levels (factors "a" "f" "") (factors "b" "" "g")) 615 613 3 (row 3 "f" "" "" ++ row 3 "a__g" "" "" ++ row 4 "a__b__r" "" "") 1 (entry "a__b__r" "f" "" "" "a__g")
    -- "Factors follow the chain": g is replaced by f one level up, so that both fields show f
    ∷ entered (levels (replacement "f" "a" 0 "g" ++ factors "a" "f" "") (factors "b" "g" "")) 410 613 2 (row 3 "f" "" "" ++ row 4 "a__b__r" "" "") 1 (entry "a__b__r" "f" "f" "" "")
    -- "every surviving class 4 and 6 in tree order"; an element of main has eight blanks
    ∷ entered (model "t" ++ parameter "f" ++ element "w" 6 "" "f" ++ submodel "a" "m" ++ factors "a" "f" "f" ++ (model "m" ++ parameter "f" ++ element "w" 6 "" "f")) 820 1226 4
    (row 3 "f" "" "" ++ row 6 "w" "" "f" ++ row 3 "a__f" "" "" ++ row 6 "a__w" "" "a__f") 2 (entry "w" "" "" "" "" ++ entry "a__w" "f" "" "f" "")
    -- both factors blank
    ∷ entered (model "t" ++ submodel "a" "m" ++ factors "a" "" "" ++ (model "m" ++ element "r" 4 "" "")) 205 613 1 (row 4 "a__r" "" "") 1 (entry "a__r" "" "" "" "")
    -- kind 8 may stand before its submodel
    ∷ entered (model "t" ++ factors "a" "" "" ++ submodel "a" "m" ++ (model "m" ++ element "r" 4 "" "")) 205 613 1 (row 4 "a__r" "" "") 1 (entry "a__r" "" "" "" "")
    -- "every surviving": a reaction that is gone has no entry
    ∷ entered (model "t" ++ submodel "a" "m" ++ deletion "a" 0 "r" ++ (model "m" ++ element "r" 4 "" "")) 0 0 0 [] 0 []
    -- 20 is "in the tree": not in a definition that main does not use
    ∷ entered (model "t" ++ (model "u" ++ submodel "a" "m" ++ factors "a" "x" "") ++ model "m") 0 0 0 [] 0 []
    -- no entries need no companion
    ∷ entered (model "t" ++ parameter "f") 205 0 1 (row 3 "f" "" "") 0 []
    -- "613 × entries" suffice, and one byte more is left as it was
    ∷ entered (model "t" ++ element "r" 4 "" "") 205 614 1 (row 4 "r" "" "") 1 (entry "r" "" "" "" "")
    ∷ []

-- and those that are refused
unfoldable pub more_unentered : List CompanionSample
more_unentered =
    -- 20, "ends gone": the factor is deleted one level up
    unentered (levels (deletion "a" 0 "g") (factors "b" "g" "")) 1000 1000 20 178
    -- "is no class 3"
    ∷ unentered (model "t" ++ element "r" 4 "" "" ++ submodel "a" "m" ++ factors "a" "" "r" ++ model "m") 1000 1000 20 76
    -- "undeclared": a submodel's name, and an element of the inner definition
    ∷ unentered (around (factors "a" "a" "")) 1000 1000 20 38
    ∷ unentered (around (factors "a" "g" "") ++ parameter "g") 1000 1000 20 38
    -- 19, "submodel undeclared (no 5 here)": by nothing, by an element, in a definition that main does not use
    ∷ unentered (model "t" ++ factors "a" "" "") 1000 1000 19 13
    ∷ unentered (model "t" ++ parameter "a" ++ factors "a" "" "") 1000 1000 19 51
    ∷ unentered (model "t" ++ (model "u" ++ factors "a" "" "")) 1000 1000 19 26
    -- "or given factors twice", "at the (later) kind 8 record", both blank
    ∷ unentered (around (factors "a" "" "" ++ factors "a" "" "")) 1000 1000 19 75
    -- 19 comes "after 5", and before 6
    ∷ unentered (model "t" ++ factors "b" "" "" ++ submodel "a" "m") 1000 1000 5 50
    ∷ unentered (model "t" ++ submodel "a" "t" ++ factors "b" "" "") 1000 1000 19 38
    -- 20 comes "after 12 and before 13"
    ∷ unentered (around (factors "a" "x" "" ++ element "s" 2 "" "")) 1000 1000 12 75
    ∷ unentered (levels (factors "a" "x" "") []) 0 0 20 76
    -- "A companion buffer below 613 × entries gives 13"; so does a table below 205
    ∷ unentered (model "t" ++ element "r" 4 "" "") 205 612 13 0
    ∷ unentered (model "t" ++ element "r" 4 "" "") 204 613 13 0
    -- 2: kind 8 as the first record; 3: its submodel is blank; a submodel's name that ends with an underscore is not 3
    ∷ unentered (factors "a" "" "") 1000 1000 2 0
    ∷ unentered (model "t" ++ factors "" "" "") 1000 1000 3 13
    ∷ unentered (model "t" ++ factors "a_" "" "") 1000 1000 19 13
    ∷ []

-- flattening with factors answers so, and writes both tables and nothing else
unfoldable pub companion_holds_of : CompanionSample → Bool
companion_holds_of c =
    eqb (factors_verdict c.recipe c.room c.companion_room).number c.answer.number
    && eqb (factors_verdict c.recipe c.room c.companion_room).place c.answer.place
    && eqb (factors_verdict c.recipe c.room c.companion_room).count c.answer.count
    && eqb (factors_verdict c.recipe c.room c.companion_room).bytes c.answer.bytes
    && eqb (factors_verdict c.recipe c.room c.companion_room).entries c.answer.entries
    && same (table_after c.recipe (output_before c.room) c.companion_room) (c.table ++ output_before (c.room - length c.table))
    && same (companion_after c.recipe c.room (output_before c.companion_room)) (c.companion ++ output_before (c.companion_room - length c.companion))

-- each of them, and "613"
unfoldable pub companions_hold : Bool
companions_hold = every companion_holds_of more_entered && every companion_holds_of more_unentered && eqb (entry_length name_width) 613
