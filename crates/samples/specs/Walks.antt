-- Names walked back, each with the answer that 02's Paper 1 states, in one list. The harness reads them from this file. The name width is 12.
-- Assumes nothing.
use Rattle.std.specs.Prelude.{ℕ, ◌-◌, Bool, ◌&&◌, List, [], ◌∷◌, ◌++◌, length, replicate, eqb}
use Prim.Native.String.{String}
use Rattle.names.specs.Lists.{every, same, padded}
use Rattle.flat_table.specs.Table.{flat_width}
use Rattle.recipe.specs.Records.{Recipe}
use Rattle.composer.specs.Verdicts.{name_width, recipe_of}
use Rattle.composer.specs.Printed.{characters}
use Rattle.origins.specs.declared.Origin.{Origin}
use Rattle.origins.specs.Origins.{walk_back}
use Rattle.samples.specs.Samples.{a_of_cell, c1, c_for_v, deletion, element, line5, sample, sample_r}

-- "a 68-byte name"
unfoldable pub flat_name_field : String → List ℕ
flat_name_field n = padded (flat_width name_width) (characters n)

-- a recipe, a name, and the answer
pub record WalkSample : Type 0 where
  pub recipe : Recipe
  pub name : List ℕ
  pub answer : Origin

-- the name is walked back along the path to the element at e
unfoldable pub walked : List ℕ → List ℕ → List ℕ → ℕ → WalkSample
walked s f path e =
    record { recipe = recipe_of s; name = f; answer = record { number = 0; place = 0; depth = length path; submodel = path ++ replicate (4 - length path) 0; element = e } }

-- it is refused with number n at place p: "on a refusal depth and all offsets are" 0
unfoldable pub unwalked : List ℕ → List ℕ → ℕ → ℕ → WalkSample
unwalked s f n p = record { recipe = recipe_of s; name = f; answer = record { number = n; place = p; depth = 0; submodel = 0 ∷ 0 ∷ 0 ∷ 0 ∷ []; element = 0 } }

-- R with a parameter a__s in top, so that the prefix of a is a___
unfoldable pub lengthened : List ℕ
lengthened = sample c1 a_of_cell (c_for_v ++ element "a__s" 3 "" "")

-- "Five definitions in a line", with a parameter in the last
unfoldable pub deepest : List ℕ
deepest = line5 ++ element "k" 3 "" ""

unfoldable pub walks : List WalkSample
walks =
    -- "the depth, the offsets of the submodel records from main downward, and the element record's offset"
    walked sample_r (flat_name_field "a__s") (51 ∷ []) 165
    -- an element of main; "Unused offsets are 0"
    ∷ walked sample_r (flat_name_field "c") [] 13
    -- at depth 4 none is unused
    ∷ walked deepest (flat_name_field "x__x__x__x__k") (13 ∷ 51 ∷ 89 ∷ 127 ∷ []) 165
    -- no splitting at underscores: the prefix has three, and the name of main's parameter holds two
    ∷ walked lengthened (flat_name_field "a___s") (51 ∷ []) 203
    ∷ walked lengthened (flat_name_field "a__s") [] 114
    -- 18, "the name belongs to no survivor": v is gone
    ∷ unwalked sample_r (flat_name_field "a__v") 18 0
    -- one underscore more, and one fewer
    ∷ unwalked sample_r (flat_name_field "a___s") 18 0
    ∷ unwalked sample_r (flat_name_field "a_s") 18 0
    -- the element's own name is not enough, nor a name that begins with the flat name
    ∷ unwalked sample_r (flat_name_field "s") 18 0
    ∷ unwalked sample_r (flat_name_field "a__sx") 18 0
    -- "as is a name slice of another length": 67 bytes, and 69
    ∷ unwalked sample_r (padded 67 (characters "a__s")) 18 0
    ∷ unwalked sample_r (padded 69 (characters "a__s")) 18 0
    -- a blank
    ∷ unwalked sample_r (flat_name_field "") 18 0
    -- a byte behind the first zero
    ∷ unwalked sample_r (padded 67 (characters "a__s") ++ 115 ∷ []) 18 0
    -- 18 is "judged after 12", also of an empty name
    ∷ unwalked (sample c1 a_of_cell (deletion "a" 0 "v")) [] 12 153
    ∷ unwalked [] (flat_name_field "c") 1 0
    ∷ []

-- walking back answers so
unfoldable pub walk_holds_of : WalkSample → Bool
walk_holds_of c =
    eqb (walk_back c.recipe c.name).number c.answer.number
    && eqb (walk_back c.recipe c.name).place c.answer.place
    && eqb (walk_back c.recipe c.name).depth c.answer.depth
    && same (walk_back c.recipe c.name).submodel c.answer.submodel
    && eqb (walk_back c.recipe c.name).element c.answer.element

unfoldable pub walks_hold : Bool
walks_hold = every walk_holds_of walks
