-- 01's "Recipes to try", the starred ones: each recipe with the answer that 01 states, in one list; and more recipes and tables, each
-- with 01's words that it pins. The harness reads them from this file. The name width is 12. Assumes nothing.
use Rattle.std.specs.Prelude.{ℕ, ◌-◌, ◌*◌, Bool, ◌&&◌, List, [], ◌∷◌, ◌++◌, map, length, replicate, eqb}
use Prim.Native.String.{String}
use Rattle.names.specs.Lists.{every, same, padded}
use Rattle.flat_table.specs.Table.{most_rows, flat_width, flat_length, table_verdict}
use Rattle.flat_table.specs.declared.TableAnswer.{TableAnswer}
use Rattle.recipe.specs.Records.{Recipe, bodies, bytes_of}
use Rattle.flat_names.specs.Underscores.{tries}
use Rattle.composer.specs.declared.Answer.{Answer}
use Rattle.composer.specs.Verdicts.{name_width, recipe_of, refused, verdict, written}
use Rattle.composer.specs.Printed.{characters, program_output}

-- ---- recipes as one writes them down

-- a name field, or a blank for the empty text
unfoldable pub name_field : String → List ℕ
name_field n = padded name_width (characters n)

-- "1 model: name"
unfoldable pub model : String → List ℕ
model n = 1 ∷ name_field n

-- "2 element: name, class byte, parent or blank, reference or blank"
unfoldable pub element : String → ℕ → String → String → List ℕ
element n c parent reference = 2 ∷ name_field n ++ c ∷ name_field parent ++ name_field reference

-- "3 port: name, submodel or blank, way, target"
unfoldable pub port : String → String → ℕ → String → List ℕ
port n m w t = 3 ∷ name_field n ++ name_field m ++ w ∷ name_field t

-- "4 submodel: name, model"
unfoldable pub submodel : String → String → List ℕ
submodel n m = 4 ∷ name_field n ++ name_field m

-- "5 deletion: submodel, way, target"
unfoldable pub deletion : String → ℕ → String → List ℕ
deletion m w t = 5 ∷ name_field m ++ w ∷ name_field t

-- "6 replacement: owner, submodel, way, target"
unfoldable pub replacement : String → String → ℕ → String → List ℕ
replacement o m w t = 6 ∷ name_field o ++ name_field m ++ w ∷ name_field t

-- "7 replaced-by: owner, submodel, way, target"
unfoldable pub replaced_by : String → String → ℕ → String → List ℕ
replaced_by o m w t = 7 ∷ name_field o ++ name_field m ++ w ∷ name_field t

-- a flat record
unfoldable pub row : ℕ → String → String → String → List ℕ
row k n parent reference =
    k ∷ padded (flat_width name_width) (characters n) ++ padded (flat_width name_width) (characters parent) ++ padded (flat_width name_width) (characters reference)

-- ---- sample R, and changes to it

-- "114 model cell; 127 element v class 1; 165 element s class 2, reference v"
unfoldable pub cell : List ℕ
cell = model "cell" ++ element "v" 1 "" "" ++ element "s" 2 "" "v"

-- R with another element c, another submodel record and other marks
unfoldable pub sample : List ℕ → List ℕ → List ℕ → List ℕ
sample c a marks = model "top" ++ c ++ a ++ marks ++ cell

-- "13 element c class 1"
unfoldable pub c1 : List ℕ
c1 = element "c" 1 "" ""

-- "51 submodel a of cell"
unfoldable pub a_of_cell : List ℕ
a_of_cell = submodel "a" "cell"

-- "76 replacement, owner c, target v in a, way 0"
unfoldable pub c_for_v : List ℕ
c_for_v = replacement "c" "a" 0 "v"

-- "Sample R"
unfoldable pub sample_r : List ℕ
sample_r = sample c1 a_of_cell c_for_v

-- R's table
unfoldable pub table_r : List ℕ
table_r = row 1 "c" "" "" ++ row 2 "a__s" "" "c"

-- "Five definitions in a line"
unfoldable pub line5 : List ℕ
line5 =
    model "m1" ++ submodel "x" "m2" ++ (model "m2" ++ submodel "x" "m3") ++ (model "m3" ++ submodel "x" "m4")
    ++ (model "m4" ++ submodel "x" "m5")
    ++ model "m5"

-- "Six"
unfoldable pub line6 : List ℕ
line6 = line5 ++ submodel "x" "m6" ++ model "m6"

-- ---- the table of the starred recipes

-- a recipe, the length of the output, the answer, and the flat table (nothing on a refusal)
pub record Sample : Type 0 where
  pub recipe : Recipe
  pub room : ℕ
  pub answer : Answer
  pub table : List ℕ

-- the recipe is refused with number n at place p
unfoldable pub refuses : List ℕ → ℕ → ℕ → ℕ → Sample
refuses s room n p = record { recipe = recipe_of s; room = room; answer = refused n p; table = [] }

-- the recipe gives n records, the table t
unfoldable pub gives : List ℕ → ℕ → ℕ → List ℕ → Sample
gives s room n t =
    record { recipe = recipe_of s; room = room; answer = record { number = 0; place = 0; count = n; bytes = length t }; table = t }

-- "Starred ones are shown true of the definitions": those of recipes, in 01's order
unfoldable pub starred : List Sample
starred =
    refuses [] 820 1 0
    ∷ gives (model "top") 820 0 []
    ∷ gives sample_r 820 2 table_r
    ∷ refuses sample_r 409 13 0
    ∷ gives sample_r 410 2 table_r
    ∷ gives (sample c1 a_of_cell (c_for_v ++ element "a__s" 3 "" "")) 820 3 (row 1 "c" "" "" ++ row 3 "a__s" "" "" ++ row 2 "a___s" "" "c")
    ∷ refuses (sample (element "c" 3 "" "") a_of_cell c_for_v) 820 10 76
    ∷ refuses (sample c1 a_of_cell (deletion "a" 0 "v")) 820 12 153
    ∷ refuses (sample c1 a_of_cell (deletion "a" 0 "v" ++ deletion "a" 0 "v")) 820 9 102
    ∷ refuses (sample c1 (submodel "a_" "cell") c_for_v) 820 3 51
    ∷ refuses (model "m" ++ submodel "x" "m") 820 6 0
    ∷ gives line5 820 0 []
    ∷ refuses line6 820 7 0
    ∷ []

-- ---- more of the same kind

-- "Deleting a reaction and, by name, its species reference": a definition with a species, a reaction, its species reference and its local parameter
unfoldable pub reactor : List ℕ
reactor =
    model "reactor" ++ element "v" 1 "" "" ++ element "s" 2 "" "v" ++ element "r" 4 "" "" ++ element "t" 5 "r" "s" ++ element "k" 7 "r" ""

-- main with a reactor and the marks
unfoldable pub plant : List ℕ → List ℕ
plant marks = model "plant" ++ submodel "a" "reactor" ++ marks ++ reactor

-- a definition whose compartment e stands for that of the definition inside it
unfoldable pub shell : String → String → List ℕ
shell n inner = model n ++ element "e" 1 "" "" ++ submodel "x" inner ++ replacement "e" "x" 0 "e"

-- four steps up, from x__x__x__x__e to e, and one down, from e to y__f
unfoldable pub five_steps : List ℕ
five_steps =
    shell "m1" "m2" ++ submodel "y" "n" ++ replaced_by "e" "y" 0 "f"
    ++ shell "m2" "m3"
    ++ shell "m3" "m4"
    ++ shell "m4" "m5"
    ++ (model "m5" ++ element "e" 1 "" "" ++ element "s" 2 "" "e")
    ++ (model "n" ++ element "f" 1 "" "")

-- main with a compartment c, and inside it a definition with a compartment v; each with some records
unfoldable pub pair : List ℕ → List ℕ → List ℕ
pair upper lower = model "top" ++ c1 ++ submodel "a" "low" ++ upper ++ (model "low" ++ element "v" 1 "" "" ++ lower)

-- main with some records, a definition inside it with a port p and some records, and inside that one with a compartment v, which p names
unfoldable pub nested : List ℕ → List ℕ → List ℕ
nested upper lower =
    model "top" ++ submodel "a" "mid" ++ upper
    ++ (model "mid" ++ submodel "b" "low" ++ port "p" "b" 0 "v" ++ lower)
    ++ (model "low" ++ element "v" 1 "" "")

-- a port of main that leads to a second, and that to a third, which names a compartment v; some records in front of the second and of the third,
-- whose definition comes first in the recipe
unfoldable pub ports_down : List ℕ → List ℕ → List ℕ
ports_down second third =
    model "top" ++ submodel "a" "mid" ++ port "p" "a" 1 "p"
    ++ (model "low" ++ submodel "d" "deep" ++ third ++ port "p" "d" 0 "v")
    ++ (model "mid" ++ submodel "b" "low" ++ second ++ port "p" "b" 1 "p")
    ++ (model "deep" ++ element "v" 1 "" "")

-- a definition that main does not use, with some records, and one inside it
unfoldable pub beside : List ℕ → List ℕ
beside records = model "top" ++ (model "unused" ++ submodel "x" "low" ++ records) ++ (model "low" ++ element "v" 1 "" "")

-- 64 instances: main, 3 inside it, 12 inside those, 48 inside those; some records of the first, the second and the last
unfoldable pub tree64 : List ℕ → List ℕ → List ℕ → List ℕ
tree64 first second last =
    model "top" ++ submodel "a" "m1" ++ submodel "b" "m1" ++ submodel "c" "m1" ++ first
    ++ (model "m1" ++ submodel "a" "m2" ++ submodel "b" "m2" ++ submodel "c" "m2" ++ submodel "d" "m2" ++ second)
    ++ (model "m2" ++ submodel "a" "m3" ++ submodel "b" "m3" ++ submodel "c" "m3" ++ submodel "d" "m3")
    ++ (model "m3" ++ last)

-- five parameters
unfoldable pub five : String → String → String → String → String → List ℕ
five a b c d e = element a 3 "" "" ++ element b 3 "" "" ++ element c 3 "" "" ++ element d 3 "" "" ++ element e 3 "" ""

-- those with 3 × 5 and 48 × 21 elements, and those of main
unfoldable pub elements1023 : List ℕ → List ℕ
elements1023 first =
    tree64 first (five "e" "f" "g" "h" "i")
    (five "e" "f" "g" "h" "i" ++ five "j" "k" "l" "m" "n" ++ five "o" "p" "q" "r" "s" ++ five "t" "u" "v" "w" "x" ++ element "y" 3 "" "")

-- rows 1 to 6
unfoldable pub more_of_reading : List Sample
more_of_reading =
    -- 1, "over 16,384 bytes"
    refuses (replicate 16385 0) 0 1 0
    -- and 16,384 are not over; 2, "kind unknown"
    ∷ refuses (replicate 16384 0) 0 2 0
    -- 2, "first record not kind 1"
    ∷ refuses c1 0 2 0
    -- 2, "body cut short", goes before an earlier 3: "The lowest number that applies is given"
    ∷ refuses (model "9" ++ 4 ∷ name_field "a") 0 2 13
    -- 3, "fails to read as a name": "1 to 12 characters, then zero bytes"
    ∷ refuses (1 ∷ characters "t" ++ replicate 10 0 ++ characters "x") 0 3 0
    -- 3, "blank where no blank is allowed"
    ∷ refuses (model "top" ++ element "" 1 "" "") 0 3 13
    -- 3, "class byte without meaning"
    ∷ refuses (model "top" ++ element "c" 8 "" "") 0 3 13
    -- 3, "way .. without meaning"
    ∷ refuses (model "top" ++ c1 ++ port "p" "" 2 "c") 0 3 51
    -- "A submodel's name may not end with an underscore; no other name has that limit", and ports have names of their own
    ∷ gives (model "top_" ++ element "c_" 1 "" "" ++ port "c_" "" 0 "c_" ++ submodel "a" "low_" ++ model "low_") 205 1 (row 1 "c_" "" "")
    -- "A name field is 12 bytes": all of them tell names apart
    ∷ gives (model "top" ++ element "abcdefghijk1" 3 "" "" ++ element "abcdefghijk2" 3 "" "") 410 2
    (row 3 "abcdefghijk1" "" "" ++ row 3 "abcdefghijk2" "" "")
    -- 4, "model name used twice", goes before an earlier 5, "submodel's model undefined"
    ∷ refuses (model "top" ++ submodel "a" "none" ++ model "top") 0 4 38
    -- 4, "element or submodel name twice in a definition"
    ∷ refuses (model "top" ++ element "a" 1 "" "" ++ submodel "a" "low" ++ model "low") 0 4 51
    -- 4, "port name twice in one"
    ∷ refuses (pair (port "p" "" 0 "c" ++ port "p" "a" 0 "v") []) 0 4 114
    -- 4, "a definition's second replaced-by with one owner"
    ∷ refuses (pair (replaced_by "c" "a" 0 "v" ++ replaced_by "c" "a" 0 "v") []) 0 4 114
    -- 5, "submodel's model undefined"
    ∷ refuses (model "top" ++ submodel "a" "none") 0 5 13
    -- 5, "parent against the class table"
    ∷ refuses (model "top" ++ element "k" 7 "" "") 0 5 13
    -- 5, parent "not an earlier element of the definition"
    ∷ refuses (model "top" ++ element "k" 7 "r" "" ++ element "r" 4 "" "") 0 5 13
    -- 5, "submodel field no submodel .. of the definition"
    ∷ refuses (pair (deletion "c" 0 "v") []) 0 5 76
    -- 5, "owner no element"; an owner may be a later one
    ∷ refuses (pair (replacement "d" "a" 0 "v") []) 0 5 76
    ∷ gives (pair (replacement "d" "a" 0 "v" ++ element "d" 1 "" "") []) 410 2 (row 1 "c" "" "" ++ row 1 "d" "" "")
    -- 5, "blank-submodel port with way 1", though there is an element or a port of that name
    ∷ refuses (model "top" ++ c1 ++ port "p" "" 1 "c") 0 5 51
    ∷ refuses (model "top" ++ c1 ++ port "p" "" 0 "c" ++ port "q" "" 1 "p") 0 5 89
    -- 6, "definition reaches itself, used by main or not"
    ∷ refuses (model "top" ++ (model "m" ++ submodel "x" "m")) 0 6 13
    -- 6 is not at main, which leads to such a definition
    ∷ refuses (model "top" ++ submodel "a" "m" ++ (model "m" ++ submodel "x" "m")) 0 6 38
    ∷ []

-- rows 7 and 8, ports
unfoldable pub more_of_tree : List Sample
more_of_tree =
    -- 7, "over 64 instances with main"
    gives (tree64 [] [] []) 0 0 []
    ∷ refuses (tree64 (submodel "d" "none") [] (model "none")) 0 7 0
    -- 7, "over 1,024 elements in the tree": with 1,024 another number is judged
    ∷ refuses (elements1023 (element "k" 3 "" "" ++ deletion "a" 0 "z")) 0 8 126
    -- with 1,025 it is 7, though one of them is gone
    ∷ refuses (elements1023 (element "k" 3 "" "" ++ element "l" 3 "" "" ++ replacement "k" "a" 0 "e")) 0 7 0
    -- 8, "target doesn't exist"
    ∷ refuses (nested (deletion "a" 1 "q") []) 0 8 38
    -- 8, "in any definition"
    ∷ refuses (beside (deletion "x" 0 "q")) 0 8 51
    -- 8, of a mark that leads to a port which leads nowhere
    ∷ refuses (pair (deletion "a" 1 "p") (submodel "b" "deep" ++ port "p" "b" 0 "q" ++ model "deep")) 0 8 76
    -- "a port may lead to a further port in a submodel below"
    ∷ gives
    (model "top" ++ submodel "a" "mid" ++ deletion "a" 1 "p"
    ++ (model "mid" ++ submodel "b" "low" ++ port "p" "b" 1 "q")
    ++ (model "low" ++ element "v" 1 "" "" ++ element "w" 1 "" "" ++ port "q" "" 0 "w")) 205 1 (row 1 "a__b__v" "" "")
    -- "depth-first: an instance's elements in record order, then each submodel's whole subtree in record order"
    ∷ gives
    (model "top" ++ submodel "a" "mid" ++ submodel "b" "low" ++ c1
    ++ (model "mid" ++ submodel "d" "low")
    ++ (model "low" ++ element "v" 1 "" "")) 615 3
    (row 1 "c" "" "" ++ row 1 "a__d__v" "" "" ++ row 1 "b__v" "" "")
    ∷ []

-- row 9
unfoldable pub more_of_conflicts : List Sample
more_of_conflicts =
    -- "two marks have one target", one by name and one by port
    refuses (pair (deletion "a" 0 "v" ++ deletion "a" 1 "p") (port "p" "" 0 "v")) 0 9 102
    -- two replaced-bys are two marks
    ∷ refuses (pair (element "d" 1 "" "" ++ replaced_by "c" "a" 0 "v" ++ replaced_by "d" "a" 0 "v") []) 0 9 152
    -- "a replaced-by's owner is the target of a mark"
    ∷ refuses
    (model "top" ++ submodel "a" "mid" ++ deletion "a" 0 "e"
    ++ (model "mid" ++ element "e" 1 "" "" ++ submodel "b" "low" ++ replaced_by "e" "b" 0 "v")
    ++ (model "low" ++ element "v" 1 "" "")) 0 9 140
    -- "or port"
    ∷ refuses (pair (port "p" "" 0 "c" ++ replaced_by "c" "a" 0 "v") []) 0 9 114
    -- "two ports of one instance have one target"
    ∷ refuses (nested [] (port "q" "b" 0 "v")) 0 9 114
    -- and ports of different instances may have one
    ∷ gives (ports_down [] []) 205 1 (row 1 "a__b__d__v" "" "")
    -- "a mark and a port have one target and the mark's instance is the port's"
    ∷ refuses (nested [] (deletion "b" 0 "v")) 0 9 114
    -- "or lies below it": directly below main's port; the conflict with mid's own port comes later
    ∷ refuses (ports_down (deletion "b" 1 "p") []) 0 9 190
    -- and two below it
    ∷ refuses (ports_down [] (deletion "d" 0 "v")) 0 9 114
    -- "A mark above the port doesn't conflict"
    ∷ gives (nested (deletion "a" 1 "p") []) 0 0 []
    -- "somewhere in main's tree": nothing conflicts in a definition that main does not use
    ∷ gives (beside (deletion "x" 0 "v" ++ deletion "x" 0 "v")) 0 0 []
    -- 9 goes before an earlier 10
    ∷ refuses (sample (element "c" 3 "" "") a_of_cell (c_for_v ++ c_for_v)) 0 9 114
    ∷ []

-- rows 10 to 12, gone and the chain
unfoldable pub more_of_gone : List Sample
more_of_gone =
    -- 10, "owner's and target's class differ, in any definition"
    refuses (beside (element "c" 3 "" "" ++ replacement "c" "x" 0 "v")) 0 10 89
    -- 10, of a replaced-by, too
    ∷ refuses (pair (element "p" 3 "" "" ++ replaced_by "p" "a" 0 "v") []) 0 10 114
    -- 11, "target is gone, in the tree": with the reaction that it belongs to
    ∷ refuses (plant (element "q" 4 "" "" ++ element "k" 7 "q" "" ++ deletion "a" 0 "r" ++ replaced_by "k" "a" 0 "k")) 0 11 140
    -- 12, "a survivor's reference is blank .. against its class"
    ∷ refuses (model "top" ++ element "s" 2 "" "") 0 12 13
    -- 12, "filled against its class"
    ∷ refuses (model "top" ++ c1 ++ element "p" 3 "" "c") 0 12 51
    -- 12, "names no element of its definition"
    ∷ refuses (model "top" ++ element "s" 2 "" "c") 0 12 13
    -- 12, "its chain ends at .. a wrong class"
    ∷ refuses (model "top" ++ element "p" 3 "" "" ++ element "s" 2 "" "p") 0 12 51
    -- 12 is about survivors: of a gone element, or of a definition that main does not use, the reference is not judged
    ∷ gives (pair (deletion "a" 0 "s") (element "s" 2 "" "")) 410 2 (row 1 "c" "" "" ++ row 1 "a__v" "" "")
    ∷ gives (beside (element "s" 2 "" "")) 0 0 []
    -- "a child of a gone element" is gone, deleted by name or not
    ∷ gives (plant (deletion "a" 0 "r" ++ deletion "a" 0 "t")) 410 2 (row 1 "a__v" "" "" ++ row 2 "a__s" "" "a__v")
    ∷ gives (plant (deletion "a" 0 "r")) 410 2 (row 1 "a__v" "" "" ++ row 2 "a__s" "" "a__v")
    -- also of one that is the target of a replacement
    ∷ gives (plant (element "q" 4 "" "" ++ replacement "q" "a" 0 "r")) 615 3 (row 4 "q" "" "" ++ row 1 "a__v" "" "" ++ row 2 "a__s" "" "a__v")
    -- "The others survive"
    ∷ gives (plant []) 1025 5
    (row 1 "a__v" "" "" ++ row 2 "a__s" "" "a__v" ++ row 4 "a__r" "" "" ++ row 5 "a__t" "a__r" "a__s" ++ row 7 "a__k" "a__r" "")
    -- "The chain from an element": five steps
    ∷ gives five_steps 410 2 (row 2 "x__x__x__x__s" "" "y__f" ++ row 1 "y__f" "" "")
    ∷ []

-- prefixes
unfoldable pub more_of_prefixes : List Sample
more_of_prefixes =
    -- "no name of an element .. in the instantiated one, begins with it"
    gives (model "top" ++ submodel "a" "inner" ++ (model "inner" ++ element "a__x" 3 "" "")) 205 1 (row 3 "a___a__x" "" "")
    -- "or submodel declared in the containing definition"
    ∷ gives (model "top" ++ submodel "a" "low" ++ submodel "a__b" "low" ++ (model "low" ++ element "v" 1 "" "")) 410 2 (row 1 "a___v" "" "" ++ row 1 "a__b__v" "" "")
    -- a port's name does not count
    ∷ gives (pair (port "a__p" "a" 0 "v") []) 410 2 (row 1 "c" "" "" ++ row 1 "a__v" "" "")
    -- "Gone elements count"
    ∷ gives (pair (deletion "a" 0 "a__x") (element "a__x" 1 "" "")) 410 2 (row 1 "c" "" "" ++ row 1 "a___v" "" "")
    -- "The count is at most 12": behind a name with eleven
    ∷ gives (pair (element "a___________" 3 "" "") []) 615 3 (row 1 "c" "" "" ++ row 3 "a___________" "" "" ++ row 1 "a____________v" "" "")
    -- the same, with that name in the instantiated definition
    ∷ gives (model "top" ++ submodel "a" "cell" ++ (model "cell" ++ element "a___________" 3 "" "")) 205 1 (row 3 "a____________a___________" "" "")
    -- "the fewest underscores .. such that no name" of both begins with it: eleven for the outer one, though three would do for the inner
    ∷ gives (model "top" ++ submodel "a" "cell" ++ element "a__________x" 3 "" "" ++ (model "cell" ++ element "a__x" 3 "" "")) 410 2
    (row 3 "a__________x" "" "" ++ row 3 "a___________a__x" "" "")
    -- "the prefixes from main downward": twelve in each of two
    ∷ gives
    (model "top" ++ submodel "a" "mid" ++ element "a___________" 3 "" ""
    ++ (model "mid" ++ submodel "b" "low" ++ element "b___________" 3 "" "")
    ++ (model "low" ++ element "v" 1 "" "")) 615 3
    (row 3 "a___________" "" "" ++ row 3 "a____________b___________" "" "" ++ row 1 "a____________b____________v" "" "")
    ∷ []

-- ---- tables

-- a table, and what the table check answers
pub record TableSample : Type 0 where
  pub table : List ℕ
  pub answer : TableAnswer

-- the table is refused with number n at place p
unfoldable pub unclosed : List ℕ → ℕ → ℕ → TableSample
unclosed t n p = record { table = t; answer = record { number = n; place = p; count = 0 } }

-- the table is closed, of n records
unfoldable pub closed : List ℕ → ℕ → TableSample
closed t n = record { table = t; answer = record { number = 0; place = 0; count = n } }

-- "R's table with reference d in record 2: 17 at 205"
unfoldable pub starred_tables : List TableSample
starred_tables = unclosed (row 1 "c" "" "" ++ row 2 "a__s" "" "d") 17 205 ∷ []

-- rows 14 to 17, and what none of them refuses
unfoldable pub more_tables : List TableSample
more_tables =
    -- 14, "table length not a multiple of 205"
    unclosed (0 ∷ table_r) 14 0
    -- 14, "or over 209,920"
    ∷ unclosed (replicate 210125 0) 14 0
    -- and 209,920 are not over
    ∷ unclosed (replicate 209920 0) 15 0
    -- 15, "kind not 1 to 7"
    ∷ unclosed (row 8 "c" "" "") 15 0
    -- 15, "a field is no name", goes before an earlier 17
    ∷ unclosed (row 2 "s" "" "c" ++ row 1 "9" "" "") 15 205
    -- 16, "flat name twice", at the later record
    ∷ unclosed (row 1 "c" "" "" ++ row 3 "c" "" "") 16 205
    -- 17, "parent against the class table"
    ∷ unclosed (row 7 "k" "" "") 17 0
    -- 17, parent "not an earlier record"
    ∷ unclosed (row 7 "k" "r" "" ++ row 4 "r" "" "") 17 0
    -- 17, "reference against the class table"
    ∷ unclosed (row 3 "p" "" "" ++ row 2 "s" "" "p") 17 205
    -- a reference may be a later record
    ∷ closed (row 2 "s" "" "c" ++ row 1 "c" "" "") 2
    ∷ closed table_r 2
    -- "An empty table is closed"
    ∷ closed [] 0
    ∷ []

-- ---- what is shown

-- an output of n bytes before the call
unfoldable pub output_before : ℕ → List ℕ
output_before n = replicate n 255

-- the same four numbers
unfoldable pub same_answer : Answer → Answer → Bool
same_answer x y =
    eqb x.number y.number && eqb x.place y.place && eqb x.count y.count && eqb x.bytes y.bytes

-- flattening answers so, and writes that table and nothing else
unfoldable pub holds_of : Sample → Bool
holds_of c =
    same_answer (verdict c.recipe c.room) c.answer
    && same (written c.recipe (output_before c.room)) (c.table ++ output_before (c.room - length c.table))

-- the table check answers so
unfoldable pub table_holds_of : TableSample → Bool
table_holds_of c =
    eqb (table_verdict name_width c.table).number c.answer.number
    && eqb (table_verdict name_width c.table).place c.answer.place
    && eqb (table_verdict name_width c.table).count c.answer.count

-- "Printed": what the program writes of sample R, and of a refusal
unfoldable pub printed_holds : Bool
printed_holds =
    same (program_output sample_r) (characters "flat 2\n1 c - -\n2 a__s - c\n")
    && same (program_output (sample (element "c" 3 "" "") a_of_cell c_for_v)) (characters "refused 10 at 76\n")

-- "The starred recipes form one table": each starred line of 01
unfoldable pub starred_hold : Bool
starred_hold = every holds_of starred && every table_holds_of starred_tables && printed_holds

-- 01's numbers: column "Bytes after kind", "68-byte fields", "205 bytes", "209,920"
unfoldable pub lengths_hold : Bool
lengths_hold =
    same (map (bytes_of name_width) bodies) (0 ∷ 12 ∷ 37 ∷ 37 ∷ 24 ∷ 25 ∷ 37 ∷ 37 ∷ 36 ∷ [])
    && eqb (flat_width name_width) 68
    && eqb (flat_length name_width) 205
    && eqb (most_rows * flat_length name_width) 209920

-- 02's "from the first try to the last": two, three behind the name with two underscores, and twelve behind that with eleven; names with fewer, and other names, raise nothing
unfoldable pub tries_hold : Bool
tries_hold =
    same (tries (characters "a") (map characters ("b____" ∷ "a_x" ∷ "a__" ∷ "a__x" ∷ "a___________" ∷ "a_____" ∷ []))) (2 ∷ 3 ∷ 12 ∷ [])

-- the others
unfoldable pub more_hold : Bool
more_hold =
    every holds_of more_of_reading && every holds_of more_of_tree && every holds_of more_of_conflicts && every holds_of more_of_gone && every holds_of more_of_prefixes
    && every table_holds_of more_tables
    && lengths_hold
    && tries_hold
