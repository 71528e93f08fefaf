-- Recipes whose size is asked, each with the five numbers that 02's Paper 4 states, in one list. The harness reads them from this file. The name width is 12.
-- Assumes nothing.
use Rattle.std.specs.Prelude.{ℕ, Bool, ◌&&◌, List, [], ◌∷◌, ◌++◌, eqb}
use Rattle.names.specs.Lists.{every}
use Rattle.recipe.specs.Records.{Recipe}
use Rattle.composer.specs.Verdicts.{recipe_of}
use Rattle.sizes.specs.declared.Size.{Size}
use Rattle.sizes.specs.Size.{size}
use Rattle.samples.specs.Samples.{a_of_cell, c1, deletion, element, model, nested, pair, sample, sample_r, submodel}
use Rattle.samples.specs.Companions.{factors, levels}

-- a recipe, and its size
pub record SizeSample : Type 0 where
  pub recipe : Recipe
  pub answer : Size

-- the recipe gives n records, which take b bytes, and the longest flat name has l
unfoldable pub measured : List ℕ → ℕ → ℕ → ℕ → SizeSample
measured s n b l = record { recipe = recipe_of s; answer = record { number = 0; place = 0; count = n; bytes = b; longest = l } }

-- it is refused with number n at place p: "all three numbers 0"
unfoldable pub unmeasured : List ℕ → ℕ → ℕ → SizeSample
unmeasured s n p = record { recipe = recipe_of s; answer = record { number = n; place = p; count = 0; bytes = 0; longest = 0 } }

-- five definitions in a line, whose submodels and whose one element have names of 12 characters
unfoldable pub longest_names : List ℕ
longest_names =
    model "m1" ++ submodel "abcdefghijkl" "m2" ++ (model "m2" ++ submodel "abcdefghijkl" "m3") ++ (model "m3" ++ submodel "abcdefghijkl" "m4")
    ++ (model "m4" ++ submodel "abcdefghijkl" "m5")
    ++ (model "m5" ++ element "mnopqrstuvwx" 3 "" "")

unfoldable pub size_samples : List SizeSample
size_samples =
    -- "survivors, bytes and the length of the survivors' longest flat name": sample R's, a__s
    measured sample_r 2 410 4
    -- "(0 if none)"
    ∷ measured (model "top") 0 0 0
    ∷ unmeasured [] 1 0
    -- none, where all elements of the tree are gone
    ∷ measured (nested (deletion "a" 1 "p") []) 0 0 0
    -- "of the survivors": the longest name of the tree is a gone element's
    ∷ measured (pair (deletion "a" 0 "gone") (element "gone" 1 "" "")) 2 410 4
    -- the longest name may be that of an element of main, and the first
    ∷ measured (pair (element "longest" 3 "" "") []) 3 615 7
    ∷ measured (model "top" ++ element "longest" 3 "" "" ++ element "c" 1 "" "") 2 410 7
    -- or of one in a later instance of its definition
    ∷ measured (model "top" ++ submodel "a" "cell" ++ submodel "bcd" "cell" ++ (model "cell" ++ element "v" 3 "" "")) 2 410 6
    -- the whole name, with a prefix of thirteen
    ∷ measured (pair (element "a___________" 3 "" "") []) 3 615 14
    -- four prefixes of 14 and a name of 12
    ∷ measured longest_names 1 205 68
    -- "Refusals are flattening's, all but 13, with the same places"
    ∷ unmeasured (model "m" ++ submodel "x" "m") 6 0
    ∷ unmeasured (sample c1 a_of_cell (deletion "a" 0 "v")) 12 153
    ∷ unmeasured (levels (factors "a" "x" "") []) 20 76
    ∷ []

-- the size is so
unfoldable pub size_holds_of : SizeSample → Bool
size_holds_of c =
    eqb (size c.recipe).number c.answer.number
    && eqb (size c.recipe).place c.answer.place
    && eqb (size c.recipe).count c.answer.count
    && eqb (size c.recipe).bytes c.answer.bytes
    && eqb (size c.recipe).longest c.answer.longest

unfoldable pub sizes_hold : Bool
sizes_hold = every size_holds_of size_samples
