-- 02's Paper 1, "From a flat name back to the recipe", at any name width.
-- Assumes nothing.
use Rattle.std.specs.Prelude.{ℕ, List, [], Bool, length, None, Option, Some, Result, Ok, Err}
use Rattle.names.specs.Lists.{first, padded, same}
use Rattle.recipe.specs.Records.{Recipe}
use Rattle.names.specs.Judging.{row_number}
use Rattle.names.specs.declared.Refusal.{Refusal}
use Rattle.tree.specs.Tree.{Node, most_depth}
use Rattle.marks.specs.Marks.{survivors}
use Rattle.compose.specs.Rows.{refusal_of}
use Rattle.composer.specs.Flat.{flat_field}
use Rattle.origins.specs.declared.Origin.{Origin}

-- f is the field of the flat name of x: all its bytes, the padding too
unfoldable pub is_named : Recipe → List ℕ → Node → Bool
is_named s f x = same (flat_field s (Some x)) f

-- the survivor whose flat name's field is f: the first in tree order, and there is one at most (`flat-names-differ`)
unfoldable pub origin_of : Recipe → List ℕ → Option Node
origin_of s f = first (is_named s f) (survivors s)

-- "the depth, the offsets of the submodel records from main downward, and the element record's offset"; "Unused offsets are 0"
unfoldable pub walked_to : Node → Origin
walked_to x = record { number = 0; place = 0; depth = length x.path; submodel = padded most_depth x.path; element = x.place }

-- "on a refusal depth and all offsets are" 0
unfoldable pub walk_refused : ℕ → ℕ → Origin
walk_refused n p = record { number = n; place = p; depth = 0; submodel = padded most_depth []; element = 0 }

-- "18, place 0, the name belongs to no survivor"; one of another length belongs to none
unfoldable pub walk_answer : Option Node → Origin
walk_answer None = walk_refused 18 0
walk_answer (Some x) = walked_to x

-- what is answered of an origin that was found or a refusal
abbrev pub answered : Result Origin Refusal → Origin
answered (Ok o) = o
answered (Err r) = walk_refused (row_number r.reason) r.place

-- 18 is "judged after 12 ..; 13 doesn't apply here": the recipe's refusal, or the survivor's origin, or 18
unfoldable pub walk_back : Recipe → List ℕ → Origin
walk_back s f = elim (refusal_of s) [ None ↦ walk_answer (origin_of s f) | Some r ↦ walk_refused (row_number r.reason) r.place ]
