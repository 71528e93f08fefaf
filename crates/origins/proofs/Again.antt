-- What walking back and flattening are to each other: of every recipe, name, output, and answers that the promises of `bandrolt_walk_back` and `bandrolt_flatten` allow.
-- Statements alone, each with the law that shows it. Assumes nothing.
use mathlib.Core.Path.{◌≡◌}
use Prim.Native.Nat.{ℕ, ◌*◌, ◌≤◌}
use mathlib.Core.List.{List}
use lib.ListN.{length, take}
use Rattle.names.specs.Lists.{In}
use Rattle.flat_table.specs.Table.{flat_length}
use Rattle.marks.specs.Marks.{survivors}
use Rattle.composer.specs.declared.Answer.{Answer}
use Rattle.composer.specs.Verdicts.{name_width, recipe_of, verdict, written}
use Rattle.origins.specs.declared.Origin.{Origin}
use Rattle.origins.specs.Again.{NamedAgain, OwnPath, name_in, places_of}
use Rattle.origins.specs.Origins.{walk_back}
use Rattle.origins.proofs.Both.{again, back, listed, own}
use Rattle.composer.proofs.Demand.{twelve}

module _ (recipe before after : List ℕ) (a : Answer) (answers : a ≡ verdict (recipe_of recipe) (length before)) (leaves : after ≡ written (recipe_of recipe) before) where
  -- "Flattening names that element so again": where the walk back answers 0, and there is room
  pub named_again : (name : List ℕ) (o : Origin) → o ≡ walk_back (recipe_of recipe) name → o.number ≡ 0
      → flat_length name_width * length (survivors (recipe_of recipe)) ≤ length before → NamedAgain (recipe_of recipe) name o a after
  unfolding recipe_of name_width
  named_again = again (recipe_of recipe) twelve before after a answers leaves

  module _ (accepts : a.number ≡ 0) where
    -- "for each survivor the walk back gives its own path": of the name of each record of the table
    pub own-path : (p : ℕ) → In p (places_of name_width (take a.bytes after))
        → (o : Origin) → o ≡ walk_back (recipe_of recipe) (name_in name_width (take a.bytes after) p) → OwnPath (recipe_of recipe) p o
    unfolding recipe_of name_width
    own-path = own (recipe_of recipe) twelve before after a answers leaves accepts

    -- the names that are walked back are those of the table,
    pub walked-names : (name : List ℕ) (o : Origin) → o ≡ walk_back (recipe_of recipe) name → o.number ≡ 0
        → (p : ℕ) × In p (places_of name_width (take a.bytes after)) × (name_in name_width (take a.bytes after) p ≡ name)
    unfolding recipe_of name_width
    walked-names = listed (recipe_of recipe) twelve before after a answers leaves accepts

    -- and these are all walked back
    pub table-names : (p : ℕ) → In p (places_of name_width (take a.bytes after))
        → (o : Origin) → o ≡ walk_back (recipe_of recipe) (name_in name_width (take a.bytes after) p) → o.number ≡ 0
    unfolding recipe_of name_width
    table-names = back (recipe_of recipe) twelve before after a answers leaves accepts
