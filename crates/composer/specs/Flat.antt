-- 01's "Prefixes and flat records". Names have any width: 01's is 12, which makes fields of 68 bytes and records of 205.
-- Assumes nothing.
use Rattle.std.specs.Prelude.{List, [], ◌∷◌, ◌++◌, map, ℕ, None, Option, Some, option_map}
use Rattle.names.specs.Lists.{joined, padded}
use Rattle.flat_table.specs.Table.{flat_width}
use Rattle.recipe.specs.Records.{Recipe, class}
use Rattle.tree.specs.Tree.{Node, parent_of, reference_of}
use Rattle.marks.specs.Marks.{chain_end, survivors}
use Rattle.flat_names.specs.Prefixes.{flat_name}

-- "68-byte fields, zero padded": a flat name's field, or zeros
unfoldable pub flat_field : Recipe → Option Node → List ℕ
flat_field s None = padded (flat_width s.width) []
flat_field s (Some x) = padded (flat_width s.width) (flat_name s x)

-- "the element at the end of the chain from its reference"; none for a blank
unfoldable pub flat_reference : Recipe → Node → Option Node
flat_reference s x = option_map (chain_end s) (reference_of s x)

-- "its class as the kind byte, then three 68-byte fields, zero padded: flat name, parent's flat name or zeros, flat name of the element at the end of the chain .."
unfoldable pub flat_record : Recipe → Node → List ℕ
flat_record s x = class s x.place ∷ (flat_field s (Some x) ++ flat_field s (parent_of s x) ++ flat_field s (flat_reference s x))

-- "Each survivor gives 205 bytes, in tree order": the flat table of a recipe
unfoldable pub flat : Recipe → List ℕ
flat s = joined (map (flat_record s) (survivors s))
