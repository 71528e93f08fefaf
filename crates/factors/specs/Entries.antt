-- The entries of a companion by their numbers, and what a filled factor field names: the parts of the statements in `proofs/Statements.antt`.
-- Assumes nothing.
use Rattle.std.specs.Prelude.{ℕ, ◌*◌, ◌≡◌, List, [], get_or, take, drop, Some}
use Rattle.names.specs.Lists.{In}
use Rattle.flat_table.specs.Table.{flat_width}
use Rattle.recipe.specs.Definitions.{factors_of}
use Rattle.recipe.specs.Records.{Recipe}
use Rattle.tree.specs.Tree.{Node, node, tree_elements}
use Rattle.marks.specs.Faults.{factor_named}
use Rattle.marks.specs.Marks.{chain_end}
use Rattle.composer.specs.FlatRecords.{NamesOne, kind_at}
use Rattle.factors.specs.Companion.{entry_length, rated}

-- entry number i of a companion of name width w
abbrev pub entry_of : ℕ → List ℕ → ℕ → List ℕ
entry_of w table i = take (entry_length w) (drop (i * entry_length w) table)

-- its field number k: 0 its name, 1 to 4 the time factors by depth, 5 to 8 the extent factors
abbrev pub entry_field : ℕ → List ℕ → ℕ → ℕ → List ℕ
entry_field w table i k = take (flat_width w) (drop (k * flat_width w) (drop 1 (entry_of w table i)))

-- the element that entry number i is for
abbrev pub rated_at : Recipe → ℕ → Node
rated_at s i = get_or (rated s) i (node [] 0)

-- f is the name of exactly one record of the flat table, of kind 3: that of the end of the chain from what the factor names, for the submodel at depth k + 1 of the path
pub record FactorNamed (s : Recipe) (field : Recipe → ℕ → List ℕ) (path : List ℕ) (k : ℕ) (f : List ℕ) : Type 0 where
  pub factors : ℕ
  pub scales : factors_of s (get_or path k 0) ≡ Some factors
  pub named : Node
  pub is : factor_named s (node (take k path) factors) (field s factors) ≡ Some named
  pub inside : In named (tree_elements s)
  pub names : NamesOne s f (chain_end s named)
  pub constant : kind_at s names.place ≡ 3
