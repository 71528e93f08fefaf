-- The records of a recipe's flat table, by their places: what the promises of demand 3 are stated with.
-- Assumes nothing.
use Rattle.std.specs.Prelude.{ℕ, ◌≡◌, List, Some}
use Rattle.names.specs.Lists.{In}
use Rattle.flat_table.specs.Table.{rows, row_kind, row_name, row_parent, row_reference, flat_width, flat_length}
use Rattle.recipe.specs.Records.{Recipe, class}
use Rattle.tree.specs.Tree.{Node, tree_elements, parent_of, reference_of}
use Rattle.marks.specs.Marks.{Gone, survivors, Chain, chain_end}
use Rattle.composer.specs.Flat.{flat_field, flat_reference, flat}

module _ (s : Recipe) where
  -- the places of the flat table's records
  abbrev pub record_places : List ℕ
  record_places = rows (flat_width s.width) (flat_length s.width) (flat s)

  -- the kind byte of the record at p
  abbrev pub kind_at : ℕ → ℕ
  kind_at p = row_kind (flat_width s.width) (flat_length s.width) (flat s) p

  -- its flat name, a field
  abbrev pub name_at : ℕ → List ℕ
  name_at p = row_name (flat_width s.width) (flat_length s.width) (flat s) p

  -- its parent's flat name, or a blank
  abbrev pub parent_at : ℕ → List ℕ
  parent_at p = row_parent (flat_width s.width) (flat_length s.width) (flat s) p

  -- the flat name that its reference holds, or a blank
  abbrev pub reference_at : ℕ → List ℕ
  reference_at p = row_reference (flat_width s.width) (flat_length s.width) (flat s) p

  -- the record at p is that of the element x: "its class as the kind byte, then .. flat name, parent's flat name or zeros, flat name of the .. end of the chain .. or zeros"
  pub record RecordOf (p : ℕ) (x : Node) : Type 0 where
    pub kind : kind_at p ≡ class s x.place
    pub name : name_at p ≡ flat_field s (Some x)
    pub parent : parent_at p ≡ flat_field s (parent_of s x)
    pub reference : reference_at p ≡ flat_field s (flat_reference s x)

  -- the field f is the name of exactly one record, that of the element z, which survives
  pub record NamesOne (f : List ℕ) (z : Node) : Type 0 where
    pub survives : In z (survivors s)
    pub place : ℕ
    pub listed : In place record_places
    pub of : RecordOf place z
    pub named : name_at place ≡ f
    pub only : (q : ℕ) → In q record_places → name_at q ≡ f → q ≡ place

  -- the record at p is that of a survivor, and its parent field names that of the survivor's parent
  pub record ParentNamed (p : ℕ) : Type 0 where
    pub survivor : Node
    pub survives : In survivor (survivors s)
    pub of : RecordOf p survivor
    pub parent : Node
    pub is : parent_of s survivor ≡ Some parent
    pub names : NamesOne (parent_at p) parent

  -- the record at p is that of a survivor, and its reference field names that of the end of the chain from the element of the tree that the survivor's reference names
  pub record ReferenceNamed (p : ℕ) : Type 0 where
    pub survivor : Node
    pub survives : In survivor (survivors s)
    pub of : RecordOf p survivor
    pub referenced : Node
    pub is : reference_of s survivor ≡ Some referenced
    pub inside : In referenced (tree_elements s)
    pub names : NamesOne (reference_at p) (chain_end s referenced)

  -- y is an element of the tree, and the chain from it leads to its end, which survives and so is not gone
  pub record Ended (y : Node) : Type 0 where
    pub inside : In y (tree_elements s)
    pub steps : ℕ
    pub chain : Chain s steps y (chain_end s y)
    pub survives : In (chain_end s y) (survivors s)
    pub present : Gone s (chain_end s y) → ⊥
