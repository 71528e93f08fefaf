-- What walking back and flattening are to each other: the parts of the statements in `proofs/Again.antt`.
-- Assumes nothing.
use Rattle.std.specs.Prelude.{ℕ, ◌-◌, ◌≡◌, List, length, take, drop, replicate}
use Rattle.names.specs.Lists.{In}
use Rattle.flat_table.specs.Table.{flat_length, flat_width, row_name, rows}
use Rattle.recipe.specs.Records.{Recipe}
use Rattle.tree.specs.Tree.{Node, instances, most_depth}
use Rattle.marks.specs.Marks.{survivors}
use Rattle.composer.specs.declared.Answer.{Answer}
use Rattle.composer.specs.Flat.{flat}
use Rattle.composer.specs.FlatRecords.{NamesOne, RecordOf}
use Rattle.origins.specs.declared.Origin.{Origin}

-- the places of the records of a table of name width w
abbrev pub places_of : ℕ → List ℕ → List ℕ
places_of w table = rows (flat_width w) (flat_length w) table

-- the name field of the record at p
abbrev pub name_in : ℕ → List ℕ → ℕ → List ℕ
name_in w table p = row_name (flat_width w) (flat_length w) table p

-- the offsets of o spell x: its instance, from main downward, zeros behind, and its record
pub record Spells (o : Origin) (x : Node) : Type 0 where
  pub found : o.number ≡ 0
  pub start : o.place ≡ 0
  pub depth : o.depth ≡ length x.path
  pub path : take o.depth o.submodel ≡ x.path
  pub unused : drop o.depth o.submodel ≡ replicate (most_depth - o.depth) 0
  pub element : o.element ≡ x.place

-- "Flattening names that element so again": it accepts, and its table has exactly one record of the name f, that of the element which o spells, a survivor in an instance of main's tree
pub record NamedAgain (s : Recipe) (f : List ℕ) (o : Origin) (a : Answer) (after : List ℕ) : Type 0 where
  pub accepts : a.number ≡ 0
  pub table : take a.bytes after ≡ flat s
  pub element : Node
  pub spelt : Spells o element
  pub instance : In element.path (instances s)
  pub names : NamesOne s f element

-- "its own path": o spells the survivor whose record stands at p
pub record OwnPath (s : Recipe) (p : ℕ) (o : Origin) : Type 0 where
  pub element : Node
  pub survives : In element (survivors s)
  pub of : RecordOf s p element
  pub spelt : Spells o element
