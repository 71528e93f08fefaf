-- The recipe of an index of records, and the field at an offset of it. Assumes nothing.
use Rattle.std.specs.Prelude.{ℕ, List}
use Rattle.names.specs.Names.{field_at}
use Rattle.recipe.specs.Records.{Recipe, recipe}
use Rattle.record_index.specs.declared.RecordIndex.{RecordIndex}

abbrev pub recipe_of : RecordIndex → Recipe
recipe_of x = recipe x.source.now

abbrev pub field_in : RecordIndex → ℕ → List ℕ
field_in x q = field_at x.source.now.width x.source.now.bytes.now q
