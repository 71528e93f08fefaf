-- Of a record and its definition: the recipe, a field at an offset of it, what the record reads as, and what may be sought in the definition.
-- Assumes nothing.
use Rattle.std.specs.Prelude.{ℕ, ◌≡◌, List, Some}
use Rattle.recipe.specs.Records.{Recipe}
use Rattle.recipe.specs.Fields.{reading_of}
use Rattle.recipe.specs.declared.Kind.{Kind}
use Rattle.recipe.specs.declared.Record.{Record}
use Rattle.record_index.specs.Entries.{SoughtIn}
use Rattle.record_index.specs.Indexed.{recipe_of, field_in}
use Rattle.links.specs.declared.Held.{Held}

abbrev pub its_recipe : Held → Recipe
its_recipe h = recipe_of h.linker.now.index

abbrev pub its_field : Held → ℕ → List ℕ
its_field h q = field_in h.linker.now.index q

-- the record reads as r
abbrev pub ReadsAs : Held → Record → Type 0
ReadsAs h r = Some r ≡ reading_of (its_recipe h) h.place

-- a record of kind k, by the name at q
abbrev pub SoughtAt : Held → Kind → ℕ → Type 0
SoughtAt h k q = SoughtIn (its_recipe h) (record { kind = k; definition = h.definition; name = q })
