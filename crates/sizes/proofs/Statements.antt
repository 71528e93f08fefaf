-- What the size of a recipe's table is beside flattening: of every recipe, every output, and answers that the promises of `bandrolt_table_size` and `bandrolt_flatten` allow.
-- Statements alone, each with the law that shows it. Statement (e), a program that uses (a), is `sizes::flattens_as_sized`. Assumes nothing.
use mathlib.Core.Path.{◌≡◌}
use Prim.Native.Nat.{ℕ, ◌-◌, ◌≤◌}
use mathlib.Core.List.{List}
use lib.ListN.{length, take}
use Rattle.names.specs.Lists.{In}
use Rattle.flat_table.specs.Table.{flat_width}
use Rattle.composer.specs.declared.Answer.{Answer}
use Rattle.composer.specs.Verdicts.{name_width, recipe_of, verdict, written}
use Rattle.composer.proofs.Demand.{twelve}
use Rattle.sizes.specs.declared.Size.{Size}
use Rattle.sizes.specs.Size.{size}
use Rattle.sizes.specs.NameFields.{characters_at, places_of}
use Rattle.sizes.proofs.Exact.{counts-nothing}
use Rattle.sizes.proofs.Beside.{fits-exactly, lacks-one, longest-most, never-13, no-name-longer, one-name-longest, refused_by_both, refused-beside}

module _ (recipe : List ℕ) (r : Size) (sizes-it : r ≡ size (recipe_of recipe)) where
  -- "Refusals are flattening's, all but 13"
  pub no-13 : r.number ≡ 13 → ⊥
  no-13 = never-13 (recipe_of recipe) r sizes-it

  -- "with .. all three numbers 0"
  pub refusal-counts : (r.number ≡ 0 → ⊥) → (r.count ≡ 0) × ((r.bytes ≡ 0) × (r.longest ≡ 0))
  refusal-counts = counts-nothing (recipe_of recipe) r sizes-it

  -- "bytes of the longest flat name, 0 to 68"
  pub longest-68 : r.longest ≤ 68
  unfolding recipe_of name_width flat_width
  longest-68 = longest-most (recipe_of recipe) twelve r sizes-it

  -- any output, and what flattening makes of it
  module _ (before after : List ℕ) (b : Answer) (answers : b ≡ verdict (recipe_of recipe) (length before)) (leaves : after ≡ written (recipe_of recipe) before) where
    -- ---- (a) "flattening into exactly that many bytes then succeeds": it answers 0, the same count and the same bytes
    pub exactly-fits : r.number ≡ 0 → length before ≡ r.bytes → b ≡ record { number = 0; place = 0; count = r.count; bytes = r.bytes }
    exactly-fits = fits-exactly (recipe_of recipe) r sizes-it before b answers

    -- ---- (b) "with any survivor, one byte less gives 13", at 0, and leaves the output as it was
    pub one-byte-less : r.number ≡ 0 → (r.count ≡ 0 → ⊥) → length before ≡ r.bytes - 1
        → (b ≡ record { number = 13; place = 0; count = 0; bytes = 0 }) × (after ≡ before)
    one-byte-less = lacks-one (recipe_of recipe) r sizes-it before after b answers leaves

    -- ---- (c) "Refusals are flattening's, all but 13, with the same places": where the size refuses flattening does, into any output,
    pub refuses-as-sized : (r.number ≡ 0 → ⊥) → (b.number ≡ r.number) × (b.place ≡ r.place)
    refuses-as-sized = refused-beside (recipe_of recipe) r sizes-it before b answers

    -- and where flattening refuses with anything but 13 the size does
    pub refused-as-sized : (b.number ≡ 0 → ⊥) → (b.number ≡ 13 → ⊥) → (r.number ≡ b.number) × (r.place ≡ b.place)
    refused-as-sized = refused_by_both (recipe_of recipe) r sizes-it before b answers

    -- ---- (d) the table that flattening wrote: no name field has more than `longest` characters,
    pub no-longer : b.number ≡ 0 → (p : ℕ) → In p (places_of name_width (take b.bytes after)) → characters_at name_width (take b.bytes after) p ≤ r.longest
    unfolding recipe_of name_width
    no-longer = no-name-longer (recipe_of recipe) twelve r sizes-it before after b answers leaves

    -- and, with any survivor, one has so many
    pub one-so-long : b.number ≡ 0 → (b.count ≡ 0 → ⊥) → (p : ℕ) × In p (places_of name_width (take b.bytes after)) × (characters_at name_width (take b.bytes after) p ≡ r.longest)
    unfolding recipe_of name_width
    one-so-long = one-name-longest (recipe_of recipe) twelve r sizes-it before after b answers leaves
