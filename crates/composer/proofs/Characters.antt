-- A flat name is a name, so its padded field reads as one, and two fields that are the same have one flat name.
-- Assumes nothing.
use Rattle.std.specs.Prelude.{None, Option, Some}
use mathlib.Core.Path.{◌≡◌, refl, sym, ap, ◌∙◌}
use Prim.Native.Nat.{ℕ}
use mathlib.Core.Bool.{true, false}
use mathlib.Core.List.{List, [], ◌∷◌, ◌++◌, map, append_assoc}
use lib.ListN.{replicate}
use Rattle.names.specs.Lists.{In, joined}
use Rattle.names.specs.Names.{underscore, is_other, text, is_blank, is_name, is_name_or_blank, are_name_characters}
use Rattle.names.proofs.Tests.{or_left, or_right}
use Rattle.names.proofs.Lists.{every-replicate}
use Rattle.names.proofs.Names.{name-not-blank, underscore-other, characters-others, characters-append, text-padded, blank-padded, name-padded}
use Rattle.flat_table.specs.Table.{flat_width}
use Rattle.recipe.specs.Records.{Recipe, name}
use Rattle.recipe.specs.Definitions.{main, submodels, model_of}
use Rattle.recipe.specs.Reading.{fault₃}
use Rattle.recipe.proofs.Rows.{submodel-characters, element-reads}
use Rattle.tree.specs.Tree.{Node, definition_at, tree_elements}
use Rattle.tree.proofs.Nodes.{in_tree}
use Rattle.tree.proofs.Instances.{instance-path}
use Rattle.tree.proofs.Targets.{Walk, walk_of}
use Rattle.flat_names.specs.Prefixes.{with_underscores, prefix, flat_name}
use Rattle.composer.specs.Flat.{flat_field}

-- a name and underscores
with-characters : (n : List ℕ) (k : ℕ) → are_name_characters n ≡ true → are_name_characters (with_underscores n k) ≡ true
unfolding with_underscores
with-characters n k e = characters-append n (replicate k underscore) e (every-replicate is_other k underscore underscore-other)

module _ (s : Recipe) (h₃ : fault₃ s ≡ None) where
  prefix-characters : (d m : ℕ) → In m (submodels s d) → are_name_characters (prefix s m) ≡ true
  unfolding prefix
  prefix-characters d m i = with-characters _ _ (submodel-characters s h₃ d m i)

  walk-characters : (d : ℕ) (path : List ℕ) (e : ℕ) → Walk s d path e → are_name_characters (joined (map (prefix s) path) ++ name s e) ≡ true
  walk-characters d [] e w = (element-reads s h₃ d e w).characters
  walk-characters d (m ∷ path) e w =
      let rest : List ℕ = joined (map (prefix s) path) ++ name s e in
      ap are_name_characters (append_assoc (prefix s m) (joined (map (prefix s) path)) (name s e))
      ∙ characters-append (prefix s m) rest (prefix-characters d m w.0) (characters-others rest (walk-characters (model_of s m) path e w.1))

  pub flat-name-characters : (x : Node) → In x (tree_elements s) → are_name_characters (flat_name s x) ≡ true
  unfolding flat_name definition_at
  flat-name-characters x i =
      let a = in_tree s x i in
      walk-characters main x.path x.place (walk_of s main x.path x.place (instance-path s x.path a.0) a.1)

  -- its field is a name, and tells it
  pub field-name : (x : Node) → In x (tree_elements s) → is_name (flat_field s (Some x)) ≡ true
  unfolding flat_field
  field-name x i = name-padded (flat_width s.width) (flat_name s x) (flat-name-characters x i)

  pub field-tells : (x y : Node) → In x (tree_elements s) → In y (tree_elements s) → flat_field s (Some x) ≡ flat_field s (Some y) → flat_name s x ≡ flat_name s y
  unfolding flat_field
  field-tells x y i j e =
      sym (text-padded (flat_width s.width) (flat_name s x) (flat-name-characters x i))
      ∙ (ap text e ∙ text-padded (flat_width s.width) (flat_name s y) (flat-name-characters y j))

  -- a field is blank where there is no element
  pub field-blank : is_blank (flat_field s None) ≡ true
  unfolding flat_field
  field-blank = blank-padded (flat_width s.width)

  pub field-filled : (x : Node) → In x (tree_elements s) → is_blank (flat_field s (Some x)) ≡ false
  field-filled x i = name-not-blank (flat_field s (Some x)) (field-name x i)

  pub field-reads : (o : Option Node) → ((x : Node) → o ≡ Some x → In x (tree_elements s)) → is_name_or_blank (flat_field s o) ≡ true
  unfolding is_name_or_blank
  field-reads None h = or_right (is_name (flat_field s None)) _ field-blank
  field-reads (Some x) h = or_left (is_name (flat_field s (Some x))) _ (field-name x (h x refl))
