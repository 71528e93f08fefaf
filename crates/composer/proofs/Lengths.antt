-- The flat table has flat_length bytes for each survivor, which is 205 where the name width is 12.
-- Assumes nothing.
use Rattle.std.specs.Prelude.{None, Option, Some}
use mathlib.Core.Path.{◌≡◌, refl, sym}
use Prim.Native.Nat.{◌*◌, ◌≤◌}
use native.Mathlib.Omega.{arith}
use mathlib.Core.List.{[]}
use lib.ListN.{length, length-append}
use Rattle.names.specs.Lists.{In}
use Rattle.names.proofs.Tests.{some-map, the-some}
use Rattle.names.proofs.Lists.{padded-length, joined_length}
use Rattle.flat_table.specs.Table.{flat_width, flat_length}
use Rattle.recipe.specs.Records.{Recipe}
use Rattle.recipe.specs.Reading.{fault₃, fault₅}
use Rattle.tree.specs.Tree.{Node, tree_elements, parent_of, reference_of}
use Rattle.tree.specs.Faults.{fault₇}
use Rattle.tree.proofs.Nodes.{parent_in, reference-in}
use Rattle.marks.specs.Marks.{survivors, chain_end}
use Rattle.marks.proofs.Chain.{chain-in}
use Rattle.marks.proofs.Survivors.{survivor}
use Rattle.flat_names.specs.Prefixes.{flat_name}
use Rattle.composer.specs.Flat.{flat_field, flat_reference, flat_record, flat}
use Rattle.flat_names.proofs.Lengths.{flat-name-bytes}

module _ (s : Recipe) (two : 2 ≤ s.width) (h₃ : fault₃ s ≡ None) where
  module _ (h₇ : fault₇ s ≡ None) where
    pub field-bytes : (o : Option Node) → ((x : Node) → o ≡ Some x → In x (tree_elements s)) → length (flat_field s o) ≡ flat_width s.width
    unfolding flat_field
    field-bytes None h = padded-length (flat_width s.width) [] (omega arith)
    field-bytes (Some x) h = padded-length (flat_width s.width) (flat_name s x) (flat-name-bytes s two h₃ h₇ x (h x refl))

    module _ (h₅ : fault₅ s ≡ None) where
      pub reference-end-in : (x y : Node) → In x (tree_elements s) → flat_reference s x ≡ Some y → In y (tree_elements s)
      unfolding flat_reference chain_end
      reference-end-in x y i e =
          let r = some-map (chain_end s) (reference_of s x) y e in
          rw r.2 (chain-in s h₅ h₇ 5 r.0 (reference-in s x r.0 i r.1))

      -- "three 68-byte fields": their lengths
      pub name-field : (x : Node) → In x (tree_elements s) → length (flat_field s (Some x)) ≡ flat_width s.width
      name-field x i = field-bytes (Some x) (λ y e. rw (sym (the-some e)) i)

      pub parent-field : (x : Node) → In x (tree_elements s) → length (flat_field s (parent_of s x)) ≡ flat_width s.width
      parent-field x i = field-bytes (parent_of s x) (λ y e. parent_in s x y i e)

      pub reference-field : (x : Node) → In x (tree_elements s) → length (flat_field s (flat_reference s x)) ≡ flat_width s.width
      reference-field x i = field-bytes (flat_reference s x) (λ y e. reference-end-in x y i e)

      -- "Each survivor gives 205 bytes"
      pub record-bytes : (x : Node) → In x (tree_elements s) → length (flat_record s x) ≡ flat_length s.width
      unfolding flat_record flat_length
      record-bytes x i = rw (length-append, length-append, name-field x i, parent-field x i, reference-field x i) (omega arith)

      -- "the byte count 205 × count" is the table's length
      pub flat-bytes : length (flat s) ≡ flat_length s.width * length (survivors s)
      unfolding flat
      flat-bytes = joined_length (flat_record s) (flat_length s.width) (survivors s) (λ x i. record-bytes x (survivor s x i).0)
