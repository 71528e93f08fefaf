-- A prefix has at most w + 2 bytes, and a flat name fits its field: 14 and 68 where the name width w is 12.
-- Assumes nothing.
use Rattle.std.specs.Prelude.{None}
use mathlib.Core.Path.{◌≡◌}
use Prim.Native.Nat.{ℕ, ◌+◌, ◌*◌, ◌≤◌}
use native.Mathlib.Omega.{arith}
use native.Mathlib.Nat.{mul-suc, mul-le-mul_left}
use mathlib.Core.List.{List, [], ◌∷◌, map}
use lib.ListN.{length, length-append}
use Rattle.names.specs.Lists.{In, joined}
use Rattle.flat_table.specs.Table.{flat_width}
use Rattle.recipe.specs.Records.{Recipe, name}
use Rattle.recipe.specs.Definitions.{main, submodels, model_of}
use Rattle.recipe.specs.Reading.{fault₃}
use Rattle.recipe.proofs.Definitions.{name-short}
use Rattle.tree.specs.Tree.{Node, tree_elements, Submodels}
use Rattle.tree.specs.Faults.{fault₇}
use Rattle.tree.proofs.Nodes.{in_tree}
use Rattle.tree.proofs.Instances.{instance-path, at-most-four}
use Rattle.flat_names.specs.Prefixes.{prefix, flat_name}
use Rattle.flat_names.proofs.OneName.{prefix-count}

module _ (s : Recipe) (two : 2 ≤ s.width) (h₃ : fault₃ s ≡ None) where
  -- "the prefix at most 14 bytes"
  pub prefix-bytes : (d m : ℕ) → In m (submodels s d) → length (prefix s m) ≤ s.width + 2
  unfolding prefix
  prefix-bytes d m i = (prefix-count s two h₃ d m i).bytes

  pub prefixes-bytes : (d : ℕ) (p : List ℕ) → Submodels s d p → length (joined (map (prefix s) p)) ≤ (s.width + 2) * length p
  prefixes-bytes d [] h = omega arith
  prefixes-bytes d (m ∷ p) h =
      rw (length-append, mul-suc) (omega (arith, prefix-bytes d m h.0, prefixes-bytes (model_of s m) p h.1))

  module _ (h₇ : fault₇ s ≡ None) where
    -- "at most 68 bytes"
    pub flat-name-bytes : (x : Node) → In x (tree_elements s) → length (flat_name s x) ≤ flat_width s.width
    unfolding flat_name flat_width
    flat-name-bytes x i =
        let h : Submodels s main x.path = instance-path s x.path (in_tree s x i).0 in
        let four : (s.width + 2) * length x.path ≤ (s.width + 2) * 4 = mul-le-mul_left (s.width + 2) (at-most-four s h₇ x.path h) in
        omega (arith, length-append (joined (map (prefix s) x.path)) (name s x.place), prefixes-bytes main x.path h, name-short s x.place)
