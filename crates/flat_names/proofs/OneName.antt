-- No two elements of the tree have one flat name, in a recipe that rows 3 and 4 do not refuse; nor two prefixes of one definition.
-- Assumes nothing.
use Rattle.std.specs.Prelude.{None}
use mathlib.Core.Path.{◌≡◌}
use mathlib.Core.Logic.{⊎_elim}
use Prim.Native.Nat.{ℕ, ◌≤◌}
use mathlib.Core.Bool.{true, false}
use mathlib.Core.List.{List, ◌++◌}
use lib.ListN.{length}
use Rattle.names.specs.Lists.{In, keep, begins}
use Rattle.names.specs.Names.{underscore}
use Rattle.names.proofs.Tests.{not-both}
use Rattle.names.proofs.Lists.{in_map, map-in, keep-in, in-append, append_left, append_right, not-any, begins-append}
use Rattle.recipe.specs.Records.{Recipe, name}
use Rattle.recipe.specs.Definitions.{main, holder, records_of, elements, submodels, model_of, is_declared}
use Rattle.recipe.specs.Reading.{fault₃, fault₄}
use Rattle.recipe.proofs.Definitions.{name-short, in-elements, in-submodels}
use Rattle.recipe.proofs.Rows.{submodel-name, submodel-end, element-declared, submodel-declared, one-record}
use Rattle.tree.specs.Tree.{Node, definition_at, tree_elements}
use Rattle.tree.proofs.Nodes.{in_tree, node-eq}
use Rattle.tree.proofs.Instances.{instance-path}
use Rattle.tree.proofs.Targets.{Walk, walk_of}
use Rattle.flat_names.specs.Prefixes.{declared_names, names_around, with_underscores, is_taken, fewest, prefix, flat_name}
use Rattle.flat_names.proofs.Fewest.{Short, short, Count, fewest-count}
use Rattle.flat_names.proofs.Apart.{same_name, Apart, one_name}

module _ (s : Recipe) where
  -- ---- the names around a submodel
  declared-short : (d : ℕ) (n : List ℕ) → In n (declared_names s d) → length n ≤ s.width
  unfolding declared_names
  declared-short d n i =
      let r = in_map (name s) (keep (is_declared s) (records_of s d)) n i in
      rw r.2 (name-short s r.0)

  pub names-short : (m : ℕ) → Short s.width (names_around s m)
  unfolding names_around
  names-short m =
      short s.width (declared_names s (holder s m) ++ declared_names s (model_of s m))
      (λ n i. ⊎_elim (declared-short (holder s m) n) (declared-short (model_of s m) n)
      (in-append (declared_names s (holder s m)) (declared_names s (model_of s m)) n i))

  declared-in : (d p : ℕ) → In p (records_of s d) → is_declared s p ≡ true → In (name s p) (declared_names s d)
  unfolding declared_names
  declared-in d p i k = map-in (name s) (keep (is_declared s) (records_of s d)) p (keep-in (is_declared s) (records_of s d) p i k)

  element-in : (d e : ℕ) → In e (elements s d) → In (name s e) (declared_names s d)
  element-in d e i = declared-in d e (in-elements s d e i).inside (element-declared s d e i).is

  submodel-in : (d m : ℕ) → In m (submodels s d) → In (name s m) (declared_names s d)
  submodel-in d m i = declared-in d m (in-submodels s d m i).inside (submodel-declared s d m i).is

  module _ (two : 2 ≤ s.width) (h₃ : fault₃ s ≡ None) where
    -- "the fewest underscores": 2 to w, free, every smaller taken; "the prefix at most 14 bytes", w + 2
    pub prefix-count : (d m : ℕ) → In m (submodels s d) → Count s.width (names_around s m) (name s m) (fewest s.width (names_around s m) (name s m))
    prefix-count d m i = fewest-count s.width two (names_around s m) (name s m) (names-short m) (submodel-name s h₃ d m i) (name-short s m)

    -- no name of the containing definition begins with a submodel's prefix
    pub free-prefix : (d m : ℕ) (n : List ℕ) → In m (submodels s d) → In n (declared_names s d) → begins (prefix s m) n ≡ false
    unfolding prefix is_taken names_around
    free-prefix d m n i j =
        let here : In n (declared_names s (holder s m)) = rw (in-submodels s d m i).held j in
        not-any (begins (prefix s m)) (names_around s m) n (prefix-count d m i).free (append_left (declared_names s (holder s m)) (declared_names s (model_of s m)) n here)

    -- nor one of the instantiated definition
    pub free-prefix-inside : (d m : ℕ) (n : List ℕ) → In m (submodels s d) → In n (declared_names s (model_of s m)) → begins (prefix s m) n ≡ false
    unfolding prefix is_taken names_around
    free-prefix-inside d m n i j =
        not-any (begins (prefix s m)) (names_around s m) n (prefix-count d m i).free (append_right (declared_names s (holder s m)) (declared_names s (model_of s m)) n j)

    module _ (h₄ : fault₄ s ≡ None) where
      apart : Apart s
      unfolding prefix with_underscores
      apart =
          record {
            elements-apart = λ d e f i j h. one-record s h₄ d e f (element-declared s d e i) (element-declared s d f j) h;
            submodels-apart = λ d m n a b i j h.
                one-record s h₄ d m n (submodel-declared s d m i) (submodel-declared s d n j)
                (same_name underscore 0 0 (name s m) (name s n) (count m) (count n) a b (submodel-end s h₃ d m i) (submodel-end s h₃ d n j)
                (free-prefix d m (name s n) i (submodel-in d n j))
                (free-prefix d n (name s m) j (submodel-in d m i))
                h);
            mixed-apart = λ d e m a i j h.
                not-both (begins-append (prefix s m) a) (rw h at (free-prefix d m (name s e) j (element-in d e i)));
          }
        where
          count : ℕ → ℕ
          count m = fewest s.width (names_around s m) (name s m)

      -- an element of the tree is reached through submodels
      tree-walk : (x : Node) → In x (tree_elements s) → Walk s main x.path x.place
      unfolding definition_at
      tree-walk x i = let a = in_tree s x i in walk_of s main x.path x.place (instance-path s x.path a.0) a.1

      -- one flat name, one element of the tree
      pub flat-names-differ : (x y : Node) → In x (tree_elements s) → In y (tree_elements s) → flat_name s x ≡ flat_name s y → x ≡ y
      unfolding flat_name
      flat-names-differ x y i j h =
          let r = one_name s apart main x.path y.path x.place y.place (tree-walk x i) (tree-walk y j) h in
          node-eq r.0 r.1
