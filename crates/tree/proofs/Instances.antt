-- Instances: their paths go from submodel to submodel, and row 7 leaves none out, nor any deeper than four.
-- Assumes nothing.
use Rattle.std.specs.Prelude.{None}
use mathlib.Core.Path.{◌≡◌, refl, ap}
use mathlib.Core.Logic.{inl, inr}
use Prim.Native.Nat.{ℕ, zero, suc, ◌+◌, ◌≤◌}
use native.Mathlib.Omega.{arith}
use mathlib.Core.Bool.{Bool, false, ◌||◌}
use mathlib.Core.List.{List, [], ◌∷◌, ◌++◌, map}
use lib.ListN.{length, take, length-take}
use lib.Dec.{ltb}
use borrow.Author.Tests.{ltb-false}
use Rattle.names.specs.Lists.{In, any, joined}
use Rattle.names.proofs.Tests.{or-none-left, or-none-right}
use Rattle.names.proofs.Lists.{not-any, in_map, map-in, in-joined, joined_in, empty, map_same}
use Rattle.recipe.specs.Records.{Recipe}
use Rattle.recipe.specs.Definitions.{main, submodels, model_of}
use Rattle.recipe.proofs.Rows.{not-at-start}
use Rattle.tree.specs.Tree.{most_depth, instances, paths_below, definition_below, Submodels, tree_elements}
use Rattle.tree.specs.Faults.{most_instances, is_too_large, fault₇, most_elements}

module _ (s : Recipe) where
  -- an instance's path is one
  pub below-submodels : (n d : ℕ) (path : List ℕ) → In path (paths_below n s d) → Submodels s d path
  unfolding paths_below
  below-submodels zero d path (inl p) = rw p tt
  below-submodels zero d path (inr i) = absurd i
  below-submodels (suc n) d path (inl p) = rw p tt
  below-submodels (suc n) d path (inr i) =
      let sub : ℕ → List (List ℕ) = λ m. map (λ rest. m ∷ rest) (paths_below n s (model_of s m)) in
      let l = in-joined (map sub (submodels s d)) path i in
      let m = in_map sub (submodels s d) l.0 l.1 in
      let r = in_map (λ rest. m.0 ∷ rest) (paths_below n s (model_of s m.0)) path (rw m.2 at l.2) in
      rw r.2 (m.1, below-submodels n (model_of s m.0) r.0 r.1)

  -- and a path of at most n submodels is an instance's
  pub submodels-below : (n d : ℕ) (path : List ℕ) → Submodels s d path → length path ≤ n → In path (paths_below n s d)
  unfolding paths_below
  submodels-below zero d [] h l = inl refl
  submodels-below zero d (m ∷ path) h l = absurd (omega arith)
  submodels-below (suc n) d [] h l = inl refl
  submodels-below (suc n) d (m ∷ path) h l =
      let sub : ℕ → List (List ℕ) = λ k. map (λ rest. k ∷ rest) (paths_below n s (model_of s k)) in
      inr (joined_in (map sub (submodels s d)) (sub m) (m ∷ path)
      (map-in sub (submodels s d) m h.0)
      (map-in (λ rest. m ∷ rest) (paths_below n s (model_of s m)) path (submodels-below n (model_of s m) path h.1 (omega arith))))

  pub submodels-append : (d : ℕ) (p q : List ℕ) → Submodels s d p → Submodels s (definition_below s d p) q → Submodels s d (p ++ q)
  unfolding definition_below
  submodels-append d [] q h k = k
  submodels-append d (m ∷ p) q h k = (h.0, submodels-append (model_of s m) p q h.1 k)

  pub below-append : (d : ℕ) (p q : List ℕ) → definition_below s d (p ++ q) ≡ definition_below s (definition_below s d p) q
  unfolding definition_below
  below-append d [] q = refl
  below-append d (m ∷ p) q = below-append (model_of s m) p q

  submodels-take : (k d : ℕ) (p : List ℕ) → Submodels s d p → Submodels s d (take k p)
  submodels-take zero d p h = tt
  submodels-take (suc k) d [] h = tt
  submodels-take (suc k) d (m ∷ p) h = (h.0, submodels-take k (model_of s m) p h.1)

  -- where no path is longer than n, looking deeper finds no more
  pub paths-suffice : (n m d : ℕ) → ((path : List ℕ) → Submodels s d path → length path ≤ n) → n ≤ m → paths_below m s d ≡ paths_below n s d
  unfolding paths_below
  paths-suffice zero zero d h l = refl
  paths-suffice zero (suc m) d h l =
      let none_in : (k : ℕ) → In k (submodels s d) → ⊥ = λ k i. let g : 1 ≤ 0 = h (k ∷ []) (i, tt) in omega arith in
      ap (λ (ks : List ℕ). [] ∷ joined (map (λ k. map (λ path. k ∷ path) (paths_below m s (model_of s k))) ks)) (empty (submodels s d) none_in)
  paths-suffice (suc n) zero d h l = absurd (omega arith)
  paths-suffice (suc n) (suc m) d h l =
      ap (λ (ls : List (List (List ℕ))). [] ∷ joined ls)
      (map_same (λ k. map (λ path. k ∷ path) (paths_below m s (model_of s k))) (λ k. map (λ path. k ∷ path) (paths_below n s (model_of s k))) (submodels s d)
      (λ k i.
      ap (map (λ path. k ∷ path))
      (paths-suffice n m (model_of s k) (λ path p. let g : suc (length path) ≤ suc n = h (k ∷ path) (i, p) in omega arith) (omega arith))))

  pub instance-path : (p : List ℕ) → In p (instances s) → Submodels s main p
  unfolding instances
  instance-path p i = below-submodels _ main p i

  -- ---- row 7
  module _ (h₇ : fault₇ s ≡ None) where
    not-too-large : is_too_large s ≡ false
    unfolding fault₇
    not-too-large = not-at-start (is_too_large s) h₇

    -- "depth over 4" does not apply
    pub depth : (path : List ℕ) → In path (instances s) → length path ≤ 4
    unfolding is_too_large most_depth
    depth path i =
        let deep : Bool = any (λ p. ltb 4 (length p)) (instances s) in
        let many : Bool = ltb most_instances (length (instances s)) in
        let d : deep ≡ false = or-none-right many deep (or-none-left (many || deep) _ not-too-large) in
        ltb-false 4 (length path) (not-any (λ p. ltb 4 (length p)) (instances s) path d i)

    -- "over 1,024 elements in the tree" does not apply
    pub elements-most : length (tree_elements s) ≤ most_elements
    unfolding is_too_large
    elements-most =
        ltb-false most_elements (length (tree_elements s))
        (or-none-right (ltb most_instances (length (instances s)) || any (λ p. ltb most_depth (length p)) (instances s)) _ not-too-large)

    -- no path of submodels from main is longer than four, so each is an instance's: looking no deeper leaves none out
    pub at-most-four : (p : List ℕ) → Submodels s main p → length p ≤ 4
    unfolding instances most_depth
    at-most-four p h =
        omega (arith, length-take 5 p, depth (take 5 p) (submodels-below 5 main (take 5 p) (submodels-take 5 main p h) (omega (arith, length-take 5 p))))

    -- looking deeper finds no more
    pub instances-suffice : (k : ℕ) → paths_below (5 + k) s main ≡ instances s
    unfolding instances most_depth
    instances-suffice k = paths-suffice 5 (5 + k) main (λ p h. omega (arith, at-most-four p h)) (omega arith)

    pub is-instance : (p : List ℕ) → Submodels s main p → In p (instances s)
    unfolding instances most_depth
    is-instance p h = submodels-below 5 main p h (omega (arith, at-most-four p h))
