-- Tree order: no element of the tree stands twice in it, and of two elements of one instance the earlier record comes first.
-- Assumes nothing.
use mathlib.Core.Path.{◌≡◌, refl, sym, ap, ◌∙◌, subst}
use mathlib.Core.Logic.{inl, inr, ⊎_elim}
use Prim.Native.Nat.{ℕ, zero, suc, ◌<◌}
use native.Mathlib.Omega.{arith}
use mathlib.Core.Bool.{Bool, not, ◌&&◌}
use mathlib.Core.List.{List, [], ◌∷◌, map}
use lib.Dec.{eqb}
use Rattle.names.specs.Lists.{In, keep}
use Rattle.names.proofs.Lists.{in-keep, in_map, map-in, in-joined}
use Rattle.names.proofs.ListOrder.{Earlier, earlier-keep, keep-earlier, earlier-joined, Within, Across, joined-earlier, earlier-map, map-earlier, earlier-less, less-earlier}
use Rattle.recipe.specs.Records.{Recipe, places, is_model, is_element, is_submodel}
use Rattle.recipe.specs.Definitions.{main, holder, records_of, submodels, model_of}
use Rattle.recipe.proofs.Reading.{places-rise}
use Rattle.tree.specs.Tree.{Node, node, instances, paths_below, definition_at, nodes, tree_elements}
use Rattle.tree.proofs.Nodes.{node-eq, in-nodes}

module _ (s : Recipe) where
  -- ---- records of a definition stand in the order of their places
  records-less : (d a b : ℕ) → Earlier a b (records_of s d) → a < b
  unfolding records_of
  records-less d a b e =
      earlier-less 0 (places s) a b (places-rise s) (keep-earlier (λ p. not (is_model s p) && eqb (holder s p) d) (places s) a b e)

  kept_less : (t : ℕ → Bool) (d a b : ℕ) → Earlier a b (keep t (records_of s d)) → a < b
  kept_less t d a b e = records-less d a b (keep-earlier t (records_of s d) a b e)

  less-records : (d a b : ℕ) → In a (records_of s d) → In b (records_of s d) → a < b → Earlier a b (records_of s d)
  unfolding records_of
  less-records d a b i j l =
      let t : ℕ → Bool = λ p. not (is_model s p) && eqb (holder s p) d in
      let p = in-keep t (places s) a i in
      let q = in-keep t (places s) b j in
      earlier-keep t (places s) a b (less-earlier 0 (places s) a b (places-rise s) p.0 q.0 l) p.1 q.1

  -- ---- no instance stands twice
  abbrev sub : ℕ → ℕ → List (List ℕ)
  sub n m = map (λ rest. m ∷ rest) (paths_below n s (model_of s m))

  -- the first submodel of a path below m is m
  below : (n m : ℕ) (path : List ℕ) → In path (sub n m) → (rest : List ℕ) × (path ≡ m ∷ rest)
  below n m path i = let r = in_map (λ rest. m ∷ rest) (paths_below n s (model_of s m)) path i in (r.0, r.2)

  paths-distinct : (n d : ℕ) (path : List ℕ) → Earlier path path (paths_below n s d) → ⊥
  unfolding paths_below submodels
  paths-distinct zero d path (inl h) = h.1
  paths-distinct zero d path (inr e) = e
  paths-distinct (suc n) d path (inl h) =
      let l = in-joined (map (sub n) (submodels s d)) path h.1 in
      let m = in_map (sub n) (submodels s d) l.0 l.1 in
      let r = below n m.0 path (rw m.2 at l.2) in
      let p : path ≡ [] = h.0 in
      let q : path ≡ m.0 ∷ r.0 = r.1 in
      let z : ◌≡◌ {A = ℕ} 0 1 = cc in
      omega arith
  paths-distinct (suc n) d path (inr e) =
      ⊎_elim
      (λ (w : Within (map (sub n) (submodels s d)) path path).
      let m = in_map (sub n) (submodels s d) w.0 w.1 in
      let r = map-earlier (λ rest. m.0 ∷ rest) (paths_below n s (model_of s m.0)) path path (rw m.2 at w.2) in
      let p : path ≡ m.0 ∷ r.0 = r.3 in
      let q : path ≡ m.0 ∷ r.1 = r.4 in
      let same : r.1 ≡ r.0 = cc in
      paths-distinct n (model_of s m.0) r.0 (rw same at r.2))
      (λ (w : Across (map (sub n) (submodels s d)) path path).
      let r = map-earlier (sub n) (submodels s d) w.0 w.1 w.2 in
      let a = below n r.0 path (rw r.3 at w.3) in
      let b = below n r.1 path (rw r.4 at w.4) in
      let p : path ≡ r.0 ∷ a.0 = a.1 in
      let q : path ≡ r.1 ∷ b.0 = b.1 in
      let same : r.0 ≡ r.1 = cc in
      omega (arith, kept_less (is_submodel s) d r.0 r.1 r.2))
      (joined-earlier (map (sub n) (submodels s d)) path path e)

  instances-distinct : (path : List ℕ) → Earlier path path (instances s) → ⊥
  unfolding instances
  instances-distinct path e = paths-distinct _ main path e

  -- ---- nor a node
  abbrev at : (ℕ → Bool) → List ℕ → List Node
  at t path = map (node path) (keep t (records_of s (definition_at s path)))

  nodes-distinct : (t : ℕ → Bool) (x : Node) → Earlier x x (nodes s t) → ⊥
  unfolding nodes node
  nodes-distinct t x e =
      ⊎_elim
      (λ (w : Within (map (at t) (instances s)) x x).
      let m = in_map (at t) (instances s) w.0 w.1 in
      let r = map-earlier (node m.0) (keep t (records_of s (definition_at s m.0))) x x (rw m.2 at w.2) in
      let same : r.0 ≡ r.1 = sym (ap (λ (y : Node). y.place) r.3) ∙ ap (λ (y : Node). y.place) r.4 in
      omega (arith, kept_less t (definition_at s m.0) r.0 r.1 r.2))
      (λ (w : Across (map (at t) (instances s)) x x).
      let r = map-earlier (at t) (instances s) w.0 w.1 w.2 in
      let a = in_map (node r.0) (keep t (records_of s (definition_at s r.0))) x (rw r.3 at w.3) in
      let b = in_map (node r.1) (keep t (records_of s (definition_at s r.1))) x (rw r.4 at w.4) in
      let same : r.1 ≡ r.0 = sym (ap (λ (y : Node). y.path) b.2) ∙ ap (λ (y : Node). y.path) a.2 in
      instances-distinct r.0 (rw same at r.2))
      (joined-earlier (map (at t) (instances s)) x x e)

  pub elements-distinct : (x : Node) → Earlier x x (tree_elements s) → ⊥
  unfolding tree_elements
  elements-distinct x e = nodes-distinct (is_element s) x e

  -- ---- "an instance's elements in record order"
  pub instance-order : (x y : Node) → In x (tree_elements s) → In y (tree_elements s) → x.path ≡ y.path → x.place < y.place → Earlier x y (tree_elements s)
  unfolding tree_elements nodes node
  instance-order x y i j p l =
      let a = in-nodes s (is_element s) x i in
      let b = in-nodes s (is_element s) y j in
      let d : ℕ = definition_at s y.path in
      let h : In x.place (records_of s d) = rw p at a.inside in
      let e = earlier-map (node y.path) (keep (is_element s) (records_of s d)) x.place y.place
      (earlier-keep (is_element s) (records_of s d) x.place y.place (less-records d x.place y.place h b.inside l) a.passes b.passes) in
      earlier-joined (map (at (is_element s)) (instances s)) (at (is_element s) y.path) x y
      (map-in (at (is_element s)) (instances s) y.path b.instance)
      (subst (λ (z : Node). Earlier z y (at (is_element s) y.path)) (node-eq {x = node y.path x.place} {y = x} (sym p) refl) e)
