-- Where a target is: below its record's definition, at the end of its path; and as many records on the way as there are definitions suffice.
-- Assumes nothing.
use Rattle.std.specs.Prelude.{None, Option, Some, option_map}
use mathlib.Core.Path.{◌≡◌, refl, sym, ap}
use Prim.Native.Nat.{ℕ, zero, suc, ◌+◌, ◌≤◌}
use native.Mathlib.Omega.{arith}
use mathlib.Core.Bool.{true, false}
use mathlib.Core.List.{List, [], ◌∷◌}
use lib.ListN.{length}
use lib.Dec.{eqb}
use Rattle.names.specs.Lists.{In}
use Rattle.names.specs.Names.{text, is_blank}
use Rattle.names.proofs.Tests.{by_cases, by-option, not_none, some-map}
use Rattle.names.proofs.Lists.{without, without-shorter, without_in}
use Rattle.recipe.specs.Records.{Recipe, places, submodel_field, target_field, way}
use Rattle.recipe.specs.Definitions.{definitions, holder, elements, submodels, ports, element_named, submodel_named, port_named, model_of}
use Rattle.recipe.specs.Reaching.{Reach, direct, onward}
use Rattle.recipe.specs.Reading.{fault₆}
use Rattle.recipe.proofs.Definitions.{in-elements, in-ports, element-named, submodel-named, port-named, holder_in}
use Rattle.recipe.proofs.Reaching.{reach-append, reach-in}
use Rattle.recipe.proofs.Rows.{no-cycle}
use Rattle.tree.specs.Tree.{Node, node, through, element_target, target_named, submodel_names, target_below, target_by, target_within, target, definition_below, Submodels}

module _ (s : Recipe) where
  -- ---- a path of submodels, with an element of the definition at its end
  abbrev pub Walk : ℕ → List ℕ → ℕ → Type 0
  Walk d [] e = In e (elements s d)
  Walk d (m ∷ path) e = In m (submodels s d) × Walk (model_of s m) path e

  pub walk_of : (d : ℕ) (path : List ℕ) (e : ℕ) → Submodels s d path → In e (elements s (definition_below s d path)) → Walk d path e
  unfolding definition_below
  walk_of d [] e h i = i
  walk_of d (m ∷ path) e h i = (h.0, walk_of (model_of s m) path e h.1 i)

  pub walk-submodels : (d : ℕ) (path : List ℕ) (e : ℕ) → Walk d path e → Submodels s d path
  walk-submodels d [] e w = tt
  walk-submodels d (m ∷ path) e w = (w.0, walk-submodels (model_of s m) path e w.1)

  pub walk-element : (d : ℕ) (path : List ℕ) (e : ℕ) → Walk d path e → In e (elements s (definition_below s d path))
  unfolding definition_below
  walk-element d [] e w = w
  walk-element d (m ∷ path) e w = walk-element (model_of s m) path e w.1

  pub walk-holder : (d : ℕ) (path : List ℕ) (e : ℕ) → Walk d path e → holder s e ≡ definition_below s d path
  walk-holder d path e w = (in-elements s (definition_below s d path) e (walk-element d path e w)).held

  -- by one submodel at least, it reaches the definition at its end
  pub walk-reach : (d m : ℕ) (path : List ℕ) (e : ℕ) → Walk d (m ∷ path) e → Reach s d (definition_below s d (m ∷ path))
  unfolding definition_below
  walk-reach d m [] e w = direct m w.0 refl
  walk-reach d m (k ∷ path) e w = onward m w.0 (walk-reach (model_of s m) k path e w.1)

  -- ---- the target of a port or mark is at the end of such a path
  abbrev At : ℕ → Node → Type 0
  At d x = Walk d x.path x.place

  -- "A target by element name is that element"
  element-target : (d : ℕ) (t : List ℕ) (x : Node) → element_target s d t ≡ Some x → (x.path ≡ []) × In x.place (elements s d)
  unfolding element_target node
  element-target d t x e =
      let r = some-map (node []) (element_named s d t) x e in
      rw r.2 (refl, (element-named s d t r.0 r.1).0)

  -- "A port with a blank submodel names an element of its own definition, never a port", whatever its way
  own-within : (n r : ℕ) (x : Node) → is_blank (submodel_field s r) ≡ true → target_within n s r ≡ Some x
      → element_target s (holder s r) (text (target_field s r)) ≡ Some x
  unfolding target_within target_by
  own-within zero r x k e = not_none e
  own-within (suc n) r x k e = rw (k, target_by) at e

  pub own-target : (r : ℕ) (x : Node) → is_blank (submodel_field s r) ≡ true → target s r ≡ Some x
      → element_target s (holder s r) (text (target_field s r)) ≡ Some x
  unfolding target
  own-target r x k e = own-within (length (definitions s)) r x k e

  -- the target that a name has in a definition, where its ports' targets are known
  named-target : (find : ℕ → Option Node) → ((q : ℕ) (y : Node) → find q ≡ Some y → At (holder s q) y)
      → (d w : ℕ) (t : List ℕ) (x : Node) → target_named s find d w t ≡ Some x → At d x
  unfolding target_named
  named-target find h d w t x e =
      by_cases (eqb w 0)
      (λ k. let r = element-target d t x (rw (k, target_named) at e) in rw r.0 r.1)
      (λ k. by-option (port_named s d t)
      (λ p. not_none (rw (k, target_named, p) at e))
      (λ q p. rw (in-ports s d q (port-named s d t q p).0).held at (h q x (rw (k, target_named, p) at e))))

  below-target : (find : ℕ → Option Node) → ((q : ℕ) (y : Node) → find q ≡ Some y → At (holder s q) y)
      → (d : ℕ) (ns : List (List ℕ)) (w : ℕ) (t : List ℕ) (x : Node) → target_below s find d ns w t ≡ Some x → At d x
  unfolding target_below through node
  below-target find h d [] w t x e = named-target find h d w t x e
  below-target find h d (k ∷ ns) w t x e =
      by-option (submodel_named s d k)
      (λ p. not_none (rw (p, target_below) at e))
      (λ m p.
      let y = some-map (through m) (target_below s find (model_of s m) ns w t) x (rw (p, target_below) at e) in
      rw y.2 ((submodel-named s d k m p).0, below-target find h (model_of s m) ns w t y.0 y.1))

  by-target : (find : ℕ → Option Node) → ((q : ℕ) (y : Node) → find q ≡ Some y → At (holder s q) y)
      → (r : ℕ) (x : Node) → target_by s find r ≡ Some x → At (holder s r) x
  unfolding target_by
  by-target find h r x e =
      by_cases (is_blank (submodel_field s r))
      (λ k. let t = element-target (holder s r) (text (target_field s r)) x (rw (k, target_by) at e) in rw t.0 t.1)
      (λ k. below-target find h (holder s r) (submodel_names s r) (way s r) (text (target_field s r)) x (rw (k, target_by) at e))

  pub within : (n r : ℕ) (x : Node) → target_within n s r ≡ Some x → Walk (holder s r) x.path x.place
  unfolding target_within
  within zero r x e = not_none e
  within (suc n) r x e = by-target (target_within n s) (λ q y h. within n q y h) r x e

  pub target-walk : (r : ℕ) (x : Node) → target s r ≡ Some x → Walk (holder s r) x.path x.place
  unfolding target
  target-walk r x e = within (length (definitions s)) r x e

  -- with a submodel named, it lies below
  by-nonempty : (find : ℕ → Option Node) (r : ℕ) (x : Node) → is_blank (submodel_field s r) ≡ false → target_by s find r ≡ Some x
      → 1 ≤ length x.path
  unfolding target_by target_below submodel_names through node
  by-nonempty find r x k e =
      by-option (submodel_named s (holder s r) (text (submodel_field s r)))
      (λ p. not_none (rw (k, target_by, p, target_below) at e))
      (λ m p.
      let t = some-map (through m) (target_below s find (model_of s m) [] (way s r) (text (target_field s r))) x (rw (k, target_by, p, target_below) at e) in
      rw t.2 (omega arith))

  nonempty : (n r : ℕ) (x : Node) → is_blank (submodel_field s r) ≡ false → target_within n s r ≡ Some x → 1 ≤ length x.path
  unfolding target_within
  nonempty zero r x k e = not_none e
  nonempty (suc n) r x k e = by-nonempty (target_within n s) r x k e

  pub target_below_lem : (r : ℕ) (x : Node) → is_blank (submodel_field s r) ≡ false → target s r ≡ Some x → 1 ≤ length x.path
  unfolding target
  target_below_lem r x k e = nonempty (length (definitions s)) r x k e

  -- ---- more records on the way change nothing, where row 6 does not apply
  module _ (f g : ℕ → Option Node) where
    -- the ports of a definition have one target by f and by g
    abbrev pub Agree : ℕ → Type 0
    Agree d = (q : ℕ) → In q (ports s d) → f q ≡ g q

    named-same : (d w : ℕ) (t : List ℕ) → Agree d → target_named s f d w t ≡ target_named s g d w t
    unfolding target_named
    named-same d w t h =
        by_cases (eqb w 0)
        (λ k. rw (k, target_named))
        (λ k. by-option (port_named s d t)
        (λ p. rw (k, target_named, p))
        (λ q p. rw (k, target_named, p) (h q (port-named s d t q p).0)))

    below-same : (d : ℕ) (ns : List (List ℕ)) (w : ℕ) (t : List ℕ) → Agree d → ((e : ℕ) → Reach s d e → Agree e)
        → target_below s f d ns w t ≡ target_below s g d ns w t
    unfolding target_below
    below-same d [] w t a h = named-same d w t a
    below-same d (k ∷ ns) w t a h =
        by-option (submodel_named s d k)
        (λ p. rw (p, target_below))
        (λ m p.
        let i = (submodel-named s d k m p).0 in
        rw (p, target_below)
        (ap (option_map (through m)) (below-same (model_of s m) ns w t (h (model_of s m) (direct m i refl)) (λ e r. h e (onward m i r)))))

    pub by-same : (r : ℕ) → ((e : ℕ) → Reach s (holder s r) e → Agree e) → target_by s f r ≡ target_by s g r
    unfolding target_by submodel_names target_below
    by-same r h =
        by_cases (is_blank (submodel_field s r))
        (λ k. rw (k, target_by))
        (λ k. by-option (submodel_named s (holder s r) (text (submodel_field s r)))
        (λ p. rw (k, target_by, p, target_below))
        (λ m p.
        let i = (submodel-named s (holder s r) (text (submodel_field s r)) m p).0 in
        rw (k, target_by, p, target_below)
        (ap (option_map (through m))
        (below-same (model_of s m) [] (way s r) (text (target_field s r)) (h (model_of s m) (direct m i refl)) (λ e c. h e (onward m i c))))))

  module _ (h₆ : fault₆ s ≡ None) where
    -- all that is reached from the record's definition is among xs: as many records as these suffice
    settled : (n m : ℕ) (xs : List ℕ) (r : ℕ) → length xs ≤ n → length xs ≤ m → In (holder s r) xs → In (holder s r) (definitions s)
        → ((e : ℕ) → Reach s (holder s r) e → In e xs) → target_within n s r ≡ target_within m s r
    unfolding target_within
    settled zero m [] r l k i j h = absurd i
    settled zero m (x ∷ xs) r l k i j h = absurd (omega arith)
    settled (suc n) zero [] r l k i j h = absurd i
    settled (suc n) zero (x ∷ xs) r l k i j h = absurd (omega arith)
    settled (suc n) (suc m) xs r l k i j h =
        let d : ℕ = holder s r in
        let short = without-shorter d xs i in
        by-same (target_within n s) (target_within m s) r
        (λ e c q u.
        let held : e ≡ holder s q = sym (in-ports s e q u).held in
        let c' : Reach s d (holder s q) = rw held at c in
        settled n m (without d xs) q (omega arith) (omega arith)
        (without_in d xs (holder s q) (h (holder s q) c') (λ p. no-cycle s h₆ d j (rw p at c')))
        (reach-in s c')
        (λ e' c''. without_in d xs e' (h e' (reach-append s c' c'')) (λ p. no-cycle s h₆ d j (rw p at (reach-append s c' c'')))))

    pub target-suffices : (k r : ℕ) → In r (places s) → target_within (length (definitions s) + k) s r ≡ target s r
    unfolding target
    target-suffices k r i =
        settled (length (definitions s) + k) (length (definitions s)) (definitions s) r (omega arith) (omega arith)
        (holder_in s r i) (holder_in s r i) (λ e c. reach-in s c)
