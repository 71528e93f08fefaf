-- Resolving a port or mark: the record that it names, and what follows of its target.
-- Assumes nothing.
use Rattle.std.specs.Prelude.{None, Option, Some, is_some, option_map, unwrap_or}
use Prim.Native.Nat.{◌+◌, ◌<◌, ◌≤◌, suc, ℕ}
use borrow.Author.Tests.{eqb-true, not-false, not-true}
use lib.Dec.{eqb}
use lib.ListN.{get_or, length}
use mathlib.Core.Bool.{◌&&◌, ◌||◌, false, not, true}
use mathlib.Core.List.{List, [], ◌∷◌}
use mathlib.Core.Logic.{◌⊎◌, inl, inr, ⊎_elim}
use mathlib.Core.Path.{◌∙◌, ◌≡◌, ap, refl, sym}
use native.Mathlib.Omega.{arith}
use Rattle.names.specs.Lists.{In, same}
use Rattle.names.specs.Names.{is_blank, text}
use Rattle.names.proofs.Lists.{in-keep, none_first, some_first}
use Rattle.names.proofs.Tests.{is-some, and_left, by_cases, by-option, is_some-map, not-both, or-none-left, or_right}
use Rattle.recipe.specs.Definitions.{holder, model_of, named, records_of, submodel_named, submodels, named_by, submodel_of}
use Rattle.recipe.specs.Reading.{fault₅, is_port_fault, is_submodel_field_fault, is_undeclared}
use Rattle.recipe.specs.Records.{Recipe, is_deletion, is_element, is_mark, is_model, is_pointer, is_port, is_replaced_by, is_replacement, is_submodel, kind, name, places, submodel_field, target_field, way}
use Rattle.recipe.proofs.Bodies.{by-pointer, pointer-kind}
use Rattle.recipe.proofs.Definitions.{Held, element-named, in-elements, in-ports, in-submodels, port-named}
use Rattle.recipe.proofs.Reading.{first-model, readable}
use Rattle.shadow.specs.Columns.{Linked, Measured, order}
use Rattle.shadow.specs.Shadow.{Shadowed}
use Rattle.shadow.proofs.Cells.{row_room}
use Rattle.tree.specs.Numbers.{ahead, first_below, number_in}
use Rattle.targets.specs.Resolve.{Keeps, OffsetOf}
use Rattle.tree.specs.Tree.{Node, definition_below, element_target, node, submodel_names, target, target_below, target_by, target_named, target_within, through}
use Rattle.tree.specs.Walk.{OffsetsKnown, OffsetRight}
use Rattle.targets.proofs.ByHeight.{target-by-height}

module _ (s : Recipe) where
  -- ---- a pointer's submodel, by row 5
  sub-there : fault₅ s ≡ None → (r : ℕ) → In r (places s) → is_mark s r || is_port s r ≡ true → is_blank (submodel_field s r) ≡ false
      → submodel_named s (holder s r) (text (submodel_field s r)) ≡ Some (submodel_of s r)
  unfolding fault₅ is_undeclared is_port_fault is_submodel_field_fault is_model is_element is_port is_submodel is_mark is_deletion is_replacement is_replaced_by submodel_of
  sub-there h r i k b =
      let u : is_undeclared s r ≡ false = none_first (is_undeclared s) (places s) r h i in
      let o = submodel_named s (holder s r) (text (submodel_field s r)) in
      let t : is_some o ≡ true = not-false (is_some o)
      (by-pointer (λ j. kind s r ≡ j → not (is_some o) ≡ false)
      (λ e. rw (e, b) at u)
      (λ e. or-none-left (not (is_some o)) _ (rw e at u))
      (λ e. or-none-left (not (is_some o)) _ (rw e at u))
      (λ e. or-none-left (not (is_some o)) _ (rw e at u))
      (kind s r) (sym (pointer-kind s r) ∙ k) refl) in
      let e = is-some o t in
      e.1 ∙ ap Some (sym (ap (λ (z : Option ℕ). unwrap_or z 0) e.1))

  pub sub_in : fault₅ s ≡ None → (r : ℕ) → In r (places s) → is_mark s r || is_port s r ≡ true → is_blank (submodel_field s r) ≡ false
      → In (submodel_of s r) (submodels s (holder s r))
  unfolding submodel_named named
  sub_in h r i k b = (some_first (λ p. same (name s p) (text (submodel_field s r))) (submodels s (holder s r)) (submodel_of s r) (sub-there h r i k b)).0

  -- ---- the first record is a model, so 0 is no element, port or submodel
  pub not-zero : (d p : ℕ) → In p (records_of s d) → p ≡ 0 → ⊥
  unfolding records_of
  not-zero d p i z =
      let k = in-keep (λ q. not (is_model s q) && eqb (holder s q) d) (places s) p i in
      let m : is_model s 0 ≡ false = rw z at (not-true (is_model s p) (and_left (not (is_model s p)) _ k.1)) in
      not-both (first-model s (rw z at (readable s p k.0))) m

  -- ---- what is named, an element or a port
  named_blank : (r x : ℕ) → is_blank (submodel_field s r) ≡ true → named_by s r ≡ Some x → Held s (is_element s) (holder s r) x
  unfolding named_by
  named_blank r x b e = in-elements s (holder s r) x (element-named s (holder s r) (text (target_field s r)) x (rw b at e)).0

  named-below : (r x : ℕ) → is_blank (submodel_field s r) ≡ false → named_by s r ≡ Some x
      → ((eqb (way s r) 0 ≡ true) × Held s (is_element s) (model_of s (submodel_of s r)) x) ⊎ ((eqb (way s r) 0 ≡ false) × Held s (is_port s) (model_of s (submodel_of s r)) x)
  unfolding named_by
  named-below r x b e =
      let m = model_of s (submodel_of s r) in
      by_cases (eqb (way s r) 0)
      (λ w. inl (w, in-elements s m x (element-named s m (text (target_field s r)) x (rw (b, w) at e)).0))
      (λ w. inr (w, in-ports s m x (port-named s m (text (target_field s r)) x (rw (b, w) at e)).0))

  -- ---- targets, one record further
  target-blank : (n r : ℕ) → is_blank (submodel_field s r) ≡ true → target_within (suc n) s r ≡ option_map (node []) (named_by s r)
  unfolding target_within target_by named_by element_target
  target-blank n r b = rw (b, target_by)

  target-way : (n r : ℕ) → fault₅ s ≡ None → In r (places s) → is_mark s r || is_port s r ≡ true → is_blank (submodel_field s r) ≡ false
      → target_within (suc n) s r ≡ option_map (through (submodel_of s r)) (target_named s (target_within n s) (model_of s (submodel_of s r)) (way s r) (text (target_field s r)))
  unfolding target_within target_by submodel_names target_below
  target-way n r h i k b = rw (b, target_by, sub-there h r i k b, target_below)

  named_none : (n r : ℕ) → is_blank (submodel_field s r) ≡ false → named_by s r ≡ None
      → target_named s (target_within n s) (model_of s (submodel_of s r)) (way s r) (text (target_field s r)) ≡ None
  unfolding named_by target_named element_target
  named_none n r b e =
      by_cases (eqb (way s r) 0)
      (λ w. rw (w, target_named, rw (b, w) at e))
      (λ w. rw (w, target_named, rw (b, w) at e))

  named-element : (n r x : ℕ) → is_blank (submodel_field s r) ≡ false → named_by s r ≡ Some x → eqb (way s r) 0 ≡ true
      → target_named s (target_within n s) (model_of s (submodel_of s r)) (way s r) (text (target_field s r)) ≡ Some (node [] x)
  unfolding named_by target_named element_target
  named-element n r x b e w = rw (w, target_named, rw (b, w) at e)

  named-port : (n r x : ℕ) → is_blank (submodel_field s r) ≡ false → named_by s r ≡ Some x → eqb (way s r) 0 ≡ false
      → target_named s (target_within n s) (model_of s (submodel_of s r)) (way s r) (text (target_field s r)) ≡ target_within n s x
  unfolding named_by target_named
  named-port n r x b e w = rw (w, target_named, rw (b, w) at e)

  -- ---- numbers, one record further
  number-own : (d x : ℕ) → number_in s d (node [] x) ≡ order s d x
  unfolding number_in node first_below definition_below
  number-own d x = omega arith

  number-through : (d m : ℕ) (y : Node) → number_in s d (through m y) ≡ ahead s d m + number_in s (model_of s m) y
  unfolding number_in through node first_below definition_below
  number-through d m y = omega arith

  pub known-down : (t : List ℕ) (d m : ℕ) → In m (submodels s d) → OffsetsKnown s t d → OffsetsKnown s t (model_of s m)
  unfolding definition_below
  known-down t d m i k path p j = k (m ∷ path) (i, p) j

  known-here : (t : List ℕ) (d m : ℕ) → In m (submodels s d) → OffsetsKnown s t d → OffsetRight s t m
  unfolding definition_below
  known-here t d m i k = k [] tt m i

module _ {s : Recipe} {t : List ℕ} (M : Measured s t) (r : ℕ) (here : In r (places s)) (sort : is_pointer s r ≡ true) where
  L : Linked s t
  L = M.linked

  c₀ : Shadowed s t
  c₀ = L.numbered.shadowed

  pub own_row : r + 13 ≤ length t
  own_row = row_room c₀ r here

  -- its target, by one record more than its definition is high
  abbrev h : ℕ
  h = get_or t (holder s r + 6) 0

  by_one : target s r ≡ target_within (suc h) s r
  by_one = target-by-height M (suc h) r here (omega arith)

  named-zero : (x : ℕ) → named_by s r ≡ Some x → x ≡ 0 → ⊥
  named-zero x e =
      by_cases (is_blank (submodel_field s r))
      (λ b. not-zero s (holder s r) x (named_blank s r x b e).inside)
      (λ b. ⊎_elim (λ (w : (eqb (way s r) 0 ≡ true) × Held s (is_element s) (model_of s (submodel_of s r)) x). not-zero s _ x w.1.inside)
      (λ (w : (eqb (way s r) 0 ≡ false) × Held s (is_port s) (model_of s (submodel_of s r)) x). not-zero s _ x w.1.inside) (named-below s r x b e))

  next-none : {x : ℕ} → x ≡ get_or t (r + 5) 0 → x ≡ 0 → named_by s r ≡ None
  next-none q z =
      by-option (named_by s r) (λ e. e)
      (λ y e. absurd (named-zero y e (sym (L.named-records r here sort ∙ ap (λ (o : Option ℕ). unwrap_or o 0) e) ∙ sym q ∙ z)))

  next-some : {x : ℕ} → x ≡ get_or t (r + 5) 0 → (x ≡ 0 → ⊥) → named_by s r ≡ Some x
  next-some q z =
      by-option (named_by s r)
      (λ e. absurd (z (q ∙ L.named-records r here sort ∙ ap (λ (o : Option ℕ). unwrap_or o 0) e)))
      (λ y e. e ∙ ap Some (sym (q ∙ L.named-records r here sort ∙ ap (λ (o : Option ℕ). unwrap_or o 0) e)))

  sub_held : is_blank (submodel_field s r) ≡ false → In (submodel_of s r) (submodels s (holder s r))
  sub_held b = sub_in s L.row₅ r here sort b

  -- the cell of the submodel
  filled-cell : is_blank (submodel_field s r) ≡ false → (get_or t (r + 4) 0 ≡ submodel_of s r) × (get_or t (r + 4) 0 ≡ 0 → ⊥)
  filled-cell b =
      let e = L.named-submodels r here sort b in
      (e, λ z. not-zero s (holder s r) (submodel_of s r) (in-submodels s (holder s r) (submodel_of s r) (sub_held b)).inside (sym e ∙ z))

  pub offset-room : get_or t (r + 4) 0 + 7 < length t
  offset-room =
      by_cases (is_blank (submodel_field s r))
      (λ b. omega (arith, L.no-submodels r here sort b, own_row))
      (λ b. rw (filled-cell b).0 (omega (arith, row_room c₀ (submodel_of s r) (in-submodels s (holder s r) (submodel_of s r) (sub_held b)).placed)))

  -- no record is named
  pub no_target : {x : ℕ} → x ≡ get_or t (r + 5) 0 → x ≡ 0 → target s r ≡ None
  no_target q z =
      by_one
      ∙ by_cases (is_blank (submodel_field s r))
      (λ b. target-blank s h r b ∙ ap (option_map (node [])) (next-none q z))
      (λ b. target-way s h r L.row₅ here sort b ∙ ap (option_map (through (submodel_of s r))) (named_none s h r b (next-none q z)))

  offset-is : {f : ℕ} → OffsetOf t r f → is_blank (submodel_field s r) ≡ false → OffsetsKnown s t (holder s r) → f ≡ ahead s (holder s r) (submodel_of s r)
  offset-is o b k =
      let q = filled-cell b in
      let held = (in-submodels s (holder s r) (submodel_of s r) (sub_held b)).held in
      o.filled q.1 ∙ ap (λ (z : ℕ). get_or t (z + 7) 0) q.0 ∙ known-here s t (holder s r) (submodel_of s r) (sub_held b) k
      ∙ ap (λ (d : ℕ). ahead s d (submodel_of s r)) held

  module _ {x : ℕ} (q : x ≡ get_or t (r + 5) 0) (z : x ≡ 0 → ⊥) where
    is-named : named_by s r ≡ Some x
    is-named = next-some q z

    pub named-place : In x (places s)
    named-place =
        by_cases (is_blank (submodel_field s r))
        (λ b. (named_blank s r x b is-named).placed)
        (λ b. ⊎_elim (λ (w : (eqb (way s r) 0 ≡ true) × Held s (is_element s) (model_of s (submodel_of s r)) x). w.1.placed)
        (λ (w : (eqb (way s r) 0 ≡ false) × Held s (is_port s) (model_of s (submodel_of s r)) x). w.1.placed) (named-below s r x b is-named))

    pub named-row : x + 13 ≤ length t
    named-row = row_room c₀ x named-place

    element-not-port : get_or s.bytes x 0 ≡ 2 → is_port s x ≡ true → ⊥
    unfolding is_port kind
    element-not-port k e = let y = eqb-true (get_or s.bytes x 0) 3 e in omega arith

    element-kind : is_element s x ≡ true → get_or s.bytes x 0 ≡ 2
    unfolding is_element kind
    element-kind e = eqb-true (get_or s.bytes x 0) 2 e

    order_is : {d g : ℕ} → Held s (is_element s) d x → g ≡ get_or t (x + 1) 0 → g ≡ order s d x
    order_is E e = e ∙ L.numbered.orders x E.placed E.passes ∙ ap (λ (d : ℕ). order s d x) E.held

    -- an element: the target
    pub element-keeps : {f g num : ℕ} → get_or s.bytes x 0 ≡ 2 → OffsetOf t r f → g ≡ get_or t (x + 1) 0 → (f + g < 65536 → num ≡ f + g) → Keeps s t r x num
    unfolding node through
    element-keeps {f} {g} {num} k o e a =
        by_cases (is_blank (submodel_field s r))
        (λ b.
        let E = named_blank s r x b is-named in
        let v : number_in s (holder s r) (node [] x) ≡ f + g =
        omega (arith, number-own s (holder s r) x, order_is E e, o.blank (L.no-submodels r here sort b)) in record {
          node = node [] x;
          there = by_one ∙ target-blank s h r b ∙ ap (option_map (node [])) is-named;
          at = refl;
          counts = λ kn l. a (omega arith) ∙ sym v;
        })
        (λ b.
        let m = submodel_of s r in
        ⊎_elim
        (λ (w : (eqb (way s r) 0 ≡ true) × Held s (is_element s) (model_of s m) x).
        let v : OffsetsKnown s t (holder s r) → number_in s (holder s r) (through m (node [] x)) ≡ f + g = λ kn.
        omega (arith, number-through s (holder s r) m (node [] x), number-own s (model_of s m) x, order_is w.1 e, offset-is o b kn) in record {
          node = through m (node [] x);
          there = by_one ∙ target-way s h r L.row₅ here sort b ∙ ap (option_map (through m)) (named-element s h r x b is-named w.0);
          at = refl;
          counts = λ kn l. a (omega (arith, v kn)) ∙ sym (v kn);
        })
        (λ (w : (eqb (way s r) 0 ≡ false) × Held s (is_port s) (model_of s m) x). absurd (element-not-port k w.1.passes))
        (named-below s r x b is-named))

    -- a further port, of the model of the submodel that is named
    module _ (k : get_or s.bytes x 0 ≡ 2 → ⊥) where
      filled : is_blank (submodel_field s r) ≡ false
      filled =
          by_cases (is_blank (submodel_field s r))
          (λ b. absurd (k (element-kind (named_blank s r x b is-named).passes)))
          (λ b. b)

      abbrev m : ℕ
      m = submodel_of s r

      port : (eqb (way s r) 0 ≡ false) × Held s (is_port s) (model_of s m) x
      port =
          ⊎_elim
          (λ (w : (eqb (way s r) 0 ≡ true) × Held s (is_element s) (model_of s m) x). absurd (k (element-kind w.1.passes)))
          (λ (w : (eqb (way s r) 0 ≡ false) × Held s (is_port s) (model_of s m) x). w)
          (named-below s r x filled is-named)

      pub port-sort : is_pointer s x ≡ true
      port-sort = or_right (is_mark s x) (is_port s x) port.1.passes

      -- its definition is lower
      pub port-lower : get_or t (holder s x + 6) 0 < get_or t (holder s r + 6) 0
      port-lower = rw port.1.held (M.heights.falls (holder s r) m (sub_held filled))

      through-port : target s r ≡ option_map (through m) (target s x)
      through-port =
          by_one ∙ target-way s h r L.row₅ here sort filled
          ∙ ap (option_map (through m)) (named-port s h r x filled is-named port.0 ∙ sym (target-by-height M h x named-place (omega (arith, port-lower))))

      pub port-found : is_some (target s r) ≡ is_some (target s x)
      port-found = ap is_some through-port ∙ is_some-map (through m) (target s x)

      pub port-keeps : {f pl nu num : ℕ} → OffsetOf t r f → Keeps s t x pl nu → (f + nu < 65536 → num ≡ f + nu) → Keeps s t r pl num
      unfolding through node
      port-keeps {f} {pl} {nu} {num} o K a =
          let v : number_in s (holder s r) (through m K.node) ≡ ahead s (holder s r) m + number_in s (model_of s m) K.node = number-through s (holder s r) m K.node in
          let e = port.1.held in
          let u : number_in s (holder s x) K.node ≡ number_in s (model_of s m) K.node = ap (λ (d : ℕ). number_in s d K.node) e in record {
            node = through m K.node;
            there = through-port ∙ ap (option_map (through m)) K.there;
            at = K.at;
            counts = λ kn l.
                let w = offset-is o filled kn in
                let c : nu ≡ number_in s (holder s x) K.node = K.counts (rw e (known-down s t (holder s r) m (sub_held filled) kn)) (omega arith) in
                a (omega arith) ∙ omega arith;
          }
