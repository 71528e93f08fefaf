-- What each kind of record names and whether row 5 refuses it, by the answers of its look-ups.
-- Assumes nothing.
use Rattle.std.specs.Prelude.{None, Option, Some, cond, is_some, option_map}
use mathlib.Core.Path.{◌≡◌, refl, sym, ap, ◌∙◌}
use mathlib.Core.Logic.{⊎_elim}
use mathlib.Core.Bool.{Bool, true, false, not, ◌&&◌, ◌||◌, true≢false}
use mathlib.Core.List.{List}
use Prim.Native.Nat.{ℕ, ◌+◌, ◌<◌}
use lib.ListN.{length, get_or}
use lib.Dec.{eqb, ltb}
use borrow.Author.Tests.{eqb-true, not-true}
use Rattle.names.specs.Names.{text, is_blank, is_name, field_at}
use Rattle.names.proofs.Tests.{by_cases, and_left, and_right, or_cases}
use Rattle.names.proofs.Names.{name-not-blank}
use Rattle.flat_table.specs.Classes.{parent_allowed}
use Rattle.recipe.specs.Records.{Recipe, kind, owned_kind, mark_kind, pointer_kind, submodel_offset, is_model, is_element, is_port, is_submodel, is_deletion, is_replacement, is_replaced_by, is_mark, is_factors, byte, class, first_field, parent_field, reference_field, submodel_field, model_field, target_field, way, time_field, extent_field}
use Rattle.recipe.specs.Definitions.{main, holder, element_named, submodel_named, model_of, owner_of, element_in, submodel_of, scaled_by}
use Rattle.recipe.specs.Reading.{is_parent, is_parent_fault, is_own_port_fault, is_submodel_field_fault, is_owner_fault, is_model_fault, is_port_fault, is_undeclared}
use Rattle.recipe.specs.Fields.{port_fields, mark_fields}
use Rattle.recipe.specs.declared.PortFields.{PortFields}
use Rattle.recipe.specs.declared.Mark.{Mark}
use Rattle.recipe.proofs.Bodies.{by-pointer, mark-kind, pointer-kind}
use Rattle.recipe.proofs.Definitions.{element-in, in-elements}
use Rattle.recipe.proofs.Going.{class_low}
use Rattle.links.specs.declared.Links.{Links}
use Rattle.record_index.specs.Entries.{record_named}
use Rattle.links.specs.Links.{Unowned, is_pointing, upper, lower, own, links, links_of}
use Rattle.record_index.proofs.Lookups.{element-look, submodel-look, definition-look}
use Rattle.links.proofs.Fields.{FieldAt}

-- the element that a name names
pub element-filled : (s : Recipe) (p : ℕ) (f : List ℕ) → is_blank f ≡ false → element_in s p f ≡ element_named s (holder s p) (text f)
unfolding element_in
element-filled s p f b = rw (b, element_in)

pub element-blank : (s : Recipe) (p : ℕ) (f : List ℕ) → is_blank f ≡ true → element_in s p f ≡ None
unfolding element_in
element-blank s p f b = rw (b, element_in)

-- ---- an element's parent
module _ (s : Recipe) (p : ℕ) {q : ℕ} (g : FieldAt s (parent_field s p) q) {c : ℕ} (ec : c ≡ class s p) {a : Option ℕ} (ea : a ≡ element_in s p (field_at s.width s.bytes q)) where
  named-parent : element_in s p (parent_field s p) ≡ a
  named-parent = ap (element_in s p) (sym g.is) ∙ sym ea

  pub parent-missing : {b z : Bool} → a ≡ None → b ≡ is_blank (field_at s.width s.bytes q) → z ≡ parent_allowed c None → not (b && z) ≡ is_parent_fault s p
  unfolding is_parent_fault
  parent-missing m eb ez =
      by_cases (is_blank (parent_field s p))
      (λ h. rw (eb, g.is, h, ez, ec))
      (λ h. rw (eb, g.is, h, named-parent ∙ m))

  module _ {y : ℕ} (m : a ≡ Some y) where
    there : element_in s p (parent_field s p) ≡ Some y
    there = named-parent ∙ m

    pub parent-room : y + 1 + s.width < length s.bytes
    parent-room =
        let r = in-elements s (holder s p) y (element-in s p (parent_field s p) y there).2 in
        class_low s y r.placed r.passes

    pub parent-there : {r d : ℕ} {z : Bool} → r ≡ y → d ≡ get_or s.bytes (r + 1 + s.width) 0 → z ≡ parent_allowed c (Some d) → not (ltb r p && z) ≡ is_parent_fault s p
    unfolding is_parent_fault is_parent class byte
    parent-there er ed ez = rw ((element-in s p (parent_field s p) y there).0, there, ez, ed, ec, er)

-- ---- what a record names, or that row 5 refuses it
pub refused : {b : Bool} (l : Links) {o : Option Links} → cond b None (Some l) ≡ o → b ≡ true → None ≡ o
refused l e h = rw h at e

pub passed : {b : Bool} (l : Links) {o : Option Links} → cond b None (Some l) ≡ o → b ≡ false → Some l ≡ o
passed l e h = rw h at e

-- one of two look-ups is missing
pub either : (a o : Option ℕ) (b d : Bool) → is_some a ≡ not b → is_some o ≡ not d → not (is_some a) || not (is_some o) ≡ b || d
either a o b d e f = rw (e, f) (by_cases b (λ t. rw t) (λ t. rw t (by_cases d (λ u. rw u) (λ u. rw u))))

-- of a look-up that must find
taken : (f : Option ℕ → Links) (o : Option ℕ) → option_map (λ x. f (Some x)) o ≡ cond (not (is_some o)) None (Some (f o))
taken f None = refl
taken f (Some x) = refl

-- a mark with an owner is of kind 6 or 7
pub by-owned : (P : ℕ → Type 0) → P 6 → P 7 → (k : ℕ) → owned_kind k ≡ true → P k
by-owned P a b k h =
    ⊎_elim (λ (e : eqb k 6 ≡ true). rw (eqb-true k 6 e) a) (λ (e : eqb k 7 ≡ true). rw (eqb-true k 7 e) b) (or_cases (eqb k 6) (eqb k 7) h)

-- ---- ports and marks
module _ (s : Recipe) (p : ℕ) where
  pub pointer-byte : is_mark s p || is_port s p ≡ pointer_kind (get_or s.bytes p 0)
  unfolding kind
  pointer-byte = pointer-kind s p

  pub port-points : kind s p ≡ 3 → is_mark s p || is_port s p ≡ true
  port-points k = pointer-kind s p ∙ rw k

  pub owned-mark : owned_kind (kind s p) ≡ true → is_mark s p ≡ true
  owned-mark m = mark-kind s p ∙ by-owned (λ k. mark_kind k ≡ true) refl refl (kind s p) m

  pub pointing-points : is_pointing s p ≡ true → is_mark s p || is_port s p ≡ true
  unfolding is_pointing
  pointing-points h = and_left (is_mark s p || is_port s p) _ h

  pub pointing-filled : is_pointing s p ≡ true → is_blank (submodel_field s p) ≡ false
  unfolding is_pointing
  pointing-filled h = not-true (is_blank (submodel_field s p)) (and_right (is_mark s p || is_port s p) _ h)

  pub port-begins : {e : PortFields} → e ≡ port_fields s p → e.submodel ≡ p + 1 + submodel_offset s p
  unfolding port_fields
  port-begins h = ap (λ (x : PortFields). x.submodel) h

  pub mark-begins : {m : Mark} → m ≡ mark_fields s p → m.submodel ≡ p + 1 + submodel_offset s p
  unfolding mark_fields
  mark-begins h = ap (λ (x : Mark). x.submodel) h

  pub without-owner : pointer_kind (kind s p) ≡ true → owned_kind (kind s p) ≡ false → is_blank (submodel_field s p) ≡ false → {q : ℕ} → q ≡ p + 1 + submodel_offset s p → Unowned s p q
  unfolding is_pointing is_replacement is_replaced_by
  without-owner k o b e = record { pointing = rw (pointer-kind s p, k, b); unowned = o; begins = e }

-- ---- kind by kind
module _ (s : Recipe) (p : ℕ) where
  pub model-links : kind s p ≡ 1 → Some (links None None None) ≡ links_of s p
  unfolding links_of is_undeclared upper lower own is_pointing is_model is_element is_port is_submodel is_mark is_deletion is_replacement is_replaced_by is_factors
  model-links k = rw k

  pub element-links : kind s p ≡ 2 → {u v : ℕ} → FieldAt s (parent_field s p) u → FieldAt s (reference_field s p) v → {b : Bool} {x y : Option ℕ} → b ≡ is_parent_fault s p
      → x ≡ element_in s p (field_at s.width s.bytes u) → y ≡ element_in s p (field_at s.width s.bytes v) → cond b None (Some (links x y None)) ≡ links_of s p
  unfolding links_of is_undeclared upper lower own is_model is_element is_port is_factors
  element-links k g h eb ex ey = rw (k, eb, ex, ey, g.is, h.is)

  pub element-refused : kind s p ≡ 2 → {b : Bool} → b ≡ is_parent_fault s p → b ≡ true → None ≡ links_of s p
  unfolding links_of is_undeclared is_model is_element is_port
  element-refused k e h = rw (k, ← e, h)

  pub submodel-links : kind s p ≡ 4 → (d : ℕ) {q : ℕ} → FieldAt s (model_field s p) q → {a o : Option ℕ} → a ≡ record_named s 1 d (text (field_at s.width s.bytes q))
      → a ≡ o → option_map (λ x. links (Some x) None None) o ≡ links_of s p
  unfolding links_of is_undeclared is_model_fault upper lower own is_pointing is_model is_element is_port is_submodel is_mark is_deletion is_replacement is_replaced_by model_of main is_factors
  submodel-links k d g e t = taken (λ x. links x None None) _ ∙ rw (k, ← t, e, g.is, ← definition-look s d (text (model_field s p)))

  -- a port with a blank submodel
  module _ (k : kind s p ≡ 3) (b : is_blank (submodel_field s p) ≡ true) where
    pub by-port-links : way s p ≡ 1 → None ≡ links_of s p
    unfolding links_of is_undeclared is_port_fault is_own_port_fault upper lower own is_pointing is_model is_element is_port is_submodel is_mark is_deletion is_replacement is_replaced_by is_factors
    by-port-links w = rw (k, b, w)

    pub by-element-links : way s p ≡ 0 → {d q : ℕ} → d ≡ holder s p → FieldAt s (target_field s p) q → {a o : Option ℕ} → a ≡ record_named s 2 d (text (field_at s.width s.bytes q))
        → a ≡ o → option_map (λ x. links None None (Some x)) o ≡ links_of s p
    unfolding links_of is_undeclared is_port_fault is_own_port_fault upper lower own is_pointing is_model is_element is_port is_submodel is_mark is_deletion is_replacement is_replaced_by is_factors
    by-element-links w ed g e t = taken (λ x. links None None x) _ ∙ rw (k, b, w, ← t, e, g.is, ed, ← element-look s (holder s p) (text (target_field s p)))

  or-false : (b : Bool) → b ≡ b || false
  or-false true = refl
  or-false false = refl

  -- the submodel of a port or mark
  module _ {d q : ℕ} (ed : d ≡ holder s p) (g : FieldAt s (submodel_field s p) q) {a : Option ℕ} (e : a ≡ record_named s 4 d (text (field_at s.width s.bytes q))) where
    submodel-answered : a ≡ submodel_named s (holder s p) (text (submodel_field s p))
    submodel-answered = e ∙ rw (g.is, ed, ← submodel-look s (holder s p) (text (submodel_field s p)))

    pub pointer-links : Unowned s p q → {o : Option ℕ} → a ≡ o → option_map (λ x. links None (Some x) None) o ≡ links_of s p
    unfolding links_of is_undeclared is_port_fault is_submodel_field_fault is_owner_fault upper lower own is_pointing is_model is_element is_port is_submodel is_mark is_deletion is_replacement is_replaced_by submodel_of is_factors
    pointer-links u t =
        let h = pointing-points s p u.pointing in
        let b = pointing-filled s p u.pointing in
        rw (← t) (taken (λ x. links None x None) a
        ∙ by-pointer (λ j. kind s p ≡ j → cond (not (is_some a)) None (Some (links None a None)) ≡ links_of s p)
        (λ k. rw (k, b, submodel-answered))
        (λ k. rw (k, b, submodel-answered, ← or-false (not (is_some (submodel_named s (holder s p) (text (submodel_field s p)))))))
        (λ k. absurd (true≢false (rw k at u.unowned)))
        (λ k. absurd (true≢false (rw k at u.unowned)))
        (kind s p) (sym (pointer-kind s p) ∙ h) refl)

    pub owned-links : owned_kind (kind s p) ≡ true → is_name (submodel_field s p) ≡ true → is_name (first_field s p) ≡ true → {r : ℕ} → FieldAt s (first_field s p) r → {o : Option ℕ}
        → o ≡ element_in s p (field_at s.width s.bytes r) → cond (not (is_some a) || not (is_some o)) None (Some (links o a None)) ≡ links_of s p
    unfolding links_of is_undeclared is_submodel_field_fault is_owner_fault upper lower own is_pointing is_model is_element is_port is_submodel is_mark is_deletion is_replacement is_replaced_by submodel_of owner_of main is_factors
    owned-links m n f i {o} eo =
        let b = name-not-blank (submodel_field s p) n in
        let t : o ≡ element_named s (holder s p) (text (first_field s p)) = eo ∙ rw i.is (element-filled s p (first_field s p) (name-not-blank (first_field s p) f)) in
        by-owned (λ j. kind s p ≡ j → cond (not (is_some a) || not (is_some o)) None (Some (links o a None)) ≡ links_of s p)
        (λ k. rw (k, b, submodel-answered, t))
        (λ k. rw (k, b, submodel-answered, t))
        (kind s p) m refl

  -- a kind 8, which row 5 never refuses
  pub factors-links : kind s p ≡ 8 → {d q u v : ℕ} → d ≡ holder s p → FieldAt s (first_field s p) q → FieldAt s (time_field s p) u → FieldAt s (extent_field s p) v → {a x y : Option ℕ}
      → a ≡ record_named s 4 d (text (field_at s.width s.bytes q)) → x ≡ element_in s p (field_at s.width s.bytes u)
      → y ≡ element_in s p (field_at s.width s.bytes v) → Some (links x a y) ≡ links_of s p
  unfolding links_of is_undeclared upper lower own is_pointing is_model is_element is_port is_submodel is_mark is_deletion is_replacement is_replaced_by is_factors scaled_by
  factors-links k ed g h i ea ex ey = rw (k, ea, ex, ey, g.is, h.is, i.is, ed, ← submodel-look s (holder s p) (text (first_field s p)))
