-- What each of rows 3 to 6 says of a recipe that it does not refuse: forms, names used once, what is declared, no definition in itself.
-- Assumes nothing.
use Rattle.std.specs.Prelude.{None, Some, is_some}
use mathlib.Core.Path.{◌≡◌, refl, sym, ap, ◌∙◌}
use mathlib.Core.Logic.{◌⊎◌, inl, inr}
use Prim.Native.Nat.{ℕ, ◌≤◌, ◌<◌}
use native.Mathlib.Omega.{arith}
use mathlib.Core.Bool.{Bool, true, false, not, ◌&&◌, ◌||◌, true≢false}
use lib.ListN.{length}
use lib.Dec.{eqb, ltb}
use borrow.Author.Tests.{eqb-true, eqb-false, ltb-true, lt-ltb, eq-eqb, not-true, not-false}
use Rattle.names.specs.Lists.{In, any, last_or, same}
use Rattle.names.specs.Names.{text, is_blank, is_name, is_name_or_blank, are_name_characters, underscore}
use Rattle.names.proofs.Tests.{by-option, not-both, not_none, three, and_left, and_right, both, or_left, or_right, or-none-left, or-none-right, is-some}
use Rattle.names.proofs.Lists.{none_first, not-any, same_refl}
use Rattle.names.proofs.Names.{name-not-blank, name-characters, some-character}
use Rattle.flat_table.specs.Classes.{is_class, parent_allowed}
use Rattle.recipe.specs.Records.{Recipe, kind, places, is_model, is_element, is_port, is_submodel, is_deletion, is_replacement, is_replaced_by, is_mark, first_field, name, class, parent_field, reference_field, submodel_field, way, target_field}
use Rattle.recipe.specs.Definitions.{definitions, holder, elements, submodels, is_declared, element_named, owner_of, element_in}
use Rattle.recipe.specs.Reaching.{reaches, Reach}
use Rattle.recipe.specs.Reading.{at_start, most_bytes, fault₁, ends_with_underscore, is_form, fault₃, share_names, repeats, fault₄, is_parent, is_parent_fault, is_own_port_fault, is_submodel_field_fault, is_owner_fault, is_port_fault, is_undeclared, fault₅, fault₆}
use Rattle.recipe.proofs.Bodies.{element-form, submodel-form, mark-form, first_reads}
use Rattle.recipe.proofs.Reading.{known, readable}
use Rattle.recipe.proofs.Definitions.{in-elements, in-submodels, element-named}
use Rattle.recipe.proofs.Reaching.{plain-reaches}

-- a test at the start that gives no place fails
pub not-at-start : (b : Bool) → at_start b ≡ None → b ≡ false
unfolding at_start
not-at-start true e = not_none (sym e)
not-at-start false e = refl

-- ---- row 1
pub length-refused : (s : Recipe) → eqb (length s.bytes) 0 || ltb 16384 (length s.bytes) ≡ true → fault₁ s ≡ Some 0
unfolding fault₁ at_start most_bytes
length-refused s e = rw e

pub length-passed : (s : Recipe) → eqb (length s.bytes) 0 || ltb 16384 (length s.bytes) ≡ false → fault₁ s ≡ None
unfolding fault₁ at_start most_bytes
length-passed s e = rw e

module _ (s : Recipe) where
  -- ---- kinds
  pub replaced-by-mark : (p : ℕ) → is_replaced_by s p ≡ true → is_mark s p ≡ true
  unfolding is_mark
  replaced-by-mark p e = or_right (is_deletion s p || is_replacement s p) (is_replaced_by s p) e

  pub replacement-mark : (p : ℕ) → is_replacement s p ≡ true → is_mark s p ≡ true
  unfolding is_mark
  replacement-mark p e = or_left (is_deletion s p || is_replacement s p) (is_replaced_by s p) (or_right (is_deletion s p) (is_replacement s p) e)

  -- a replacement and a replaced-by are two records
  pub two_records : (q r : ℕ) → is_replacement s q ≡ true → is_replaced_by s r ≡ true → q ≡ r → ⊥
  unfolding is_replacement is_replaced_by
  two_records q r a b e =
      let k : kind s q ≡ 6 = eqb-true (kind s q) 6 a in
      let l : kind s r ≡ 7 = eqb-true (kind s r) 7 b in
      let m : kind s q ≡ kind s r = ap (kind s) e in
      omega arith

  -- ---- row 3
  module _ (h₃ : fault₃ s ≡ None) where
    form : (p : ℕ) → In p (places s) → is_form s p ≡ true
    unfolding fault₃
    form p i = not-false (is_form s p) (none_first (λ q. not (is_form s q)) (places s) p h₃ i)

    -- the first field of each record is a name
    pub first-name : (p : ℕ) → In p (places s) → is_name (first_field s p) ≡ true
    first-name p i = first_reads s p (known s p (readable s p i)) (form p i)

    -- a mark names a submodel
    pub mark-submodel : (p : ℕ) → In p (places s) → is_mark s p ≡ true → is_blank (submodel_field s p) ≡ false
    mark-submodel p i k =
        name-not-blank (submodel_field s p)
        (and_left (is_name (submodel_field s p)) _ (and_right (is_name (first_field s p)) _ (sym (mark-form s p k) ∙ form p i)))

    -- a submodel's name is one, and does not end with an underscore
    name-form : (d m : ℕ) → In m (submodels s d) → is_name (first_field s m) && not (ends_with_underscore (name s m)) ≡ true
    unfolding is_submodel
    name-form d m i =
        let r = in-submodels s d m i in
        and_left (is_name (first_field s m) && not (ends_with_underscore (name s m))) _
        (sym (submodel-form s m (eqb-true (kind s m) 4 r.passes)) ∙ form m r.placed)

    pub submodel-characters : (d m : ℕ) → In m (submodels s d) → are_name_characters (name s m) ≡ true
    unfolding name
    submodel-characters d m i = name-characters (first_field s m) (and_left (is_name (first_field s m)) _ (name-form d m i))

    pub submodel-name : (d m : ℕ) → In m (submodels s d) → 1 ≤ length (name s m)
    submodel-name d m i = some-character (name s m) (submodel-characters d m i)

    pub submodel-end : (d m : ℕ) → In m (submodels s d) → last_or 0 (name s m) ≡ underscore → ⊥
    unfolding ends_with_underscore
    submodel-end d m i = eqb-false _ _ (not-true _ (and_right (is_name (first_field s m)) _ (name-form d m i)))

    -- an element's name is one, its class is one, and its parent and reference are names or blanks
    pub record ElementForm (e : ℕ) : Type 0 where
      pub characters : are_name_characters (name s e) ≡ true
      pub classed : is_class (class s e) ≡ true
      pub parent : is_name_or_blank (parent_field s e) ≡ true
      pub reference : is_name_or_blank (reference_field s e) ≡ true

    pub element-reads : (d e : ℕ) → In e (elements s d) → ElementForm e
    unfolding is_element name
    element-reads d e i =
        let r = in-elements s d e i in
        let f = sym (element-form s e (eqb-true (kind s e) 2 r.passes)) ∙ form e r.placed in
        let g = and_right (is_name (first_field s e)) _ f in
        let h = and_right (is_class (class s e)) _ g in
        record {
          characters = name-characters (first_field s e) (and_left (is_name (first_field s e)) _ f);
          classed = and_left (is_class (class s e)) _ g;
          parent = and_left (is_name_or_blank (parent_field s e)) _ h;
          reference = and_right (is_name_or_blank (parent_field s e)) _ h;
        }

  -- ---- row 4
  -- an element or a submodel of a definition
  pub record Declared (d p : ℕ) : Type 0 where
    pub placed : In p (places s)
    pub held : holder s p ≡ d
    pub is : is_declared s p ≡ true

  pub element-declared : (d e : ℕ) → In e (elements s d) → Declared d e
  unfolding is_declared
  element-declared d e i =
      let r = in-elements s d e i in
      record { placed = r.placed; held = r.held; is = or_left (is_element s e) (is_submodel s e) r.passes }

  pub submodel-declared : (d m : ℕ) → In m (submodels s d) → Declared d m
  unfolding is_declared
  submodel-declared d m i =
      let r = in-submodels s d m i in
      record { placed = r.placed; held = r.held; is = or_right (is_element s m) (is_submodel s m) r.passes }

  module _ (h₄ : fault₄ s ≡ None) where
    -- of two declared records of a definition, with one name, none is earlier
    not_earlier : (d p q : ℕ) → Declared d p → Declared d q → name s p ≡ name s q → p < q → ⊥
    unfolding fault₄ repeats share_names
    not_earlier d p q a b e l =
        let no : repeats s q p ≡ false =
        not-any (repeats s q) (places s) p (none_first (λ r. any (repeats s r) (places s)) (places s) q h₄ b.placed) a.placed in
        let one : same (name s p) (name s q) ≡ true = rw e (same_refl (name s q)) in
        let share : share_names s p q ≡ true = or_left _ _ (or_left (is_declared s p && is_declared s q) _ (both a.is b.is)) in
        let yes' : repeats s q p ≡ true = both (both (lt-ltb p q l) one) (or_right (is_model s p && is_model s q) _ (both (eq-eqb (holder s p) (holder s q) (a.held ∙ sym b.held)) share)) in
        not-both yes' no

    -- so each name of a definition is that of one element or submodel
    pub one-record : (d p q : ℕ) → Declared d p → Declared d q → name s p ≡ name s q → p ≡ q
    one-record d p q a b e =
        three p q
        (λ l. absurd (not_earlier d p q a b e l))
        (λ l. l)
        (λ l. absurd (not_earlier d q p b a (sym e) l))

  -- ---- row 5
  module _ (h₅ : fault₅ s ≡ None) where
    declared : (p : ℕ) → In p (places s) → is_undeclared s p ≡ false
    unfolding fault₅
    declared p i = none_first (is_undeclared s) (places s) p h₅ i

    -- "owner no element, of the definition" does not apply
    owner_of_lem : (p : ℕ) → is_replacement s p || is_replaced_by s p ≡ true → is_owner_fault s p ≡ false → In (owner_of s p) (elements s (holder s p))
    unfolding is_owner_fault owner_of
    owner_of_lem p n h =
        let e = is-some (element_named s (holder s p) (text (first_field s p)))
        (not-false (is_some (element_named s (holder s p) (text (first_field s p)))) (rw n at h)) in
        rw e.1 (element-named s (holder s p) (text (first_field s p)) e.0 e.1).0

    pub owner-element : (p : ℕ) → In p (places s) → (is_replacement s p ≡ true) ⊎ (is_replaced_by s p ≡ true) → In (owner_of s p) (elements s (holder s p))
    unfolding is_undeclared is_model is_element is_port is_submodel is_mark is_deletion is_replacement is_replaced_by
    owner-element p i (inl b) =
        let k : kind s p ≡ 6 = eqb-true (kind s p) 6 b in
        owner_of_lem p (rw k) (or-none-right (is_submodel_field_fault s p) _ (rw k at (declared p i)))
    owner-element p i (inr b) =
        let k : kind s p ≡ 7 = eqb-true (kind s p) 7 b in
        owner_of_lem p (rw k) (or-none-right (is_submodel_field_fault s p) _ (rw k at (declared p i)))

    -- by its name
    pub owner-name : (p : ℕ) → In p (places s) → is_replaced_by s p ≡ true → name s (owner_of s p) ≡ text (first_field s p)
    unfolding is_undeclared is_owner_fault is_model is_element is_port is_submodel is_mark is_deletion is_replacement is_replaced_by owner_of
    owner-name p i b =
        let k : kind s p ≡ 7 = eqb-true (kind s p) 7 b in
        let o = element_named s (holder s p) (text (first_field s p)) in
        let e = is-some o (not-false (is_some o) (or-none-right (is_submodel_field_fault s p) _ (rw k at (declared p i)))) in
        rw e.1 (element-named s (holder s p) (text (first_field s p)) e.0 e.1).1

    -- "parent against the class table or not an earlier element of the definition" does not apply
    no-parent-fault : (d e : ℕ) → In e (elements s d) → is_parent_fault s e ≡ false
    unfolding is_undeclared is_model is_element
    no-parent-fault d e i =
        let r = in-elements s d e i in
        rw (eqb-true (kind s e) 2 r.passes) at (declared e r.placed)

    pub blank-parent : (d e : ℕ) → In e (elements s d) → is_blank (parent_field s e) ≡ true → parent_allowed (class s e) None ≡ true
    unfolding is_parent_fault
    blank-parent d e i b = not-false (parent_allowed (class s e) None) (rw b at (no-parent-fault d e i))

    pub filled-parent : (d e : ℕ) → In e (elements s d) → is_blank (parent_field s e) ≡ false
        → (q : ℕ) × (element_in s e (parent_field s e) ≡ Some q) × (q < e) × (parent_allowed (class s e) (Some (class s q)) ≡ true)
    unfolding is_parent_fault is_parent
    filled-parent d e i b =
        by-option (element_in s e (parent_field s e))
        (λ p. absurd (true≢false (rw (b, p) at (no-parent-fault d e i))))
        (λ q p.
        let h : ltb q e && parent_allowed (class s e) (Some (class s q)) ≡ true =
        not-false (ltb q e && parent_allowed (class s e) (Some (class s q))) (rw (b, p) at (no-parent-fault d e i)) in
        (q, p, ltb-true q e (and_left (ltb q e) _ h), and_right (ltb q e) _ h))

    -- "blank-submodel port with way 1 or unknown element" does not apply: such a port names an element of its definition
    pub own-port : (p : ℕ) → In p (places s) → is_port s p ≡ true → is_blank (submodel_field s p) ≡ true
        → (way s p ≡ 1 → ⊥) × (is_some (element_named s (holder s p) (text (target_field s p))) ≡ true)
    unfolding is_undeclared is_model is_element is_port is_port_fault is_own_port_fault
    own-port p i k b =
        let f : is_own_port_fault s p ≡ false = rw (b, eqb-true (kind s p) 3 k) at (declared p i) in (
          eqb-false (way s p) 1 (or-none-left (eqb (way s p) 1) _ f),
          not-false (is_some (element_named s (holder s p) (text (target_field s p)))) (or-none-right (eqb (way s p) 1) _ f),
        )

  -- ---- row 6
  -- "definition reaches itself" does not apply: no chain of submodel records leads from a definition to itself
  pub no-cycle : fault₆ s ≡ None → (d : ℕ) → In d (definitions s) → Reach s d d → ⊥
  unfolding fault₆
  no-cycle h₆ d i r = not-both (plain-reaches s d d r) (none_first (λ c. reaches s c c) (definitions s) d h₆ i)
