-- What a port or mark names, by the cells of its submodel; the loops that fill the cells 3 to 5, and what they have filled.
-- Assumes nothing.
use Rattle.std.specs.Prelude.{None, Option, Some, is_some, unwrap_or}
use mathlib.Core.Path.{◌≡◌, refl, sym, ap, ◌∙◌}
use mathlib.Core.Logic.{inl, ⊎_elim}
use mathlib.Core.Bool.{Bool, true, false, cond, not, ◌||◌}
use mathlib.Core.List.{List, [], ◌∷◌}
use Prim.Native.Nat.{ℕ, ◌+◌, ◌≤◌, ◌<◌}
use native.Mathlib.Omega.{arith}
use lib.ListN.{length, get_or, set}
use lib.Dec.{eqb}
use borrow.Author.Tests.{eqb-true, eqb-false, leb-true, not-false}
use Rattle.names.specs.Lists.{In, first}
use Rattle.names.specs.Names.{text, is_blank, field_at}
use Rattle.names.proofs.Tests.{by_cases, or_cases, or-none-left, not-both, is-some, not_none, some-none, the-some}
use Rattle.names.proofs.Lists.{none_first}
use Rattle.recipe.specs.Records.{Recipe, kind_byte, kind, places, part_offset, submodel_part, pointer_kind, byte, submodel_offset, is_model, is_element, is_port, is_submodel, is_deletion, is_replacement, is_replaced_by, is_mark, is_factors, submodel_field, target_field, way}
use Rattle.recipe.specs.Definitions.{main, holder, owner_of, submodels, submodel_named, model_of, submodel_of, named_by}
use Rattle.recipe.specs.declared.Kind.{Kind}
use Rattle.recipe.specs.declared.Way.{Way}
use Rattle.recipe.specs.Fields.{way_read, way_to}
use Rattle.recipe.specs.Reading.{is_way, is_own_port_fault, is_submodel_field_fault, is_owner_fault, is_port_fault, is_undeclared, fault₃, fault₄, fault₅}
use Rattle.recipe.proofs.Bodies.{by-pointer, pointer-kind}
use Rattle.recipe.proofs.Definitions.{submodel-named, in-submodels, model_in}
use Rattle.recipe.proofs.Reading.{readable, first-model}
use Rattle.recipe.proofs.Rows.{mark-submodel}
use Rattle.recipe.proofs.Spans.{definition-place}
use Rattle.shadow.specs.Shadow.{Cell, Kept, linked}
use Rattle.shadow.specs.Columns.{Linked, Unpaired}
use Rattle.shadow.proofs.Cells.{cell-over, RowWritten, row-none, row-set, row-left, row_room, Filling}
use Rattle.shadow.proofs.Columns.{numbered-over}
use Rattle.shadow.proofs.Links.{link-none, link-some}
use Rattle.links.specs.declared.Links.{Links}
use Rattle.record_index.specs.Entries.{record_named, SoughtIn}
use Rattle.links.specs.Links.{is_pointing, way_kind, upper, lower, own, upper_of, lower_of, own_of, links, links_of, Pointed}
use Rattle.record_index.proofs.Places.{place-room}
use Rattle.record_index.proofs.Lookups.{element-look, port-look}
use Rattle.links.proofs.Fields.{FieldAt, sought, target-at-field, way-reads, target-reads}
use Rattle.links.proofs.Linking.{by-owned, pointer-byte, pointing-points, pointing-filled}

module _ (s : Recipe) (p : ℕ) (h : is_mark s p || is_port s p ≡ true) where
  -- it is of no other kind
  no_kind : (j : ℕ) → pointer_kind j ≡ false → eqb (kind s p) j ≡ false
  no_kind j n =
      by_cases (eqb (kind s p) j)
      (λ b. not-both (sym (ap pointer_kind (eqb-true (kind s p) j b)) ∙ sym (pointer-kind s p) ∙ h) n)
      (λ b. b)

  pub pointing-is : is_pointing s p ≡ not (is_blank (submodel_field s p))
  unfolding is_pointing
  pointing-is = rw h

  pub lower-is : lower_of s p ≡ cond (is_pointing s p) (submodel_of s p) 0
  unfolding lower submodel_of is_element is_factors
  lower-is = rw (no_kind 2 refl, no_kind 8 refl) (by_cases (is_pointing s p) (λ b. rw b) (λ b. rw b))

pub not-pointing : (s : Recipe) (p : ℕ) → is_mark s p || is_port s p ≡ false → is_pointing s p ≡ false
unfolding is_pointing
not-pointing s p h = rw h

-- ---- a port or mark that names a submodel, of a recipe that row 5 does not refuse
module _ (s : Recipe) (h₅ : fault₅ s ≡ None) (p : ℕ) (i : In p (places s)) (h : is_pointing s p ≡ true) where
  no-fault : is_submodel_field_fault s p ≡ false
  unfolding fault₅ is_undeclared is_port_fault is_model is_element is_port is_submodel is_mark is_deletion is_replacement is_replaced_by
  no-fault =
      let u : is_undeclared s p ≡ false = none_first (is_undeclared s) (places s) p h₅ i in
      by-pointer (λ j. kind s p ≡ j → is_submodel_field_fault s p ≡ false)
      (λ k. rw (k, pointing-filled s p h) at u)
      (λ k. or-none-left _ (is_owner_fault s p) (rw k at u)) (λ k. or-none-left _ (is_owner_fault s p) (rw k at u)) (λ k. or-none-left _ (is_owner_fault s p) (rw k at u))
      (kind s p) (sym (pointer-kind s p) ∙ pointing-points s p h) refl

  pub submodel-in : In (submodel_of s p) (submodels s (holder s p))
  unfolding is_submodel_field_fault submodel_of
  submodel-in =
      let o = submodel_named s (holder s p) (text (submodel_field s p)) in
      let e = is-some o (not-false (is_some o) no-fault) in
      rw e.1 (submodel-named s (holder s p) (text (submodel_field s p)) e.0 e.1).0

  -- main is no submodel
  pub submodel-some : submodel_of s p ≡ 0 → ⊥
  unfolding is_submodel is_model
  submodel-some z =
      let r = in-submodels s (holder s p) (submodel_of s p) submodel-in in
      let a : eqb (kind s 0) 1 ≡ true = first-model s (readable s 0 (rw z at r.placed)) in
      let b : eqb (kind s 0) 4 ≡ true = rw z at r.passes in
      let u = eqb-true (kind s 0) 1 a in
      let v = eqb-true (kind s 0) 4 b in
      omega arith

  pub model-low : length s.bytes ≤ 16384 → model_of s (submodel_of s p) < 16384
  model-low l =
      let m = model_of s (submodel_of s p) in
      omega (arith, place-room s m (definition-place s m (model_in s (holder s p) (submodel_of s p) submodel-in)).0)

  -- the answer of the look-up by its way
  pub target-answered : (v : Kind) {y d q : ℕ} → kind_byte v ≡ cond (eqb y 0) 2 3 → y ≡ way s p → d ≡ model_of s (submodel_of s p) → FieldAt s (target_field s p) q → {a : Option ℕ}
      → a ≡ record_named s (kind_byte v) d (text (field_at s.width s.bytes q)) → a ≡ named_by s p
  unfolding named_by
  target-answered v ev ey ed g e =
      by_cases (eqb (way s p) 0)
      (λ b. rw (pointing-filled s p h, e, ev, ey, b, ed, g.is, element-look s (model_of s (submodel_of s p)) (text (target_field s p))))
      (λ b. rw (pointing-filled s p h, e, ev, ey, b, ed, g.is, port-look s (model_of s (submodel_of s p)) (text (target_field s p))))

-- ---- the cells 3 and 4
module _ {s : Recipe} {t : List ℕ} (g : Pointed s t) (p : ℕ) (i : In p (places s)) where
  module _ (h : is_mark s p || is_port s p ≡ true) where
    -- cell 4 is 0 just where no submodel is named
    pub pointing-none : get_or t (p + 4) 0 ≡ 0 → is_pointing s p ≡ false
    pointing-none z =
        by_cases (is_pointing s p)
        (λ b. absurd (submodel-some s g.declared p i b (let e : cond (is_pointing s p) (submodel_of s p) 0 ≡ 0 = sym (g.lowers p i ∙ lower-is s p h) ∙ z in rw b at e)))
        (λ b. b)

    pub pointing-some : (get_or t (p + 4) 0 ≡ 0 → ⊥) → is_pointing s p ≡ true
    pointing-some n = by_cases (is_pointing s p) (λ b. b) (λ b. absurd (n (g.lowers p i ∙ (lower-is s p h ∙ rw b))))

  module _ (b : is_pointing s p ≡ true) where
    pub cell-submodel : get_or t (p + 4) 0 ≡ submodel_of s p
    cell-submodel = g.lowers p i ∙ (lower-is s p (pointing-points s p b) ∙ rw b)

    pub cell-model : get_or t (submodel_of s p + 3) 0 ≡ model_of s (submodel_of s p)
    unfolding upper model_of main is_element is_submodel is_replacement is_replaced_by
    cell-model =
        let r = in-submodels s (holder s p) (submodel_of s p) (submodel-in s g.declared p i b) in
        g.uppers (submodel_of s p) r.placed ∙ rw (eqb-true (kind s (submodel_of s p)) 4 r.passes)

  pub cells-room : p + 13 ≤ length t
  cells-room = row_room g.numbered.shadowed p i

  pub target-kept : (v : ℕ) → is_pointing s p ≡ false → t ≡ cond (is_pointing s p) (set t (p + 5) v) t
  target-kept v b = rw b

  -- ---- name_target: of another kind, or with no submodel, it leaves the shadow
  module _ {k : Bool} (told : k ≡ pointer_kind (get_or s.bytes p 0)) where
    pub other-kept : (v : ℕ) → k ≡ false → t ≡ cond (is_pointing s p) (set t (p + 5) v) t
    other-kept v other = target-kept v (not-pointing s p (pointer-byte s p ∙ (sym told ∙ other)))

    pub unnamed-kept : (v : ℕ) → k ≡ true → {r : Option ℕ} → r ≡ linked (get_or t (p + 4) 0) → r ≡ None → t ≡ cond (is_pointing s p) (set t (p + 5) v) t
    unnamed-kept v such e none = target-kept v (pointing-none (pointer-byte s p ∙ (sym told ∙ such)) (link-none e none))

  -- and at a port or mark whose cell 4 names the submodel m
  module _ (h₃ : fault₃ s ≡ None) {k : Bool} (told : k ≡ pointer_kind (get_or s.bytes p 0)) (such : k ≡ true)
      {r : Option ℕ} {m : ℕ} (er : r ≡ linked (get_or t (p + 4) 0)) (named : r ≡ Some m)
      {o : ℕ} (eo : o ≡ part_offset s.width (get_or s.bytes p 0) (submodel_part (get_or s.bytes p 0))) where
    h : is_mark s p || is_port s p ≡ true
    h = pointer-byte s p ∙ (sym told ∙ such)

    em : m ≡ get_or t (p + 4) 0
    em = (link-some er named).0

    b : is_pointing s p ≡ true
    b = pointing-some h (λ z. (link-some er named).2 (em ∙ z))

    offset-is : o ≡ submodel_offset s p
    unfolding submodel_offset kind
    offset-is = eo

    pub target-field : FieldAt s (target_field s p) (p + 1 + (o + s.width) + 1)
    target-field = target-at-field s p i h (omega (arith, offset-is))

    way-byte : get_or s.bytes (p + 1 + (o + s.width)) 0 ≡ way s p
    unfolding way byte
    way-byte = rw offset-is

    way-is : is_way (get_or s.bytes (p + 1 + (o + s.width)) 0) ≡ true
    way-is = rw way-byte (way-reads s p i h₃ h)

    -- its way reads, and gives the kind of what is sought
    pub way-some : {a : Option Way} → a ≡ way_read (get_or s.bytes (p + 1 + (o + s.width)) 0) (p + 1 + (o + s.width) + 1) → a ≡ None → ⊥
    unfolding way_read
    way-some e none = not_none {a = way_to (get_or s.bytes (p + 1 + (o + s.width)) 0) (p + 1 + (o + s.width) + 1)} (sym none ∙ (e ∙ rw way-is))

    pub way-kind : {a : Option Way} {w : Way} {v : Kind} → a ≡ way_read (get_or s.bytes (p + 1 + (o + s.width)) 0) (p + 1 + (o + s.width) + 1) → a ≡ Some w → v ≡ way_kind w
        → kind_byte v ≡ cond (eqb (get_or s.bytes (p + 1 + (o + s.width)) 0) 0) 2 3
    unfolding way_read
    way-kind {a} {w} {v} e is ev =
        let x : w ≡ way_to (get_or s.bytes (p + 1 + (o + s.width)) 0) (p + 1 + (o + s.width) + 1) = the-some (sym is ∙ (e ∙ rw way-is)) in
        rw (ev, x) (by_cases (eqb (get_or s.bytes (p + 1 + (o + s.width)) 0) 0) (λ z. rw z) (λ z. rw z))

    pub submodel-room : m + 13 ≤ length t
    submodel-room =
        omega (arith, em, cell-submodel b, row_room g.numbered.shadowed (submodel_of s p) (in-submodels s (holder s p) (submodel_of s p) (submodel-in s g.declared p i b)).placed)

    module _ (v : Kind) (ev : kind_byte v ≡ cond (eqb (get_or s.bytes (p + 1 + (o + s.width)) 0) 0) 2 3) {d : ℕ} (ed : d ≡ get_or t (m + 3) 0) where
      model_is : d ≡ model_of s (submodel_of s p)
      model_is = ed ∙ (ap (λ (x : ℕ). get_or t (x + 3) 0) (em ∙ cell-submodel b) ∙ cell-model b)

      kind-low : kind_byte v ≤ 4
      kind-low =
          by_cases (eqb (get_or s.bytes (p + 1 + (o + s.width)) 0) 0)
          (λ z. let x : kind_byte v ≡ 2 = rw z at ev in omega arith)
          (λ z. let x : kind_byte v ≡ 3 = rw z at ev in omega arith)

      pub target-sought : SoughtIn s (record { kind = v; definition = d; name = p + 1 + (o + s.width) + 1 })
      target-sought =
          sought target-field (target-reads s p i h₃ h) kind-low
          (omega (arith, model_is, model-low s g.declared p i b g.numbered.shadowed.short))

      pub target-written : {a : Option ℕ} {t' : List ℕ}
          → a ≡ record_named s (kind_byte v) d (text (field_at s.width s.bytes (p + 1 + (o + s.width) + 1)))
          → t' ≡ set t (p + 5) (unwrap_or a 0) → t' ≡ cond (is_pointing s p) (set t (p + 5) (unwrap_or (named_by s p) 0)) t
      target-written ea et = rw (et, b, target-answered s g.declared p i b v ev way-byte model_is target-field ea)

pub pointed-over : {s : Recipe} {t₀ t : List ℕ} → Kept s (5 ∷ []) t₀ t → Pointed s t₀ → Pointed s t
pointed-over o g = record {
  numbered = numbered-over o refl g.numbered;
  declared = g.declared;
  uppers = cell-over 3 o (omega arith) refl g.uppers;
  lowers = cell-over 4 o (omega arith) refl g.lowers;
}

-- ---- link_records: the cells 3 to 5 of a record
abbrev pub link_cell : Recipe → ℕ → ℕ → ℕ
link_cell s k = cond (eqb k 3) (upper_of s) (cond (eqb k 4) (lower_of s) (own_of s))

pub links-none : (s : Recipe) (p : ℕ) {o : Option Links} → o ≡ links_of s p → o ≡ None → is_undeclared s p ≡ true
unfolding links_of
links-none s p e n =
    by_cases (is_undeclared s p) (λ h. h)
    (λ h. not_none {a = links (upper s p) (lower s p) (own s p)} (sym n ∙ (e ∙ rw h)))

pub links-some : (s : Recipe) (p : ℕ) {o : Option Links} {l : Links} → o ≡ links_of s p → o ≡ Some l → (is_undeclared s p ≡ false) × (l ≡ links (upper s p) (lower s p) (own s p))
unfolding links_of
links-some s p {l = l} e n =
    by_cases (is_undeclared s p)
    (λ h. some-none {a = l} (sym n ∙ (e ∙ rw h)))
    (λ h. (h, the-some (sym n ∙ (e ∙ rw h))))

pub links-row : (s : Recipe) (p : ℕ) {t t₁ t₂ t₃ : List ℕ} {l : Links} → l ≡ links (upper s p) (lower s p) (own s p) → p + 13 ≤ length t → t₁ ≡ set t (p + 3) (unwrap_or l.upper 0)
    → t₂ ≡ set t₁ (p + 4) (unwrap_or l.lower 0) → t₃ ≡ set t₂ (p + 5) (unwrap_or l.own 0) → RowWritten (5 ∷ 4 ∷ 3 ∷ []) (link_cell s) p t t₃
links-row s p {t} e h e₁ e₂ e₃ =
    rw (e₃, e₂, e₁)
    (row-set 5
    (row-set 4 (row-set 3 (row-none (link_cell s) p t) (omega arith) (ap (λ (x : Links). unwrap_or x.upper 0) e)) (omega arith) (ap (λ (x : Links). unwrap_or x.lower 0) e))
    (omega arith) (ap (λ (x : Links). unwrap_or x.own 0) e))

pub fault-five : (s : Recipe) {o : Option ℕ} → first (is_undeclared s) (places s) ≡ o → fault₅ s ≡ o
unfolding fault₅
fault-five s e = e

-- ---- name_targets: cell 5 of a record
abbrev pub name_cell : Recipe → List ℕ → ℕ → ℕ → ℕ
name_cell s t₀ k p = cond (is_pointing s p) (unwrap_or (named_by s p) 0) (get_or t₀ (p + 5) 0)

pub target_row : {s : Recipe} {t₀ t t' : List ℕ} {p : ℕ} → In p (places s) → Filling s (5 ∷ []) (name_cell s t₀) t₀ t p → p + 13 ≤ length t
    → t' ≡ cond (is_pointing s p) (set t (p + 5) (unwrap_or (named_by s p) 0)) t → RowWritten (5 ∷ []) (name_cell s t₀) p t t'
target_row {s} {t₀} {t} {t'} {p} i g h e =
    by_cases (is_pointing s p)
    (λ b. let z : t' ≡ set t (p + 5) (unwrap_or (named_by s p) 0) = rw b at e in rw z (row-set 5 (row-none (name_cell s t₀) p t) (omega arith) (rw b)))
    (λ b. let z : t' ≡ t = rw b at e in rw z (row-left 5 (row-none (name_cell s t₀) p t) (rw b (g.ahead 5 (inl refl) p i (omega arith)))))

-- ---- all cells are filled
module _ {s : Recipe} {t₀ t : List ℕ} (h₃ : fault₃ s ≡ None) (h₄ : fault₄ s ≡ None) (g₀ : Pointed s t₀) (own : Cell (places s) 5 (own_of s) t₀)
    (o : Kept s (5 ∷ []) t₀ t) (f : Cell (places s) 5 (name_cell s t₀ 5) t) where
  g : Pointed s t
  g = pointed-over o g₀

  -- a port whose submodel is blank names an element
  own-named : (r : ℕ) → In r (places s) → is_mark s r || is_port s r ≡ true → is_blank (submodel_field s r) ≡ true → own_of s r ≡ unwrap_or (named_by s r) 0
  unfolding own named_by fault₅ is_undeclared is_port_fault is_own_port_fault is_model is_element is_port is_submodel is_way
  own-named r i h b =
      let u : is_undeclared s r ≡ false = none_first (is_undeclared s) (places s) r g.declared i in
      ⊎_elim
      (λ (m : is_mark s r ≡ true). not-both b (mark-submodel s h₃ r i m))
      (λ (e : is_port s r ≡ true).
      let k : kind s r ≡ 3 = eqb-true (kind s r) 3 e in
      let n = eqb-false (way s r) 1 (or-none-left (eqb (way s r) 1) _ (rw (k, b) at u)) in
      let l = leb-true (way s r) 1 (way-reads s r i h₃ h) in
      let w : way s r ≡ 0 = omega arith in
      rw (k, b, w))
      (or_cases (is_mark s r) (is_port s r) h)

  pub linked-end : Linked s t
  unfolding upper lower own owner_of model_of main is_element is_submodel is_pointing is_port is_mark is_deletion is_replacement is_replaced_by is_factors
  linked-end = record {
    numbered = g.numbered;
    row₃ = h₃;
    row₄ = h₄;
    row₅ = g.declared;
    parents = λ e i k. g.uppers e i ∙ rw k;
    owners = λ r i k. g.uppers r i ∙ by-owned (λ j. kind s r ≡ j → upper_of s r ≡ owner_of s r) (λ j. rw j) (λ j. rw j) (kind s r) k refl;
    models = λ m i k. g.uppers m i ∙ rw (eqb-true (kind s m) 4 k);
    references = λ e i k. g.lowers e i ∙ rw k;
    named-submodels = λ r i k b. cell-submodel g r i (pointing-is s r k ∙ rw b);
    no-submodels = λ r i k b. g.lowers r i ∙ (lower-is s r k ∙ rw (pointing-is s r k, b));
    times = λ x i k. g.uppers x i ∙ rw (eqb-true (kind s x) 8 k);
    scaled = λ x i k. g.lowers x i ∙ rw (eqb-true (kind s x) 8 k);
    extents = λ x i k. f x i ∙ rw (eqb-true (kind s x) 8 k) (own x i ∙ rw (eqb-true (kind s x) 8 k));
    named-records = λ r i k.
        f r i
        ∙ by_cases (is_blank (submodel_field s r))
        (λ b. rw (pointing-is s r k, b) (own r i ∙ own-named r i k b))
        (λ b. rw (pointing-is s r k, b));
  }

  pub unpaired-end : Unpaired s t
  unfolding own is_submodel is_pointing is_port is_mark is_deletion is_replacement is_replaced_by is_factors
  unpaired-end m i k = f m i ∙ rw (eqb-true (kind s m) 4 k) (own m i ∙ rw (eqb-true (kind s m) 4 k))
