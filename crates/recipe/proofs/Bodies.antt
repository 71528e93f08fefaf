-- The table of the kinds, one by one: which kinds there are, and how the body of each reads.
-- Assumes nothing.
use Rattle.std.specs.Prelude.{Option, None, Some, is_some}
use mathlib.Core.Path.{◌≡◌, refl, sym, ap, ◌∙◌}
use mathlib.Core.Logic.{⊎_elim}
use Prim.Native.Nat.{ℕ, zero, suc, ◌+◌, ◌≤◌}
use native.Mathlib.Omega.{arith}
use mathlib.Core.Bool.{Bool, true, false, not, ◌&&◌, ◌||◌, false≢true, and-true, and_self_left}
use lib.Dec.{eqb}
use borrow.Author.Tests.{eqb-true, eqb-false}
use Rattle.names.specs.Names.{is_name, is_name_or_blank, text}
use Rattle.names.proofs.Tests.{by_cases, or_cases, and_left}
use Rattle.flat_table.specs.Classes.{is_class}
use Rattle.recipe.specs.declared.Kind.{Kind}
use Rattle.recipe.specs.declared.Kind.TheVariants.{Model, Element, Port, Submodel, Deletion, Replacement, ReplacedBy, Factors}
use Rattle.recipe.specs.Records.{Recipe, kind_byte, IsKind, part_offset, submodel_part, is_known, record_length, deletion_kind, owned_kind, mark_kind, pointer_kind, kind, is_deletion, is_replacement, is_replaced_by, is_mark, is_port, field, byte, first_field, name, class, parent_field, reference_field, model_field, submodel_offset, submodel_field, way, target_field, time_field, extent_field}
use Rattle.recipe.specs.Reading.{ends_with_underscore, is_way, reads, reads_behind, is_form}

-- ---- which kinds there are
-- what holds of each kind of the table holds of every known kind
pub by_kind : (P : ℕ → Type 0) → P 1 → P 2 → P 3 → P 4 → P 5 → P 6 → P 7 → P 8 → (k : ℕ) → is_known k ≡ true → P k
unfolding is_known
by_kind P p₁ p₂ p₃ p₄ p₅ p₆ p₇ p₈ zero h = absurd (false≢true h)
by_kind P p₁ p₂ p₃ p₄ p₅ p₆ p₇ p₈ (suc zero) h = p₁
by_kind P p₁ p₂ p₃ p₄ p₅ p₆ p₇ p₈ (suc (suc zero)) h = p₂
by_kind P p₁ p₂ p₃ p₄ p₅ p₆ p₇ p₈ (suc (suc (suc zero))) h = p₃
by_kind P p₁ p₂ p₃ p₄ p₅ p₆ p₇ p₈ (suc (suc (suc (suc zero)))) h = p₄
by_kind P p₁ p₂ p₃ p₄ p₅ p₆ p₇ p₈ (suc (suc (suc (suc (suc zero))))) h = p₅
by_kind P p₁ p₂ p₃ p₄ p₅ p₆ p₇ p₈ (suc (suc (suc (suc (suc (suc zero)))))) h = p₆
by_kind P p₁ p₂ p₃ p₄ p₅ p₆ p₇ p₈ (suc (suc (suc (suc (suc (suc (suc zero))))))) h = p₇
by_kind P p₁ p₂ p₃ p₄ p₅ p₆ p₇ p₈ (suc (suc (suc (suc (suc (suc (suc (suc zero)))))))) h = p₈
by_kind P p₁ p₂ p₃ p₄ p₅ p₆ p₇ p₈ (suc (suc (suc (suc (suc (suc (suc (suc (suc k))))))))) h = absurd (false≢true h)

-- they are 1 to 8
kind-range : (k : ℕ) → is_known k ≡ true → (1 ≤ k) × (k ≤ 8)
kind-range =
    by_kind (λ k. (1 ≤ k) × (k ≤ 8))
    (omega arith, omega arith) (omega arith, omega arith) (omega arith, omega arith) (omega arith, omega arith)
    (omega arith, omega arith) (omega arith, omega arith) (omega arith, omega arith) (omega arith, omega arith)

pub no-kind : (k : ℕ) → (1 ≤ k → k ≤ 8 → ⊥) → is_known k ≡ false
no-kind k h = by_cases (is_known k) (λ e. let r = kind-range k e in absurd (h r.0 r.1)) (λ e. e)

byte-known : (k : Kind) → is_known (kind_byte k) ≡ true
unfolding is_known
byte-known Model = refl
byte-known Element = refl
byte-known Port = refl
byte-known Submodel = refl
byte-known Deletion = refl
byte-known Replacement = refl
byte-known ReplacedBy = refl
byte-known Factors = refl

-- a byte is known if a kind is read from it
pub known-some : (b : ℕ) (o : Option Kind) → IsKind b o → is_some o ≡ is_known b
known-some b None h = sym h
known-some b (Some k) h = sym (ap is_known (sym h) ∙ byte-known k)

-- what holds of 5, 6 and 7 holds of every mark's kind
pub by-mark : (P : ℕ → Type 0) → P 5 → P 6 → P 7 → (k : ℕ) → mark_kind k ≡ true → P k
by-mark P p₅ p₆ p₇ k h =
    ⊎_elim
    (λ (a : eqb k 5 || eqb k 6 ≡ true).
    ⊎_elim (λ (b : eqb k 5 ≡ true). rw (eqb-true k 5 b) p₅) (λ (b : eqb k 6 ≡ true). rw (eqb-true k 6 b) p₆) (or_cases (eqb k 5) (eqb k 6) a))
    (λ (a : eqb k 7 ≡ true). rw (eqb-true k 7 a) p₇)
    (or_cases (eqb k 5 || eqb k 6) (eqb k 7) h)

-- and of every mark's or port's kind what holds of these and of 3
pub by-pointer : (P : ℕ → Type 0) → P 3 → P 5 → P 6 → P 7 → (k : ℕ) → pointer_kind k ≡ true → P k
by-pointer P p₃ p₅ p₆ p₇ k h =
    ⊎_elim
    (λ (a : mark_kind k ≡ true). by-mark P p₅ p₆ p₇ k a)
    (λ (a : eqb k 3 ≡ true). rw (eqb-true k 3 a) p₃)
    (or_cases (mark_kind k) (eqb k 3) h)

-- the submodel of a mark or port stands behind a name, if it is no deletion
pub offset-behind : (w k : ℕ) → pointer_kind k ≡ true → deletion_kind k ≡ false → w ≡ part_offset w k (submodel_part k)
offset-behind w k h d =
    by-pointer (λ j. k ≡ j → w ≡ part_offset w k (submodel_part k))
    (λ j. rw j) (λ j. absurd (eqb-false k 5 d j)) (λ j. rw j) (λ j. rw j)
    k h refl

-- a record has a kind byte and a name field at least
pub kind-least : (w k : ℕ) → is_known k ≡ true → w + 1 ≤ record_length w k
unfolding record_length
kind-least w =
    by_kind (λ k. w + 1 ≤ record_length w k) (omega arith) (omega arith) (omega arith) (omega arith) (omega arith) (omega arith) (omega arith) (omega arith)

-- ---- how the body of each kind reads
module _ (s : Recipe) (p : ℕ) where
  -- what is asked of a record is asked of its kind byte
  pub owned-kind : is_replacement s p || is_replaced_by s p ≡ owned_kind (kind s p)
  unfolding is_replacement is_replaced_by
  owned-kind = refl

  pub mark-kind : is_mark s p ≡ mark_kind (kind s p)
  unfolding is_mark is_deletion is_replacement is_replaced_by
  mark-kind = refl

  pub pointer-kind : is_mark s p || is_port s p ≡ pointer_kind (kind s p)
  unfolding is_mark is_port is_deletion is_replacement is_replaced_by
  pointer-kind = refl

  -- "way, target", the last parts of a body, by two numbers for each offset
  behind : {i j k l : ℕ} → i ≡ j → k ≡ l → is_way (byte s p i) && (is_name (field s p k) && true) ≡ is_way (byte s p j) && is_name (field s p l)
  behind {i} {j} {k} {l} e f =
      ap (λ (b : Bool). is_way (byte s p i) && b) (and-true (is_name (field s p k)))
      ∙ (ap (λ (n : ℕ). is_way (byte s p n) && is_name (field s p k)) e ∙ ap (λ (n : ℕ). is_way (byte s p j) && is_name (field s p n)) f)

  -- kind 1: "name"
  pub model-form : kind s p ≡ 1 → is_form s p ≡ is_name (first_field s p)
  unfolding is_form reads_behind reads first_field
  model-form k = rw k (and-true (is_name (field s p 0)))

  -- kind 2: "name, class byte, parent or blank, reference or blank"
  pub element-form : kind s p ≡ 2
      → is_form s p ≡ is_name (first_field s p) && (is_class (class s p) && (is_name_or_blank (parent_field s p) && is_name_or_blank (reference_field s p)))
  unfolding is_form reads_behind reads first_field class parent_field reference_field
  element-form k =
      rw k
      (ap (λ (b : Bool). is_name (field s p 0) && (is_class (byte s p s.width) && (is_name_or_blank (field s p (s.width + 1)) && b)))
      (and-true (is_name_or_blank (field s p (s.width + (1 + s.width))))))

  -- kind 3: "name, submodel or blank, way, target"
  pub port-form : kind s p ≡ 3
      → is_form s p ≡ is_name (first_field s p) && (is_name_or_blank (submodel_field s p) && (is_way (way s p) && is_name (target_field s p)))
  unfolding is_form reads_behind reads first_field submodel_offset submodel_field way target_field
  port-form k = rw k (ap (λ (b : Bool). is_name (field s p 0) && (is_name_or_blank (field s p s.width) && b)) (behind refl (omega arith)))

  -- kind 4: "name, model", and the name does not end with an underscore
  pub submodel-form : kind s p ≡ 4
      → is_form s p ≡ is_name (first_field s p) && not (ends_with_underscore (name s p)) && is_name (model_field s p)
  unfolding is_form reads_behind reads first_field name model_field
  submodel-form k =
      rw k
      (ap (λ (b : Bool). is_name (field s p 0) && not (ends_with_underscore (text (field s p 0))) && b) (and-true (is_name (field s p s.width))))

  -- kinds 5 to 7: "submodel, way, target", behind an owner but for a deletion, whose first field is its submodel
  pub mark-form : is_mark s p ≡ true
      → is_form s p ≡ is_name (first_field s p) && (is_name (submodel_field s p) && (is_way (way s p) && is_name (target_field s p)))
  unfolding is_form reads_behind reads first_field submodel_offset submodel_field way target_field
  mark-form h =
      by-mark
      (λ k. kind s p ≡ k → is_form s p ≡ is_name (first_field s p) && (is_name (submodel_field s p) && (is_way (way s p) && is_name (target_field s p))))
      (λ k.
      rw k
      (ap (λ (b : Bool). is_name (field s p 0) && b) (behind (omega arith) (omega arith))
      ∙ sym (and_self_left (is_name (field s p 0)) _)))
      (λ k. rw k (ap (λ (b : Bool). is_name (field s p 0) && (is_name (field s p s.width) && b)) (behind refl (omega arith))))
      (λ k. rw k (ap (λ (b : Bool). is_name (field s p 0) && (is_name (field s p s.width) && b)) (behind refl (omega arith))))
      (kind s p) (sym mark-kind ∙ h) refl

  -- kind 8: "submodel, time factor or blank, extent factor or blank"
  pub factors-form : kind s p ≡ 8
      → is_form s p ≡ is_name (first_field s p) && (is_name_or_blank (time_field s p) && is_name_or_blank (extent_field s p))
  unfolding is_form reads_behind reads first_field time_field extent_field
  factors-form k =
      rw k
      (ap (λ (b : Bool). is_name (field s p 0) && (is_name_or_blank (field s p s.width) && b)) (and-true (is_name_or_blank (field s p (s.width + s.width)))))

  -- the first field of each kind is a name
  pub first_reads : is_known (kind s p) ≡ true → is_form s p ≡ true → is_name (first_field s p) ≡ true
  first_reads h f =
      by_kind (λ k. kind s p ≡ k → is_name (first_field s p) ≡ true)
      (λ k. sym (model-form k) ∙ f)
      (λ k. and_left (is_name (first_field s p)) _ (sym (element-form k) ∙ f))
      (λ k. and_left (is_name (first_field s p)) _ (sym (port-form k) ∙ f))
      (λ k. and_left (is_name (first_field s p)) _ (and_left (is_name (first_field s p) && not (ends_with_underscore (name s p))) _ (sym (submodel-form k) ∙ f)))
      (λ k. and_left (is_name (first_field s p)) _ (sym (mark-form (mark-kind ∙ ap mark_kind k)) ∙ f))
      (λ k. and_left (is_name (first_field s p)) _ (sym (mark-form (mark-kind ∙ ap mark_kind k)) ∙ f))
      (λ k. and_left (is_name (first_field s p)) _ (sym (mark-form (mark-kind ∙ ap mark_kind k)) ∙ f))
      (λ k. and_left (is_name (first_field s p)) _ (sym (factors-form k) ∙ f))
      (kind s p) h refl
