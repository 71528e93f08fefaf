-- What a pass that writes only later cells leaves of the earlier ones: all that is known of them.
-- Assumes nothing.
use Prim.Native.Nat.{ℕ, ◌+◌, ◌≤◌, ◌<◌}
use native.Mathlib.Omega.{arith}
use mathlib.Core.Path.{◌≡◌, refl, sym, ap, ◌∙◌}
use mathlib.Core.Bool.{true, false, ◌||◌, true≢false}
use mathlib.Core.List.{List, [], ◌∷◌}
use lib.ListN.{get_or}
use lib.Dec.{leb}
use borrow.Author.Tests.{leb-true, ne_eqb, eqb-true}
use Rattle.names.specs.Lists.{In, among, every}
use Rattle.names.proofs.Tests.{by_cases, not-both}
use Rattle.recipe.specs.Records.{Recipe, places, kind, pointer_kind, is_mark, is_port, is_factors}
use Rattle.recipe.specs.Definitions.{model_of}
use Rattle.recipe.proofs.Bodies.{pointer-kind}
use Rattle.recipe.proofs.Definitions.{in-submodels, model_in, holder_in}
use Rattle.recipe.proofs.Spans.{definition-place}
use Rattle.shadow.specs.Shadow.{Kept}
use Rattle.shadow.specs.Columns.{Numbered, Linked, Paired, Measured}
use Rattle.shadow.proofs.Cells.{shadowed-over}

-- none of the cells ks is below n
low-not-among : (n k : ℕ) (ks : List ℕ) → every (leb n) ks ≡ true → k < n → among k ks ≡ false
low-not-among n k [] e l = refl
low-not-among n k (j ∷ ks) e l =
    by_cases (leb n j)
    (λ b. rw (ne_eqb k j (omega (arith, leb-true n j b)), among) (low-not-among n k ks (rw (b, every) at e) l))
    (λ b. let z : false ≡ true = rw (b, every) at e in not-both z refl)

no-submodel : (s : Recipe) (r : ℕ) → is_mark s r || is_port s r ≡ true → kind s r ≡ 4 → ⊥
no-submodel s r h k = true≢false (sym h ∙ pointer-kind s r ∙ ap pointer_kind k)

module _ {s : Recipe} {ks t₀ t : List ℕ} (o : Kept s ks t₀ t) where
  -- a cell below all that are written
  pub below-kept : (n : ℕ) → n ≤ 13 → every (leb n) ks ≡ true → (p k : ℕ) → In p (places s) → k < n → get_or t (p + k) 0 ≡ get_or t₀ (p + k) 0
  below-kept n few e p k i l = o.as-was p k i (omega arith) (low-not-among n k ks e l)

  pub numbered-over : every (leb 3) ks ≡ true → Numbered s t₀ → Numbered s t
  numbered-over e g =
      let was : (p k : ℕ) → In p (places s) → k < 3 → get_or t (p + k) 0 ≡ get_or t₀ (p + k) 0 = below-kept 3 (omega arith) e in
      record {
        shadowed = shadowed-over o g.shadowed;
        held = λ p i. was p 0 i (omega arith) ∙ g.held p i;
        orders = λ x i k. was x 1 i (omega arith) ∙ g.orders x i k;
        counts = λ d i. was d 2 (definition-place s d i).0 (omega arith) ∙ g.counts d i;
      }

  -- nothing is said of cell 5 of a submodel
  pub linked-beside : every (leb 3) ks ≡ true → ((p k : ℕ) → In p (places s) → k < 5 → get_or t (p + k) 0 ≡ get_or t₀ (p + k) 0)
      → ((p : ℕ) → In p (places s) → (kind s p ≡ 4 → ⊥) → get_or t (p + 5) 0 ≡ get_or t₀ (p + 5) 0) → Linked s t₀ → Linked s t
  unfolding is_factors
  linked-beside e₃ was was₅ g =
      record {
        numbered = numbered-over e₃ g.numbered;
        row₃ = g.row₃;
        row₄ = g.row₄;
        row₅ = g.row₅;
        parents = λ x i k. was x 3 i (omega arith) ∙ g.parents x i k;
        owners = λ r i k. was r 3 i (omega arith) ∙ g.owners r i k;
        models = λ m i k. was m 3 i (omega arith) ∙ g.models m i k;
        references = λ x i k. was x 4 i (omega arith) ∙ g.references x i k;
        named-submodels = λ r i k b. was r 4 i (omega arith) ∙ g.named-submodels r i k b;
        no-submodels = λ r i k b. was r 4 i (omega arith) ∙ g.no-submodels r i k b;
        named-records = λ r i k. was₅ r i (λ z. no-submodel s r k z) ∙ g.named-records r i k;
        times = λ f i k. was f 3 i (omega arith) ∙ g.times f i k;
        scaled = λ f i k. was f 4 i (omega arith) ∙ g.scaled f i k;
        extents = λ f i k. was₅ f i (λ z. omega (arith, eqb-true (kind s f) 8 k)) ∙ g.extents f i k;
      }

  pub linked-over : every (leb 6) ks ≡ true → every (leb 3) ks ≡ true → Linked s t₀ → Linked s t
  linked-over e e₃ g =
      linked-beside e₃ (λ p k i l. below-kept 6 (omega arith) e p k i (omega arith)) (λ p i n. below-kept 6 (omega arith) e p 5 i (omega arith)) g

  pub paired-over : every (leb 6) ks ≡ true → Paired s t₀ → Paired s t
  paired-over e g = record { row₁₉ = g.row₁₉; factors = λ m i k. below-kept 6 (omega arith) e m 5 i (omega arith) ∙ g.factors m i k }

  pub measured-over : every (leb 7) ks ≡ true → every (leb 6) ks ≡ true → every (leb 3) ks ≡ true → Measured s t₀ → Measured s t
  measured-over e e₆ e₃ g =
      let was : (p k : ℕ) → In p (places s) → k < 7 → get_or t (p + k) 0 ≡ get_or t₀ (p + k) 0 = below-kept 7 (omega arith) e in
      record {
        linked = linked-over e₆ e₃ g.linked;
        paired = paired-over e₆ g.paired;
        row₆ = g.row₆;
        heights = record {
          some = λ d i. rw (was d 6 (definition-place s d i).0 (omega arith)) (g.heights.some d i);
          falls = λ d m i.
              let h = in-submodels s d m i in
              let a = (definition-place s (model_of s m) (model_in s d m i)).0 in
              let b = (definition-place s d (rw (sym h.held) (holder_in s m h.placed))).0 in
              rw (was (model_of s m) 6 a (omega arith), was d 6 b (omega arith)) (g.heights.falls d m i);
        };
      }
