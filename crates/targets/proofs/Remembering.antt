-- Targets that are kept: an answer that is kept leaves the cells right, and the pass over all ports and marks.
-- Assumes nothing.
use Rattle.std.specs.Prelude.{None, Some, is_some}
use Prim.Native.Nat.{◌+◌, ◌<◌, ◌≤◌, ℕ}
use borrow.Author.Tests.{eqb-false, eqb-true, not-false, not-true}
use lib.Dec.{eqb}
use lib.ListN.{get_or, length, set}
use mathlib.Core.Bool.{Bool, false, false≢true, not, true, true≢false}
use mathlib.Core.List.{List, [], ◌∷◌}
use mathlib.Core.Path.{◌∙◌, ◌≡◌, ap, refl, sym}
use native.Mathlib.Omega.{arith}
use Rattle.names.specs.Lists.{In, among}
use Rattle.names.proofs.Tests.{by_cases, not-both, the-some}
use Rattle.recipe.specs.Definitions.{holder}
use Rattle.recipe.specs.Records.{Recipe, is_pointer, kind, places, pointer_kind, record_length}
use Rattle.recipe.proofs.Bodies.{pointer-kind}
use Rattle.recipe.proofs.Definitions.{in-elements, in-submodels}
use Rattle.recipe.proofs.Going.{Going, Here, going_end, going-hit, going_on, going_start, here}
use Rattle.recipe.proofs.Reading.{place-low}
use Rattle.shadow.specs.Columns.{Measured}
use Rattle.shadow.specs.Shadow.{Cell, Kept, Shadowed}
use Rattle.shadow.proofs.Cells.{before-next, cell-kept, cell_set, kept-all, kept_set, kept_then}
use Rattle.shadow.proofs.Columns.{measured-over}
use Rattle.tree.specs.Faults.{fault₈, is_target_fault}
use Rattle.tree.specs.Numbers.{number_in, reach}
use Rattle.targets.specs.Targeted.{Aimed}
use Rattle.targets.specs.Resolve.{Keeps, Memo, OffsetOf, ResolveRequires, Resolved, TargetNumbers}
use Rattle.tree.specs.Tree.{Node, definition_below}
use Rattle.targets.proofs.Resolving.{element-keeps, named-place, named-row, no_target, not-zero, offset-room, own_row, port-found, port-keeps, port-lower, port-sort}
use Rattle.tree.proofs.Targets.{target-walk, walk-element}

-- ---- over writes of the cells 9 and 10
kept_back : {s : Recipe} {ks t t' : List ℕ} → Kept s ks t t' → Kept s ks t' t
kept_back o = record { long = sym o.long; as-was = λ p k i h n. sym (o.as-was p k i h n) }

keeps-over : {s : Recipe} {t t' : List ℕ} {r pl nu : ℕ} → Kept s (9 ∷ 10 ∷ []) t t' → Keeps s t r pl nu → Keeps s t' r pl nu
keeps-over {s} o K = record {
  node = K.node;
  there = K.there;
  at = K.at;
  counts = λ kn l. K.counts (λ path p m j. sym (o.as-was m 7 (in-submodels s _ m j).placed (omega arith) refl) ∙ kn path p m j) l;
}

-- a target is an element, and none is at 0
aim-some : {s : Recipe} {t : List ℕ} {r pl nu : ℕ} → Keeps s t r pl nu → pl ≡ 0 → ⊥
aim-some {s} {t} {r} K z =
    let x = K.node in
    let d = definition_below s (holder s r) x.path in
    not-zero s d x.place (in-elements s d x.place (walk-element s (holder s r) x.path x.place (target-walk s r x K.there))).inside (sym K.at ∙ z)

-- the height of the definition of the record at r, as the cells have it
abbrev pub height-of : List ℕ → ℕ → ℕ
height-of t r = get_or t (get_or t (r + 0) 0 + 6) 0

module _ {s : Recipe} {t : List ℕ} {r : ℕ} (R : ResolveRequires s t r) where
  M : Measured s t
  M = R.measured

  c₀ : Shadowed s t
  c₀ = M.linked.numbered.shadowed

  pub row_of : r + 13 ≤ length t
  row_of = own_row M r R.place R.sort

  pub offset-asks : (r + 4 < length t) × (get_or t (r + 4) 0 + 7 < length t)
  offset-asks = (omega (arith, row_of), offset-room M r R.place R.sort)

  -- no record is named
  pub none_named : {x : ℕ} → x ≡ get_or t (r + 5) 0 → x ≡ 0 → Resolved s t t r false
  none_named q z = record {
    found = sym (ap is_some (no_target M r R.place R.sort q z));
    own = λ o. absurd (false≢true o);
    memo = R.memo;
    stays = λ p i y. y;
    kept = kept-all s _ t;
  }

  -- an answer is kept
  new-answer : {t₁ t₂ : List ℕ} {pl nu : ℕ} → Kept s (9 ∷ 10 ∷ []) t t₁ → Memo s t₁ → ((q : ℕ) → In q (places s) → (get_or t (q + 10) 0 ≡ 0 → ⊥) → get_or t₁ (q + 10) 0 ≡ 0 → ⊥)
      → Keeps s t r pl nu → t₂ ≡ set (set t₁ (r + 9) nu) (r + 10) pl → Resolved s t t₂ r true
  new-answer {t₁} {t₂} {pl} {nu} o m st K k =
      let u = set t₁ (r + 9) nu in
      let one : Kept s (9 ∷ 10 ∷ []) t₁ u = kept_set r 9 nu c₀ (kept-all s _ t₁) R.place (omega arith) refl in
      let two : Kept s (9 ∷ 10 ∷ []) t₁ (set u (r + 10) pl) = kept_set r 10 pl c₀ one R.place (omega arith) refl in
      let on : Kept s (9 ∷ 10 ∷ []) t₁ t₂ = rw k two in
      let a : get_or t₂ (r + 10) 0 ≡ pl = ap (λ (l : List ℕ). get_or l (r + 10) 0) k ∙ cell_set c₀ u r 10 pl R.place (omega arith) (one.long ∙ o.long) in
      let b : get_or t₂ (r + 9) 0 ≡ nu =
      ap (λ (l : List ℕ). get_or l (r + 9) 0) k ∙ cell-kept c₀ u r 10 pl r 9 R.place R.place (omega arith) (omega arith) (λ y z. absurd (omega arith))
      ∙ cell_set c₀ t₁ r 9 nu R.place (omega arith) o.long in
      let other : (c q : ℕ) → c < 13 → In q (places s) → (q ≡ r → ⊥) → get_or t₂ (q + c) 0 ≡ get_or t₁ (q + c) 0 = λ c q low i n.
      ap (λ (l : List ℕ). get_or l (q + c) 0) k ∙ cell-kept c₀ u r 10 pl q c R.place i (omega arith) low (λ y z. n (sym y))
      ∙ cell-kept c₀ t₁ r 9 nu q c R.place i (omega arith) low (λ y z. n (sym y)) in
      let z = aim-some K in record {
        found = sym (ap is_some K.there);
        own = λ y v. z (sym a ∙ v);
        memo = λ q i w y.
            by_cases (eqb q r)
            (λ e. rw (eqb-true q r e, a, b) (keeps-over (kept_then o on) K))
            (λ e.
            let n = eqb-false q r e in
            rw (other 10 q (omega arith) i n, other 9 q (omega arith) i n) (keeps-over on (m q i w (λ v. y (other 10 q (omega arith) i n ∙ v)))));
        stays = λ q i y v. by_cases (eqb q r) (λ e. z (sym a ∙ rw (eqb-true q r e) at v)) (λ e. st q i y (sym (other 10 q (omega arith) i (eqb-false q r e)) ∙ v));
        kept = kept_then o on;
      }

  module _ {x : ℕ} (q : x ≡ get_or t (r + 5) 0) (z : x ≡ 0 → ⊥) where
    pub named-asks : (x + 13 ≤ length t) × (x < length s.bytes)
    named-asks = (named-row M r R.place R.sort q z, place-low s x (named-place M r R.place R.sort q z))

    -- an element is named
    pub element-answers : {t₂ : List ℕ} {f g num : ℕ} → OffsetOf t r f → get_or s.bytes x 0 ≡ 2 → g ≡ get_or t (x + 1) 0 → (f + g < 65536 → num ≡ f + g)
        → t₂ ≡ set (set t (r + 9) num) (r + 10) x → Resolved s t t₂ r true
    element-answers o k e a w = new-answer (kept-all s _ t) R.memo (λ p i y. y) (element-keeps M r R.place R.sort q z k o e a) w

    -- a port is named
    module _ (k : get_or s.bytes x 0 ≡ 2 → ⊥) where
      abbrev atx : In x (places s)
      atx = named-place M r R.place R.sort q z

      pub port-requires : ResolveRequires s t x
      port-requires = record { measured = M; memo = R.memo; place = atx; sort = port-sort M r R.place R.sort q z k }

      pub port-falls : height-of t x < height-of t r
      port-falls = rw (M.linked.numbered.held x atx, M.linked.numbered.held r R.place) (port-lower M r R.place R.sort q z k)

      module _ {t₁ : List ℕ} {ok : Bool} (W : Resolved s t t₁ x ok) where
        pub port-none : not ok ≡ true → Resolved s t t₁ r false
        port-none h = record {
          found = sym (port-found M r R.place R.sort q z k ∙ sym W.found ∙ not-true ok h);
          own = λ o. absurd (false≢true o);
          memo = W.memo;
          stays = W.stays;
          kept = W.kept;
        }

        pub port-answers : {t₂ : List ℕ} {f pl nu num : ℕ} → not ok ≡ false → OffsetOf t r f → pl ≡ get_or t₁ (x + 10) 0 → nu ≡ get_or t₁ (x + 9) 0 → (f + nu < 65536 → num ≡ f + nu)
            → t₂ ≡ set (set t₁ (r + 9) num) (r + 10) pl → Resolved s t t₂ r true
        port-answers {pl = pl} {nu = nu} h o a b e w =
            let K : Keeps s t₁ x pl nu = rw (a, b) (W.memo x atx port-requires.sort (W.own (not-false ok h))) in
            new-answer W.kept W.memo W.stays (port-keeps M r R.place R.sort q z k o (keeps-over (kept_back W.kept) K) e) w

-- ---- the pass
-- the ports and marks before p have targets, and these are kept
pub record TargetLoop (s : Recipe) (t₀ t : List ℕ) (p : ℕ) : Type 0 where
  pub going : Going s (is_target_fault s) p
  pub memo : Memo s t
  pub done : (r : ℕ) → In r (places s) → is_pointer s r ≡ true → r < p → get_or t (r + 10) 0 ≡ 0 → ⊥
  pub kept : Kept s (9 ∷ 10 ∷ []) t₀ t

-- before it cell 10 of each record is cleared
module _ {s : Recipe} {t t₀ : List ℕ} (M : Measured s t) (c : Cell (places s) 10 (λ p. 0) t₀ × Kept s (10 ∷ []) t t₀) where
  pub cleared-measured : Measured s t₀
  cleared-measured = measured-over c.1 refl refl refl M

  pub cleared-kept : Kept s (9 ∷ 10 ∷ []) t t₀
  cleared-kept = record {
    long = c.1.long;
    as-was = λ p k i l n. c.1.as-was p k i l (by_cases (eqb k 9) (λ e. let z : true ≡ false = rw (e, among) at n in not-both refl z) (λ e. rw (e, among) at n));
  }

  pub targets-start : TargetLoop s t₀ t₀ 0
  targets-start = record {
    going = going_start s (is_target_fault s);
    memo = λ r i k z. absurd (z (c.0 r i));
    done = λ r i k l. absurd (omega arith);
    kept = kept-all s _ t₀;
  }

module _ {s : Recipe} {t₀ : List ℕ} (M : Measured s t₀) where
  module _ {t : List ℕ} {p : ℕ} (g : TargetLoop s t₀ t p) where
    pub now-measured : Measured s t
    now-measured = measured-over g.kept refl refl refl M

    -- no port or mark is without a target
    pub targets-end : length s.bytes ≤ p → (fault₈ s ≡ None) × (Aimed s t × TargetNumbers s t)
    unfolding reach fault₈
    targets-end l =
        let e : fault₈ s ≡ None = going_end g.going l in
        let K : (r : ℕ) → In r (places s) → is_pointer s r ≡ true → Keeps s t r (get_or t (r + 10) 0) (get_or t (r + 9) 0) = λ r i k.
        g.memo r i k (g.done r i k (omega (arith, place-low s r i))) in (
          e,
          (
            record { measured = now-measured; row₈ = e; targets = λ r i k x y. (K r i k).at ∙ ap (λ (n : Node). n.place) (the-some (sym (K r i k).there ∙ y)) },
            (λ r i k kn u.
                let v : reach s r ≡ number_in s (holder s r) (K r i k).node = rw ((K r i k).there, reach) in
                (K r i k).counts kn (omega (arith, v, u)) ∙ sym v),
          ),
        )

    -- at the record at p
    module _ (l : p < length s.bytes) where
      pub this-target : Here s (is_target_fault s) p
      this-target = here s (is_target_fault s) p M.linked.numbered.shadowed.whole g.going l

      -- no port or mark
      pub target-skip : {b : Bool} → b ≡ pointer_kind (get_or s.bytes p 0) → b ≡ false → TargetLoop s t₀ t (p + record_length s.width (get_or s.bytes p 0))
      unfolding is_target_fault kind
      target-skip q k =
          let y : is_pointer s p ≡ false = pointer-kind s p ∙ sym q ∙ k in record {
            going = going_on this-target (rw y) refl;
            memo = g.memo;
            done = λ r i m u. before-next s p r this-target.place i refl u (g.done r i m) (λ z. absurd (true≢false (sym m ∙ rw z y)));
            kept = g.kept;
          }

      -- a port or mark
      module _ {b : Bool} (q : b ≡ pointer_kind (get_or s.bytes p 0)) (is : b ≡ true) where
        pointer : is_pointer s p ≡ true
        unfolding kind
        pointer = pointer-kind s p ∙ sym q ∙ is

        pub target-asks : ResolveRequires s t p
        target-asks = record { measured = now-measured; memo = g.memo; place = this-target.place; sort = pointer }

        module _ {t' : List ℕ} {ok : Bool} (W : Resolved s t t' p ok) where
          fault-is : is_target_fault s p ≡ not ok
          unfolding is_target_fault
          fault-is = rw pointer (ap not (sym W.found))

          pub kept_on : Kept s (9 ∷ 10 ∷ []) t₀ t'
          kept_on = kept_then g.kept W.kept

          pub target_hit : not ok ≡ true → fault₈ s ≡ Some p
          unfolding fault₈
          target_hit h = going-hit this-target (fault-is ∙ h)

          pub target_more : not ok ≡ false → TargetLoop s t₀ t' (p + record_length s.width (get_or s.bytes p 0))
          target_more h = record {
            going = going_on this-target (fault-is ∙ h) refl;
            memo = W.memo;
            done = λ r i m u. before-next s p r this-target.place i refl u (λ z. W.stays r i (g.done r i m z)) (λ z. rw z (W.own (not-false ok h)));
            kept = kept_on;
          }
