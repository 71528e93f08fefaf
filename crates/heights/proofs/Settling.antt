-- Settling heights depth first: what is settled stays and falls along submodel records, and a definition that is met in progress reaches itself.
-- Assumes nothing.
use mathlib.Core.Path.{◌≡◌, refl, sym, ap, ◌∙◌}
use mathlib.Core.Logic.{inl, inr}
use Prim.Native.Nat.{ℕ, suc, ◌+◌, ◌≤◌, ◌<◌, max}
use native.Mathlib.Omega.{arith}
use mathlib.Core.Bool.{Bool, true, false, false≢true}
use mathlib.Core.List.{List, [], ◌∷◌}
use lib.ListN.{length, get_or, set}
use lib.Dec.{eqb, ltb}
use borrow.Author.Tests.{eqb-true, eqb-false, eq-eqb, ltb-true, lt-ltb}
use Rattle.names.specs.Lists.{In, keep}
use Rattle.names.proofs.Tests.{by_cases, and_left, both, not-both}
use Rattle.names.proofs.ListOrder.{Rising}
use Rattle.recipe.specs.Records.{Recipe, record_length, places}
use Rattle.recipe.specs.Definitions.{definitions, holder, submodels, model_of}
use Rattle.recipe.specs.Reaching.{Reach, direct}
use Rattle.recipe.proofs.Definitions.{model_in, holder_in, definitions-rise}
use Rattle.recipe.proofs.Reaching.{reach-append}
use Rattle.recipe.proofs.Rows.{no-cycle}
use Rattle.recipe.proofs.Spans.{holder-above, holder-below, definition-place}
use Rattle.shadow.specs.Shadow.{Shadowed, Cell, Kept}
use Rattle.shadow.specs.Columns.{Linked, Heights}
use Rattle.shadow.proofs.Cells.{cell_set, cell-kept, kept-all, kept_set, kept_then, Walking, walk_start, walk-place, walk-one, before-next}
use Rattle.shadow.proofs.Columns.{linked-over}
use Rattle.heights.specs.Heights.{height_of, is_unseen, is_settled, count_of, Partly, HeightsAdded, SettleFromRequires, Grows, IsCyclic}
use Rattle.heights.proofs.Along.{Through, definition-low, linked-room, submodel-after, submodel-in, submodel-model, through-end, through-on, through-one, through-start}

-- ---- members that pass a test
module _ (f g : ℕ → Bool) where
  keep-more : (xs : List ℕ) → ((x : ℕ) → In x xs → f x ≡ true → g x ≡ true) → length (keep f xs) ≤ length (keep g xs)
  keep-more [] h = omega arith
  keep-more (x ∷ xs) h =
      let r = keep-more xs (λ y i. h y (inr i)) in
      by_cases (f x)
      (λ a. rw (a, h x (inl refl) a, keep) (omega arith))
      (λ a. by_cases (g x) (λ b. rw (a, b, keep) (omega arith)) (λ b. rw (a, b, keep) (omega arith)))

  -- one more passes
  keep_one : (xs : List ℕ) → ((x : ℕ) → In x xs → f x ≡ true → g x ≡ true) → (y : ℕ) → In y xs → f y ≡ false → g y ≡ true → length (keep f xs) < length (keep g xs)
  keep_one [] h y i a b = absurd i
  keep_one (x ∷ xs) h y (inl q) a b =
      let a' : f x ≡ false = rw q at a in
      let b' : g x ≡ true = rw q at b in
      rw (a', b', keep) (omega (arith, keep-more xs (λ y i. h y (inr i))))
  keep_one (x ∷ xs) h y (inr i) a b =
      let r = keep_one xs (λ y i. h y (inr i)) y i a b in
      by_cases (f x)
      (λ c. rw (c, h x (inl refl) c, keep) (omega arith))
      (λ c. by_cases (g x) (λ d. rw (c, d, keep) (omega arith)) (λ d. rw (c, d, keep) (omega arith)))

keep-few : (f : ℕ → Bool) (xs : List ℕ) → length (keep f xs) ≤ length xs
keep-few f [] = omega arith
keep-few f (x ∷ xs) = let r = keep-few f xs in by_cases (f x) (λ a. rw (a, keep) (omega arith)) (λ a. rw (a, keep) (omega arith))

-- a rising list of numbers below n has no more than n
rising-few : (p n : ℕ) (xs : List ℕ) → Rising p xs → ((x : ℕ) → In x xs → x < n) → p ≤ n → p + length xs ≤ n
rising-few p n [] r h l = omega arith
rising-few p n (x ∷ xs) r h l = omega (arith, r.0, rising-few (suc x) n xs r.1 (λ y i. h y (inr i)) (omega (arith, h x (inl refl))))

count_low : (f : ℕ → Bool) (s : Recipe) (t : List ℕ) → count_of f s t ≤ length s.bytes
count_low f s t =
    omega (
      arith,
      keep-few (λ d. f (height_of t d)) (definitions s),
      rising-few 0 (length s.bytes) (definitions s) (definitions-rise s) (λ d i. definition-low s d i) (omega arith),
    )

-- ---- a settled height
settled-some : (h : ℕ) → is_settled h ≡ true → 1 ≤ h
settled-some h e = ltb-true 0 h (and_left (ltb 0 h) (ltb h 65535) e)

settled_is : (h : ℕ) → 1 ≤ h → h < 65535 → is_settled h ≡ true
settled_is h a b = both (lt-ltb 0 h a) (lt-ltb h 65535 b)

-- ---- what has grown, over two stretches
module _ {s : Recipe} where
  grown-none : (t : List ℕ) → HeightsAdded s t t
  grown-none t = record { kept = kept-all s (6 ∷ []) t; same = λ x i l. refl; busy = λ x i e. e }

  grown-then : {t₀ t t' : List ℕ} → HeightsAdded s t₀ t → HeightsAdded s t t' → HeightsAdded s t₀ t'
  grown-then a b = record {
    kept = kept_then a.kept b.kept;
    same = λ x i l. b.same x i (omega (arith, a.same x i l)) ∙ a.same x i l;
    busy = λ x i e. a.busy x i (b.busy x i e);
  }

  grown-settled : {t₀ t : List ℕ} → HeightsAdded s t₀ t → (x : ℕ) → In x (definitions s) → is_settled (height_of t₀ x) ≡ true → is_settled (height_of t x) ≡ true
  grown-settled {t₀} k x i e = ap is_settled (k.same x i (settled-some (height_of t₀ x) e)) ∙ e

  grown-count : {t₀ t : List ℕ} → HeightsAdded s t₀ t → count_of is_settled s t₀ ≤ count_of is_settled s t
  grown-count {t₀} {t} k = keep-more (λ d. is_settled (height_of t₀ d)) (λ d. is_settled (height_of t d)) (definitions s) (grown-settled k)

pub linked-heights : {s : Recipe} {t₀ t : List ℕ} → Kept s (6 ∷ []) t₀ t → Linked s t₀ → Linked s t
linked-heights k g = linked-over k refl refl g

-- ---- the height of d is written
module _ {s : Recipe} {t₀ : List ℕ} {d : ℕ} (x : SettleFromRequires s t₀ d) where
  enter-shadowed : Shadowed s t₀
  enter-shadowed = x.linked.numbered.shadowed

  pub enter-place : In d (places s)
  enter-place = (definition-place s d x.definition).0

  pub enter-room : d + 13 ≤ length t₀
  enter-room = linked-room x.linked d enter-place

module _ {s : Recipe} {t₀ : List ℕ} {d : ℕ} (x : SettleFromRequires s t₀ d) (t : List ℕ) (v : ℕ) where
  put-kept : Kept s (6 ∷ []) t (set t (d + 6) v)
  put-kept = kept_set d 6 v (enter-shadowed x) (kept-all s (6 ∷ []) t) (enter-place x) (omega arith) refl

  put-own : length t ≡ length t₀ → height_of (set t (d + 6) v) d ≡ v
  put-own l = cell_set (enter-shadowed x) t d 6 v (enter-place x) (omega arith) l

  put_other : (y : ℕ) → In y (definitions s) → (y ≡ d → ⊥) → height_of (set t (d + 6) v) y ≡ height_of t y
  put_other y i n = cell-kept (enter-shadowed x) t d 6 v y 6 (enter-place x) (definition-place s y i).0 (omega arith) (omega arith) (λ e q. n (sym e))

  -- of one that was not settled: what is settled stays
  module _ (l : length t ≡ length t₀) (o : is_settled (height_of t d) ≡ false) where
    put-stays : (y : ℕ) → In y (definitions s) → is_settled (height_of t y) ≡ true → height_of (set t (d + 6) v) y ≡ height_of t y
    put-stays y i e = by_cases (eqb y d) (λ q. not-both (rw (eqb-true y d q) at e) o) (λ q. put_other y i (eqb-false y d q))

    put-settled : (y : ℕ) → In y (definitions s) → is_settled (height_of t y) ≡ true → is_settled (height_of (set t (d + 6) v) y) ≡ true
    put-settled y i e = ap is_settled (put-stays y i e) ∙ e

    put-partly : Partly s t
        → (is_settled v ≡ true → (v ≤ count_of is_settled s (set t (d + 6) v)) × ((m : ℕ) → In m (submodels s d) → (is_settled (height_of t (model_of s m)) ≡ true) × (height_of t (model_of s m) < v)))
        → Partly s (set t (d + 6) v)
    put-partly p n = record {
      falls = λ y m e i.
          let under : (is_settled (height_of t (model_of s m)) ≡ true) × (height_of t (model_of s m) < height_of (set t (d + 6) v) y) =
          by_cases (eqb y d)
          (λ q.
          let same : y ≡ d = eqb-true y d q in
          let own : height_of (set t (d + 6) v) y ≡ v = ap (height_of (set t (d + 6) v)) same ∙ put-own l in
          let f = (n (sym (ap is_settled own) ∙ e)).1 m (rw same at i) in
          (f.0, omega (arith, f.1, own)))
          (λ q.
          let w = put_other y (submodel-after s y m i).0 (eqb-false y d q) in
          let f = p.falls y m (sym (ap is_settled w) ∙ e) i in
          (f.0, omega (arith, f.1, w))) in
          let z = model_in s y m i in
          (put-settled (model_of s m) z under.0, omega (arith, under.1, put-stays (model_of s m) z under.0));
      low = λ y i e.
          by_cases (eqb y d)
          (λ q.
          let own : height_of (set t (d + 6) v) y ≡ v = ap (height_of (set t (d + 6) v)) (eqb-true y d q) ∙ put-own l in
          omega (arith, own, (n (sym (ap is_settled own) ∙ e)).0))
          (λ q.
          let w = put_other y i (eqb-false y d q) in
          omega (
            arith,
            w,
            p.low y i (sym (ap is_settled w) ∙ e),
            keep-more (λ y. is_settled (height_of t y)) (λ y. is_settled (height_of (set t (d + 6) v) y)) (definitions s) put-settled,
          ));
    }

-- ---- the submodels of d are settled, no higher than h, but for those left
abbrev pub IsUnder : Recipe → List ℕ → ℕ → ℕ → Type 0
IsUnder s t h m = (is_settled (height_of t (model_of s m)) ≡ true) × (height_of t (model_of s m) ≤ h)

pub record SettleLoop (s : Recipe) (d : ℕ) (t₀ t : List ℕ) (h : ℕ) (rs : List ℕ) : Type 0 where
  pub grown : HeightsAdded s t₀ t
  pub partly : Partly s t
  pub few : h ≤ count_of is_settled s t
  pub through : Through (submodels s d) (IsUnder s t h) rs

module _ {s : Recipe} {t₀ : List ℕ} {d : ℕ} (x : SettleFromRequires s t₀ d) where
  -- d itself is in progress, or settled already
  pub meets-itself : height_of t₀ d ≡ 65535 → IsCyclic s
  meets-itself e f = no-cycle s f d x.definition (x.path d x.definition e)

  pub settled-already : {h : ℕ} → (h ≡ height_of t₀ d) × (is_settled (height_of t₀ d) ≡ true) → Grows s t₀ t₀ d h
  settled-already q = record { partly = x.partly; grown = grown-none t₀; own = q.1; height = q.0 }

  -- it is not seen yet: now it is in progress
  module _ {t₁ : List ℕ} (q₁ : t₁ ≡ set t₀ (d + 6) 65535) where
    enter-kept : Kept s (6 ∷ []) t₀ t₁
    enter-kept = rw q₁ (put-kept x t₀ 65535)

    enter-own : height_of t₁ d ≡ 65535
    enter-own = rw q₁ (put-own x t₀ 65535 refl)

    enter-other : (y : ℕ) → In y (definitions s) → (y ≡ d → ⊥) → height_of t₁ y ≡ height_of t₀ y
    enter-other = rw q₁ (put_other x t₀ 65535)

  module _ {t₁ : List ℕ} (q₁ : t₁ ≡ set t₀ (d + 6) 65535) (z : height_of t₀ d ≡ 0) where
    pub enter : {rs : List ℕ} → rs ≡ submodels s d → SettleLoop s d t₁ t₁ 0 rs
    enter e = record {
      grown = grown-none t₁;
      partly = rw q₁ (put-partly x t₀ 65535 refl (ap is_settled z) x.partly (λ n. absurd (false≢true n)));
      few = omega arith;
      through = through-start (IsUnder s t₁ 0) e;
    }

    module _ {t rs : List ℕ} {h : ℕ} (u : SettleLoop s d t₁ t h rs) where
      pub now-kept : Kept s (6 ∷ []) t₀ t
      now-kept = kept_then (enter-kept q₁) u.grown.kept

      pub now-linked : Linked s t
      now-linked = linked-heights now-kept x.linked

      now-own : height_of t d ≡ 65535
      now-own = u.grown.same d x.definition (omega (arith, enter-own q₁)) ∙ enter-own q₁

      now-other : (y : ℕ) → In y (definitions s) → (y ≡ d → ⊥) → 1 ≤ height_of t₀ y → height_of t y ≡ height_of t₀ y
      now-other y i n l =
          let o = enter-other q₁ y i n in
          u.grown.same y i (omega (arith, o)) ∙ o

      now-busy : (y : ℕ) → In y (definitions s) → (y ≡ d → ⊥) → height_of t y ≡ 65535 → height_of t₀ y ≡ 65535
      now-busy y i n e = sym (enter-other q₁ y i n) ∙ u.grown.busy y i e

      -- fewer are left to see than at the start
      pub call-falls : count_of is_unseen s t < count_of is_unseen s t₀
      call-falls =
          keep_one (λ y. is_unseen (height_of t y)) (λ y. is_unseen (height_of t₀ y)) (definitions s)
          (λ y i e.
          by_cases (eqb y d)
          (λ q. eq-eqb (height_of t₀ y) 0 (rw (eqb-true y d q) z))
          (λ q.
          by_cases (is_unseen (height_of t₀ y))
          (λ b. b)
          (λ b.
          let n = eqb-false (height_of t₀ y) 0 b in
          let o = now-other y i (eqb-false y d q) (omega arith) in
          absurd (n (sym o ∙ eqb-true (height_of t y) 0 e)))))
          d x.definition (ap is_unseen now-own) (eq-eqb (height_of t₀ d) 0 z)

      module _ {p e : ℕ} {ts : List ℕ} (l : rs ≡ p ∷ ts) (q : e ≡ get_or t (p + 3) 0) where
        one : In p (submodels s d)
        one = through-one u.through l

        -- what is in progress reaches d, and so its submodel's model
        pub call_enters : SettleFromRequires s t e
        call_enters =
            let to : Reach s d e = direct p one (sym (q ∙ submodel-model now-linked d p one)) in
            record {
              linked = now-linked;
              partly = u.partly;
              definition = rw q (submodel-in now-linked d p one);
              path = λ y i k.
                  by_cases (eqb y d)
                  (λ b. rw (eqb-true y d b) to)
                  (λ b. reach-append s (x.path y i (now-busy y i (eqb-false y d b) k)) to);
            }

        -- the submodel's model is settled now
        pub settle-on : {t' : List ℕ} {k : ℕ} → Grows s t t' e k → SettleLoop s d t₁ t' (max h k) ts
        settle-on {t'} {k} w =
            let model : e ≡ model_of s p = q ∙ submodel-model now-linked d p one in
            record {
              grown = grown-then u.grown w.grown;
              partly = w.partly;
              few = omega (arith, u.few, grown-count w.grown, w.height, w.partly.low e (rw q (submodel-in now-linked d p one)) w.own);
              through = through-on u.through (IsUnder s t' (max h k)) l
                  (λ m i v.
                  let z = model_in s d m i in
                  (grown-settled w.grown (model_of s m) z v.0, omega (arith, v.1, w.grown.same (model_of s m) z (settled-some (height_of t (model_of s m)) v.0))))
                  (rw (← model) (w.own, omega (arith, w.height)));
            }

      pub height-low : h < 65534
      height-low = omega (arith, u.few, count_low is_settled s t, (enter-shadowed x).short)

      -- ---- d is settled above its submodels' models
      pub leave-kept : Kept s (6 ∷ []) t₀ (set t (d + 6) (h + 1))
      leave-kept = kept_then now-kept (put-kept x t (h + 1))

      leave_own : height_of (set t (d + 6) (h + 1)) d ≡ h + 1
      leave_own = put-own x t (h + 1) now-kept.long

      leave-settled : is_settled (height_of (set t (d + 6) (h + 1)) d) ≡ true
      leave-settled = ap is_settled leave_own ∙ settled_is (h + 1) (omega arith) (omega (arith, height-low))

      leave-more : count_of is_settled s t < count_of is_settled s (set t (d + 6) (h + 1))
      leave-more =
          keep_one (λ y. is_settled (height_of t y)) (λ y. is_settled (height_of (set t (d + 6) (h + 1)) y)) (definitions s)
          (put-settled x t (h + 1) now-kept.long (ap is_settled now-own))
          d x.definition (ap is_settled now-own) leave-settled

      pub leave : rs ≡ [] → Grows s t₀ (set t (d + 6) (h + 1)) d (h + 1)
      leave l = record {
        partly = put-partly x t (h + 1) now-kept.long (ap is_settled now-own) u.partly
            (λ e. (omega (arith, u.few, leave-more), λ m i. let v = through-end u.through l m i in (v.0, omega (arith, v.1))));
        grown = record {
          kept = leave-kept;
          same = λ y i k.
              by_cases (eqb y d)
              (λ q. absurd (omega (arith, ap (height_of t₀) (eqb-true y d q), z)))
              (λ q. put_other x t (h + 1) y i (eqb-false y d q) ∙ now-other y i (eqb-false y d q) k);
          busy = λ y i e.
              by_cases (eqb y d)
              (λ q. absurd (omega (arith, ap (height_of (set t (d + 6) (h + 1))) (eqb-true y d q), leave_own, height-low)))
              (λ q. now-busy y i (eqb-false y d q) (sym (put_other x t (h + 1) y i (eqb-false y d q)) ∙ e));
        };
        own = leave-settled;
        height = sym leave_own;
      }

-- ---- the definitions of the records before p are settled, and none is in progress
pub record SettlesLoop (s : Recipe) (t₀ t : List ℕ) (p : ℕ) : Type 0 where
  pub walking : Walking s (6 ∷ []) t₀ t p
  pub partly : Partly s t
  pub idle : (x : ℕ) → In x (definitions s) → height_of t x ≡ 65535 → ⊥
  pub upto : (d : ℕ) → In d (definitions s) → d < p → is_settled (height_of t d) ≡ true

pub settles-start : {s : Recipe} {t : List ℕ} → Cell (places s) 6 (λ p. 0) t → SettlesLoop s t t 0
settles-start {s} {t} c =
    let zeros : (x : ℕ) → In x (definitions s) → height_of t x ≡ 0 = λ x i. c x (definition-place s x i).0 in
    let none_yet : (x : ℕ) → In x (definitions s) → is_settled (height_of t x) ≡ true → ⊥ = λ x i e. omega (arith, settled-some (height_of t x) e, zeros x i) in
    record {
      walking = walk_start s (6 ∷ []) t;
      partly = record { falls = λ d m e i. absurd (none_yet d (submodel-after s d m i).0 e); low = λ d i e. absurd (none_yet d i e) };
      idle = λ x i e. omega (arith, zeros x i);
      upto = λ d i k. absurd (omega arith);
    }

module _ {s : Recipe} {t₀ t : List ℕ} {p : ℕ} (g : Linked s t₀) (u : SettlesLoop s t₀ t p) where
  pub settles-linked : Linked s t
  settles-linked = linked-heights u.walking.kept g

  module _ (l : p < length s.bytes) where
    pub settles-place : In p (places s)
    settles-place = walk-place g.numbered.shadowed u.walking l

    module _ {d : ℕ} (q : d ≡ get_or t (p + 0) 0) where
      settles-holder : d ≡ holder s p
      settles-holder = q ∙ settles-linked.numbered.held p settles-place

      pub settles-enters : SettleFromRequires s t d
      settles-enters = record {
        linked = settles-linked;
        partly = u.partly;
        definition = rw settles-holder (holder_in s p settles-place);
        path = λ x i e. absurd (u.idle x i e);
      }

      pub settles_on : {t' : List ℕ} {h : ℕ} → Grows s t t' d h → SettlesLoop s t₀ t' (p + record_length s.width (get_or s.bytes p 0))
      settles_on w = record {
        walking = walk-one g.numbered.shadowed u.walking l refl w.grown.kept;
        partly = w.partly;
        idle = λ x i k. u.idle x i (w.grown.busy x i k);
        upto = λ c i k.
            before-next s p c settles-place (definition-place s c i).0 refl k
            (λ z. grown-settled w.grown c i (u.upto c i z))
            (λ z.
            let own : d ≡ c = settles-holder ∙ omega (arith, holder-above s c p i (omega arith), holder-below s p) in
            rw own at w.own);
      }

  pub settles_end : length s.bytes ≤ p → Heights s t
  settles_end l =
      let all : (d : ℕ) → In d (definitions s) → is_settled (height_of t d) ≡ true = λ d i. u.upto d i (omega (arith, definition-low s d i)) in
      record {
        some = λ d i. settled-some (height_of t d) (all d i);
        falls = λ d m i. (u.partly.falls d m (all d (submodel-after s d m i).0) i).1;
      }
