-- The search for what a definition reaches: marks and queue as they grow, and what they say when all is expanded.
-- Assumes nothing.
use Rattle.std.specs.Prelude.{Some}
use mathlib.Core.Path.{◌≡◌, refl, sym, ap, ◌∙◌}
use mathlib.Core.Logic.{⊎_elim}
use Prim.Native.Nat.{ℕ, zero, suc, ◌+◌, ◌/◌, ◌≤◌, ◌<◌}
use native.Mathlib.Omega.{arith}
use mathlib.Core.Bool.{Bool, true, false, false≢true}
use mathlib.Core.List.{List, [], ◌∷◌}
use lib.ListN.{length, get_or, set, replicate, length-set, length-replicate}
use lib.Seq.{get_or-set_same, get_or-set_other}
use lib.Dec.{eqb, ltb}
use borrow.Author.Tests.{eqb-true, eqb-false, eq-eqb, ltb-true, ltb-false}
use Rattle.names.specs.Lists.{In}
use Rattle.names.proofs.Tests.{by_cases, not-both, three, both_ways, or_left, or_right, or_cases}
use Rattle.recipe.specs.Records.{Recipe}
use Rattle.recipe.specs.Definitions.{definitions, model_of, submodels}
use Rattle.recipe.specs.Reaching.{Reach, direct, onward, reaches}
use Rattle.recipe.proofs.Definitions.{model_in}
use Rattle.recipe.proofs.Reaching.{plain-reaches, reaches-plain, reach-in, reach-append}
use Rattle.recipe.proofs.Spans.{definition-place}
use Rattle.shadow.specs.Columns.{Linked}
use Rattle.shadow.proofs.Cells.{apart}
use Rattle.heights.specs.declared.Worklist.{Worklist}
use Rattle.heights.specs.Marks.{many, is_queued, Marks}
use Rattle.heights.specs.Search.{IsEmpty, IsMarked, Grown, Takes, ModelBelow}
use Rattle.heights.proofs.Along.{Through, submodel-model, through-on, through-one}

-- ---- how many are marked
many-set : (bs : List Bool) (i : ℕ) → i < length bs → get_or bs i false ≡ false → many (set bs i true) ≡ many bs + 1
many-set [] i h n = absurd (omega arith)
many-set (b ∷ bs) zero h n = rw n (omega arith)
many-set (b ∷ bs) (suc i) h n = omega (arith, many-set bs i (omega arith) n)

many_low : (bs : List Bool) → many bs ≤ length bs
many_low [] = omega arith
many_low (true ∷ bs) = omega (arith, many_low bs)
many_low (false ∷ bs) = omega (arith, many_low bs)

-- ---- what is queued
queued-set : (queue : List ℕ) (t e n j : ℕ) → n ≤ t → is_queued (set queue t e) n j ≡ is_queued queue n j
queued-set queue t e zero j l = refl
queued-set queue t e (suc n) j l = rw (get_or-set_other queue t n e 0 (λ q. omega (arith, q)), queued-set queue t e n j (omega arith))

queued_at : (queue : List ℕ) (n j : ℕ) → is_queued queue n j ≡ true → (i : ℕ) × (i < n) × (get_or queue i 0 / 13 ≡ j)
queued_at queue zero j h = absurd (false≢true h)
queued_at queue (suc n) j h =
    ⊎_elim
    (λ (b : eqb (get_or queue n 0 / 13) j ≡ true). (n, omega arith, eqb-true (get_or queue n 0 / 13) j b))
    (λ (b : is_queued queue n j ≡ true). let z = queued_at queue n j b in (z.0, omega (arith, z.1), z.2))
    (or_cases (eqb (get_or queue n 0 / 13) j) (is_queued queue n j) h)

-- ---- one more mark
module _ {mark : List Bool} {queue : List ℕ} {tail : ℕ} (r : Marks mark queue tail) where
  pub tail-low : tail ≤ 1261
  tail-low = omega (arith, r.counted, r.marks, many_low mark)

  module _ (e : ℕ) (h : e < 16384) (n : get_or mark (e / 13) false ≡ false) where
    many_more : many (set mark (e / 13) true) ≡ tail + 1
    many_more = omega (arith, many-set mark (e / 13) (omega (arith, r.marks)) n, r.counted)

    pub queue-room : tail < 1261
    queue-room = omega (arith, many_more, many_low (set mark (e / 13) true), length-set mark (e / 13) true, r.marks)

    pub queue-new : get_or (set queue tail e) tail 0 ≡ e
    queue-new = get_or-set_same queue tail e 0 (omega (arith, queue-room, r.queues))

    pub marks-one : Marks (set mark (e / 13) true) (set queue tail e) (tail + 1)
    marks-one = record {
      marks = length-set mark (e / 13) true ∙ r.marks;
      queues = length-set queue tail e ∙ r.queues;
      counted = sym many_more;
      queued = λ j k.
          let o : tail + 1 ≡ suc tail = omega arith in
          rw o
          (by_cases (eqb j (e / 13))
          (λ b. or_left (eqb (get_or (set queue tail e) tail 0 / 13) j) (is_queued (set queue tail e) tail j) (eq-eqb (get_or (set queue tail e) tail 0 / 13) j (ap (λ (y : ℕ). y / 13) queue-new ∙ sym (eqb-true j (e / 13) b))))
          (λ b.
          or_right (eqb (get_or (set queue tail e) tail 0 / 13) j) (is_queued (set queue tail e) tail j)
          (queued-set queue tail e tail j (omega arith) ∙ r.queued j (sym (get_or-set_other mark (e / 13) j true false (eqb-false j (e / 13) b)) ∙ k))));
    }

-- ---- as a search has them
pub grown-none : (P : ℕ → Type 0) (a : Worklist) → Grown P a a
grown-none P a = record { head = refl; more = omega arith; keeps = λ j k. k; same = λ i l. refl; new = λ i l u. absurd (omega arith) }

module _ (a : Worklist) (e : ℕ) (h : e < 16384) (n : get_or a.mark (e / 13) false ≡ false) where
  pub grown-one : {b : Worklist} → b.mark ≡ set a.mark (e / 13) true → b.queue ≡ set a.queue a.tail e → b.head ≡ a.head → b.tail ≡ a.tail + 1 → Grown (λ x. x ≡ e) a b × IsMarked b e
  grown-one {b} m q f t = (
    record {
      head = f;
      more = omega (arith, t);
      keeps = λ j k. rw m (get_or-set_other a.mark (e / 13) j true false (λ q. not-both (ap (λ (y : ℕ). get_or a.mark y false) (sym q) ∙ k) n) ∙ k);
      same = λ i l. rw q (get_or-set_other a.queue a.tail i e 0 (λ q. omega (arith, q)));
      new = λ i l u. let z : i ≡ a.tail = omega (arith, t) in rw (q, z) (queue-new a.marks e h n);
    },
    rw m (get_or-set_same a.mark (e / 13) true false (omega (arith, a.marks.marks))),
  )

-- ---- the models of the submodels of d are marked, but for those left
abbrev pub ModelMarked : Recipe → Worklist → ℕ → Type 0
ModelMarked s a m = IsMarked a (model_of s m)

pub record ExpandLoop (s : Recipe) (d : ℕ) (a b : Worklist) (rs : List ℕ) : Type 0 where
  pub grown : Grown (ModelBelow s d) a b
  pub through : Through (submodels s d) (ModelMarked s b) rs

module _ {s : Recipe} {d : ℕ} {a b : Worklist} {rs : List ℕ} (u : ExpandLoop s d a b rs) where
  pub expand-on : {t ts : List ℕ} {c : Worklist} {e p : ℕ} → Linked s t → rs ≡ p ∷ ts → e ≡ get_or t (p + 3) 0
      → Grown (λ x. x ≡ e) b c × IsMarked c e → ExpandLoop s d a c ts
  expand-on {c = c} {e = e} {p = p} g h q x =
      let v = u.grown in
      let w = x.0 in
      let i = through-one u.through h in
      let model : e ≡ model_of s p = q ∙ submodel-model g d p i in
      record {
        grown = record {
          head = w.head ∙ v.head;
          more = omega (arith, v.more, w.more);
          keeps = λ j k. w.keeps j (v.keeps j k);
          same = λ i k. w.same i (omega (arith, v.more)) ∙ v.same i k;
          new = λ j o k.
              by_cases (ltb j b.tail)
              (λ f. let z = ltb-true j b.tail f in rw (w.same j z) (v.new j o z))
              (λ f. (p, i, sym (w.new j (ltb-false j b.tail f) k ∙ model)));
        };
        through = through-on u.through (ModelMarked s c) h (λ m i k. w.keeps (model_of s m / 13) k) (rw model at x.1);
      }

-- ---- the search
many_none : (n : ℕ) → many (replicate n false) ≡ 0
many_none zero = refl
many_none (suc n) = omega (arith, many_none n)

no-mark : (n j : ℕ) → get_or (replicate n false) j false ≡ false
no-mark zero j = refl
no-mark (suc n) zero = refl
no-mark (suc n) (suc j) = no-mark n j

pub marks-start : Marks (replicate 1261 false) (replicate 1261 0) 0
marks-start = record {
  marks = length-replicate {A = Bool} 1261 false;
  queues = length-replicate {A = ℕ} 1261 0;
  counted = sym (many_none 1261);
  queued = λ j e. not-both e (no-mark 1261 j);
}

-- what is met is reached from d; what stands below d, and below those that are taken, is marked
pub record SearchLoop (s : Recipe) (d : ℕ) (a : Worklist) : Type 0 where
  pub sound : (i : ℕ) → i < a.tail → Reach s d (get_or a.queue i 0)
  pub own : (x : ℕ) → ModelBelow s d x → IsMarked a x
  pub done : (i : ℕ) → i < a.head → (x : ℕ) → ModelBelow s (get_or a.queue i 0) x → IsMarked a x

-- two definitions have two marks
mark-own : {s : Recipe} {t : List ℕ} → Linked s t → (d e : ℕ) → In d (definitions s) → In e (definitions s) → d / 13 ≡ e / 13 → d ≡ e
mark-own {s} g d e i j q =
    let c = g.numbered.shadowed in
    let k = (definition-place s d i).0 in
    let l = (definition-place s e j).0 in
    three d e (λ u. absurd (omega (arith, apart c d e k l u))) (λ u. u) (λ u. absurd (omega (arith, apart c e d l k u)))

module _ {s : Recipe} {d : ℕ} where
  pub search-start : {a b : Worklist} → IsEmpty a → Grown (ModelBelow s d) a b × ((x : ℕ) → ModelBelow s d x → IsMarked b x) → SearchLoop s d b
  search-start z v = record {
    sound = λ i l. let b = v.0.new i (omega (arith, z.1)) l in direct b.0 b.1 b.2;
    own = v.1;
    done = λ i l. absurd (omega (arith, z.0, v.0.head));
  }

  module _ {a : Worklist} (f : SearchLoop s d a) where
    -- the next is taken, and the models below it are met
    pub next_in : {e : ℕ} → a.head < a.tail → e ≡ get_or a.queue a.head 0 → In e (definitions s)
    next_in l q = rw q (reach-in s (f.sound a.head l))

    module _ {e : ℕ} {b : Worklist} (k : Takes a (Some e) b) where
      pub search-more : {c : Worklist} → Grown (ModelBelow s e) b c × ((x : ℕ) → ModelBelow s e x → IsMarked c x) → SearchLoop s d c
      search-more {c} v =
          let same : (i : ℕ) → i < a.tail → get_or c.queue i 0 ≡ get_or a.queue i 0 = λ i l. v.0.same i (omega (arith, k.3)) ∙ ap (λ (q : List ℕ). get_or q i 0) k.5 in
          let keeps : (x : ℕ) → IsMarked a x → IsMarked c x = λ x m. v.0.keeps (x / 13) (rw k.4 m) in
          record {
            sound = λ i l.
                by_cases (ltb i a.tail)
                (λ z. let y = ltb-true i a.tail z in rw (same i y) (f.sound i y))
                (λ z.
                let n = v.0.new i (omega (arith, k.3, ltb-false i a.tail z)) l in
                reach-append s (rw (sym k.1) at (f.sound a.head k.0)) (direct n.0 n.1 n.2));
            own = λ x m. keeps x (f.own x m);
            done = λ i l x m.
                by_cases (ltb i a.head)
                (λ z. let y = ltb-true i a.head z in keeps x (f.done i y x (rw (same i (omega (arith, k.0))) at m)))
                (λ z.
                let y : i ≡ a.head = omega (arith, ltb-false i a.head z, v.0.head, k.2) in
                v.1 x (rw (y, same a.head k.0, ← k.1) at m));
          }

    module _ {t : List ℕ} (g : Linked s t) (l : a.tail ≤ a.head) where
      -- a definition that is marked is queued
      queued-at : (e : ℕ) → In e (definitions s) → IsMarked a e → (i : ℕ) × (i < a.tail) × (get_or a.queue i 0 ≡ e)
      queued-at e o k =
          let z = queued_at a.queue a.tail (e / 13) (a.marks.queued (e / 13) k) in
          (z.0, z.1, mark-own g (get_or a.queue z.0 0) e (reach-in s (f.sound z.0 z.1)) o z.2)

      complete : {x e : ℕ} → Reach s x e → ((y : ℕ) → ModelBelow s x y → IsMarked a y) → IsMarked a e
      complete {x} {e} (direct m i h) o = o e (m, i, h)
      complete {x} {e} (onward m i r) o =
          let z = queued-at (model_of s m) (model_in s x m i) (o (model_of s m) (m, i, refl)) in
          complete r (λ y b. f.done z.0 (omega (arith, z.1)) y (rw z.2 b))

      pub search-end : In d (definitions s) → get_or a.mark (d / 13) false ≡ reaches s d d
      search-end o =
          both_ways
          (λ e.
          let z = queued-at d o e in
          plain-reaches s d d (rw z.2 at (f.sound z.0 z.1)))
          (λ e. complete (reaches-plain s d d e) f.own)
