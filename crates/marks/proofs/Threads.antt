-- A record in each instance of its definition, along their thread: v is one more than the number of the next of them, or 0 at the end.
-- A statement W about the nodes that D says is carried from the records before p to those before the next. Assumes nothing.
use Prim.Native.Nat.{◌*◌, ◌+◌, ◌-◌, ◌<◌, ◌≤◌, suc, zero, ℕ}
use borrow.Author.Tests.{eq-eqb, eqb-false, eqb-true, ltb-false, ltb-true}
use lib.Dec.{eqb, ltb}
use lib.ListN.{drop, drop_of_length-le, get_or, length}
use lib.Seq.{drop-cons}
use mathlib.Core.Bool.{Bool, ◌&&◌, false, true}
use mathlib.Core.List.{List, []}
use mathlib.Core.Logic.{◌⊎◌, inl, inr, ⊎_elim}
use mathlib.Core.Path.{◌∙◌, ◌≡◌, ap, refl, subst, sym}
use native.Mathlib.Numerals.{add-one, sub-one}
use native.Mathlib.Omega.{arith}
use Rattle.names.specs.Lists.{In, any}
use Rattle.names.proofs.Lists.{any-in, any_none, get_or-in, in-get_or}
use Rattle.names.proofs.Tests.{both, by_cases, not-both}
use Rattle.recipe.specs.Definitions.{holder}
use Rattle.recipe.specs.Records.{Recipe, is_model, next, places}
use Rattle.recipe.proofs.Definitions.{holder_in}
use Rattle.recipe.proofs.Reading.{next_more, place-low, places-between}
use Rattle.tree.specs.Planted.{instance_from}
use Rattle.tree.specs.Tree.{Node, definition_at, instances, node, nodes}
use Rattle.tree.proofs.ByRecord.{node_in}
use Rattle.tree.proofs.Nodes.{in-nodes, node-eq, node-holder, node-place}
use Rattle.targets.specs.Targeted.{Targeted}

-- each instance has a row
pub has-row : {s : Recipe} {t inst : List ℕ} {insts i : ℕ} → Targeted s t inst insts → i < length (instances s) → i < insts
has-row T l = rw T.planted.rows.count l

-- so many instances are passed
abbrev pub past : Recipe → ℕ → ℕ
past s zero = length (instances s)
past s (suc i) = i

abbrev pub path : Recipe → ℕ → List ℕ
path s i = get_or (instances s) i []

-- instance i is one of definition d
abbrev pub Holds : Recipe → ℕ → ℕ → Type 0
Holds s d i = (i < length (instances s)) × (definition_at s (path s i) ≡ d)

-- where the thread of definition d is at v
pub record On (s : Recipe) (d v : ℕ) : Type 0 where
  pub within : past s v ≤ length (instances s)
  pub holds : (v ≡ 0 → ⊥) → Holds s d (v - 1)

-- and from i on to there no instance is one of d
pub record Thread (s : Recipe) (d i v : ℕ) : Type 0 where
  pub on : On s d v
  pub further : i ≤ past s v
  pub skips : (m : ℕ) → i ≤ m → m < past s v → definition_at s (path s m) ≡ d → ⊥

pub past-some : (s : Recipe) (v : ℕ) → (v ≡ 0 → ⊥) → past s v ≡ v - 1
past-some s zero h = absurd (h refl)
past-some s (suc i) h = omega arith

pub past_end : (s : Recipe) (v : ℕ) → v ≡ 0 → past s v ≡ length (instances s)
past_end s zero h = refl
past_end s (suc i) h = absurd (omega arith)

thread-at : (s : Recipe) (d n i : ℕ) → i + n ≡ length (instances s) → Thread s d i (instance_from s d i (drop i (instances s)))
thread-at s d zero i e =
    let l : length (instances s) ≤ i = omega arith in
    rw (drop_of_length-le (instances s) l)
    (record { on = record { within = omega arith; holds = λ z. absurd (z refl) }; further = omega arith; skips = λ m a b. absurd (omega arith) })
thread-at s d (suc n) i e =
    let l : i < length (instances s) = omega arith in
    by_cases (eqb (definition_at s (path s i)) d)
    (λ h.
    let q : instance_from s d i (drop i (instances s)) ≡ suc i = rw (drop-cons (instances s) i [] l, h) in
    rw q
    (record {
      on = record { within = omega arith; holds = λ z. rw (sub-one (suc i)) (l, eqb-true (definition_at s (path s i)) d h) };
      further = omega arith;
      skips = λ m a b. absurd (omega arith);
    }))
    (λ h.
    let g = thread-at s d n (suc i) (omega arith) in
    let q : instance_from s d i (drop i (instances s)) ≡ instance_from s d (suc i) (drop (suc i) (instances s)) = rw (drop-cons (instances s) i [] l, h) in
    rw q
    (record {
      on = g.on;
      further = omega (arith, g.further);
      skips = λ m a b q.
          by_cases (eqb m i)
          (λ z. eqb-false (definition_at s (path s i)) d h (ap (λ (k : ℕ). definition_at s (path s k)) (sym (eqb-true m i z)) ∙ q))
          (λ z. g.skips m (below m i a (eqb-false m i z)) b q);
    }))
  where
    below : (m k : ℕ) → k ≤ m → (m ≡ k → ⊥) → suc k ≤ m
    below m k a b = omega arith

-- the nodes of the records before p, and those of the record at p in the instances before i
abbrev pub Done : Recipe → ℕ → ℕ → Node → Type 0
Done s p i q = (q.place < p) ⊎ ((q.place ≡ p) × ((m : ℕ) × ((m < i) × (q.path ≡ path s m))))

-- ---- the thread of the record at p
module _ {s : Recipe} {t inst : List ℕ} {insts : ℕ} (T : Targeted s t inst insts) (p : ℕ) (here : In p (places s)) where
  pub thread-start : {h v : ℕ} → h ≡ get_or t (p + 0) 0 → v ≡ get_or t (h + 8) 0 → Thread s (holder s p) 0 v
  thread-start {h} {v} a b =
      let q : h ≡ holder s p = a ∙ T.planted.measured.linked.numbered.held p here in
      rw (b ∙ ap (λ (k : ℕ). get_or t (k + 8) 0) q ∙ T.planted.firsts (holder s p) (holder_in s p here)) (thread-at s (holder s p) (length (instances s)) 0 (omega arith))

  module _ {v : ℕ} (N : On s (holder s p) v) (z : v ≡ 0 → ⊥) where
    pub thread-next : {u : ℕ} → u ≡ get_or inst (6 * (v - 1) + 5) 0 → Thread s (holder s p) (v - 1 + 1) u
    thread-next {u} e =
        let l = (N.holds z).0 in
        rw (e ∙ T.planted.rows.same (v - 1) (has-row T l), (N.holds z).1, add-one (v - 1)) (thread-at s (holder s p) (length (instances s) - suc (v - 1)) (suc (v - 1)) (omega arith))

-- a record is a node of the instances of its definition
pub this-in : (s : Recipe) (t : ℕ → Bool) (p i : ℕ) → In p (places s) → is_model s p ≡ false → t p ≡ true → Holds s (holder s p) i → In (node (path s i) p) (nodes s t)
this-in s t p i here m k h = node_in s t p (path s i) here m k (get_or-in (instances s) i [] h.0) h.1

-- ---- what is said of the nodes that pass a test
module _ (s : Recipe) (t : ℕ → Bool) (W : (Node → Type 0) → Type 0)
    (same : (D E : Node → Type 0) → ((q : Node) → In q (nodes s t) → E q → D q) → ((q : Node) → In q (nodes s t) → D q → E q) → W D → W E)
    (p : ℕ) (here : In p (places s)) where
  pub along-start : {v : ℕ} → Thread s (holder s p) 0 v → W (λ q. q.place < p) → W (Done s p (past s v))
  along-start {v} T w =
      same (λ q. q.place < p) (Done s p (past s v))
      (λ q i d. ⊎_elim (λ (y : q.place < p). y)
      (λ (y : (q.place ≡ p) × ((m : ℕ) × ((m < past s v) × (q.path ≡ path s m)))).
      absurd (T.skips y.1.0 (omega arith) y.1.1.0 (ap (definition_at s) (sym y.1.1.1) ∙ sym (node-holder s (in-nodes s t q i)) ∙ ap (holder s) y.0))) d)
      (λ q i d. inl d) w

  -- the next of the thread: between the two lies none of the definition
  pub along-next : {i v : ℕ} → Thread s (holder s p) i v → W (Done s p i) → W (Done s p (past s v))
  along-next {i} {v} T w =
      same (Done s p i) (Done s p (past s v))
      (λ q j d. ⊎_elim (λ (y : q.place < p). inl y)
      (λ (y : (q.place ≡ p) × ((m : ℕ) × ((m < past s v) × (q.path ≡ path s m)))).
      by_cases (ltb y.1.0 i)
      (λ b. inr (y.0, (y.1.0, (ltb-true y.1.0 i b, y.1.1.1))))
      (λ b. absurd (T.skips y.1.0 (ltb-false y.1.0 i b) y.1.1.0 (ap (definition_at s) (sym y.1.1.1) ∙ sym (node-holder s (in-nodes s t q j)) ∙ ap (holder s) y.0)))) d)
      (λ q j d. ⊎_elim (λ (y : q.place < p). inl y)
      (λ (y : (q.place ≡ p) × ((m : ℕ) × ((m < i) × (q.path ≡ path s m)))). inr (y.0, (y.1.0, (more y.1.0 y.1.1.0 T.further, y.1.1.1)))) d) w
    where
      more : (m : ℕ) → m < i → i ≤ past s v → m < past s v
      more m a b = omega arith

  -- one more node
  pub along_one : (i : ℕ) → W (λ q. Done s p i q ⊎ (q ≡ node (path s i) p)) → W (Done s p (i + 1))
  unfolding node
  along_one i w =
      same (λ q. Done s p i q ⊎ (q ≡ node (path s i) p)) (Done s p (i + 1))
      (λ q j d. ⊎_elim (λ (y : q.place < p). inl (inl y))
      (λ (y : (q.place ≡ p) × ((m : ℕ) × ((m < i + 1) × (q.path ≡ path s m)))).
      by_cases (eqb y.1.0 i)
      (λ b. inr (node-eq {x = q} {y = node (path s i) p} (y.1.1.1 ∙ ap (path s) (eqb-true y.1.0 i b)) y.0))
      (λ b. inl (inr (y.0, (y.1.0, (below y.1.0 y.1.1.0 (eqb-false y.1.0 i b), y.1.1.1)))))) d)
      (λ q j d. ⊎_elim
      (λ (y : Done s p i q). ⊎_elim (λ (z : q.place < p). inl z)
      (λ (z : (q.place ≡ p) × ((m : ℕ) × ((m < i) × (q.path ≡ path s m)))). inr (z.0, (z.1.0, (more z.1.0 z.1.1.0, z.1.1.1)))) y)
      (λ (y : q ≡ node (path s i) p). inr (ap (λ (b : Node). b.place) y, (i, (omega arith, ap (λ (b : Node). b.path) y)))) d) w
    where
      below : (m : ℕ) → m < i + 1 → (m ≡ i → ⊥) → m < i
      below m a b = omega arith

      more : (m : ℕ) → m < i → m < i + 1
      more m a = omega arith

  pub along-end : {v : ℕ} → v ≡ 0 → W (Done s p (past s v)) → W (λ q. q.place < next s p)
  along-end {v} z w =
      same (Done s p (past s v)) (λ q. q.place < next s p)
      (λ q j d. by_cases (eqb q.place p)
      (λ b.
      let m = in-get_or (instances s) q.path [] (in-nodes s t q j).instance in
      inr (eqb-true q.place p b, (m.0, (low m.0 m.1.0, m.1.1))))
      (λ b. inl (places-between s p q.place here (node-place s (in-nodes s t q j)) d (eqb-false q.place p b))))
      (λ q j d. ⊎_elim (λ (y : q.place < p). omega (arith, next_more s p))
      (λ (y : (q.place ≡ p) × ((m : ℕ) × ((m < past s v) × (q.path ≡ path s m)))). let u = y.0 in omega (arith, next_more s p)) d) w
    where
      low : (m : ℕ) → m < length (instances s) → m < past s v
      low m h = omega (arith, past_end s v z)

  -- a record that fails the test
  pub along-skip : t p ≡ false → W (λ q. q.place < p) → W (λ q. q.place < next s p)
  along-skip e w =
      same (λ q. q.place < p) (λ q. q.place < next s p)
      (λ q j d. by_cases (eqb q.place p)
      (λ b. not-both (in-nodes s t q j).passes (rw (eqb-true q.place p b) e))
      (λ b. places-between s p q.place here (node-place s (in-nodes s t q j)) d (eqb-false q.place p b)))
      (λ q j d. omega (arith, next_more s p)) w

-- ---- the loop along the thread: where it is, and what is said so far
abbrev pub Along : Recipe → ℕ → ((Node → Type 0) → Type 0) → ℕ → Type 0
Along s p W v = On s (holder s p) v × W (Done s p (past s v))

module _ {s : Recipe} {t inst : List ℕ} {insts : ℕ} (T : Targeted s t inst insts) (test : ℕ → Bool) (W : (Node → Type 0) → Type 0)
    (same : (D E : Node → Type 0) → ((q : Node) → In q (nodes s test) → E q → D q) → ((q : Node) → In q (nodes s test) → D q → E q) → W D → W E)
    (p : ℕ) (here : In p (places s)) where
  pub begin : {h v : ℕ} → h ≡ get_or t (p + 0) 0 → v ≡ get_or t (h + 8) 0 → W (λ q. q.place < p) → Along s p W v
  begin a b w = let r = thread-start T p here a b in (r.on, along-start s test W same p here r w)

  -- from the statement U, that holds before the turn, to W
  pub turn : (U : (Node → Type 0) → Type 0) {v u : ℕ} → Along s p U v → (v ≡ 0 → ⊥) → u ≡ get_or inst (6 * (v - 1) + 5) 0
      → (U (Done s p (v - 1)) → W (λ q. Done s p (v - 1) q ⊎ (q ≡ node (path s (v - 1)) p))) → Along s p W u
  turn U {v} {u} a z e f =
      let r = thread-next T p here a.0 z e in
      (r.on, along-next s test W same p here r (along_one s test W same p here (v - 1) (f (subst (λ (k : ℕ). U (Done s p k)) (past-some s v z) a.1))))

  pub finish : {v : ℕ} → Along s p W v → v ≡ 0 → W (λ q. q.place < next s p)
  finish a z = along-end s test W same p here z a.1

-- at the end of the recipe all are passed
pub along-all : (s : Recipe) (t : ℕ → Bool) (W : (Node → Type 0) → Type 0)
    → ((D E : Node → Type 0) → ((q : Node) → In q (nodes s t) → E q → D q) → ((q : Node) → In q (nodes s t) → D q → E q) → W D → W E)
    → (p : ℕ) → length s.bytes ≤ p → W (λ q. q.place < p) → W (λ q. Unit {0})
along-all s t W same p l w =
    same (λ q. q.place < p) (λ q. Unit {0}) (λ q j d. omega (arith, place-low s q.place (node-place s (in-nodes s t q j)))) (λ q j d. tt) w

-- ---- a search along the thread: f is false of the nodes of the record at p that D says
abbrev Missed : Recipe → (ℕ → Bool) → ℕ → (Node → Bool) → (Node → Type 0) → Type 0
Missed s t p f D = (q : Node) → In q (nodes s t) → q.place ≡ p → D q → f q ≡ false

abbrev pub SeekLoop : Recipe → (ℕ → Bool) → ℕ → (Node → Bool) → ℕ → Type 0
SeekLoop s t p f v = Along s p (Missed s t p f) v

pub found-one : (s : Recipe) (t : ℕ → Bool) (p : ℕ) (f : Node → Bool) (x : Node) → In x (nodes s t) → x.place ≡ p → f x ≡ true → any (λ r. eqb r.place p && f r) (nodes s t) ≡ true
found-one s t p f x i e h = any-in (λ r. eqb r.place p && f r) (nodes s t) x i (both (eq-eqb x.place p e) h)

module _ {s : Recipe} {t inst : List ℕ} {insts : ℕ} (T : Targeted s t inst insts) (test : ℕ → Bool) (p : ℕ) (here : In p (places s)) (f : Node → Bool) where
  same : (D E : Node → Type 0) → ((q : Node) → In q (nodes s test) → E q → D q) → ((q : Node) → In q (nodes s test) → D q → E q) → Missed s test p f D → Missed s test p f E
  same D E a b m q i e d = m q i e (a q i d)

  pub seek-start : {h v : ℕ} → h ≡ get_or t (p + 0) 0 → v ≡ get_or t (h + 8) 0 → SeekLoop s test p f v
  seek-start a b = begin T test (Missed s test p f) same p here a b (λ q i e d. absurd (omega arith))

  pub seek-turn : {v u : ℕ} → SeekLoop s test p f v → (v ≡ 0 → ⊥) → u ≡ get_or inst (6 * (v - 1) + 5) 0 → f (node (path s (v - 1)) p) ≡ false → SeekLoop s test p f u
  seek-turn {v} a n e h =
      turn T test (Missed s test p f) same p here (Missed s test p f) a n e
      (λ m q i k d. ⊎_elim (λ (y : Done s p (v - 1) q). m q i k y) (λ (y : q ≡ node (path s (v - 1)) p). ap f y ∙ h) d)

  pub seek-end : {v : ℕ} → SeekLoop s test p f v → v ≡ 0 → any (λ r. eqb r.place p && f r) (nodes s test) ≡ false
  seek-end a z =
      any_none (λ r. eqb r.place p && f r) (nodes s test)
      (λ r i. by_cases (eqb r.place p)
      (λ e. let q = eqb-true r.place p e in rw (e, finish T test (Missed s test p f) same p here a z r i q (omega (arith, next_more s p))))
      (λ e. rw e))
