-- The cells of the records: writing one keeps all others, and a loop over the records that fills some cells of each.
-- A loop has one Walking, and for each column it fills one invariant more that looks at the table only through its own cells:
-- each has a start, a step for each way through the loop, an end, and an `-over` for the writes of the other columns.
-- Assumes nothing.
use Prim.Native.Nat.{ℕ, ◌+◌, ◌≤◌, ◌<◌}
use native.Mathlib.Omega.{arith}
use mathlib.Core.Path.{◌≡◌, refl, ap, sym, ◌∙◌}
use mathlib.Core.Logic.{inl, inr, ⊎_elim}
use mathlib.Core.Bool.{Bool, true, false}
use mathlib.Core.List.{List, [], ◌∷◌}
use lib.ListN.{length, get_or, set, length-set}
use lib.Seq.{get_or-set_same, get_or-set_other}
use lib.Dec.{ltb, eqb}
use borrow.Author.Tests.{ltb-true, eqb-true, eqb-false}
use Rattle.names.specs.Lists.{In, among, every}
use Rattle.names.proofs.Tests.{by_cases, three, and_left, not-both}
use Rattle.recipe.specs.Records.{Recipe, kind, is_known, record_length, next, is_readable, places}
use Rattle.recipe.proofs.Bodies.{kind-least}
use Rattle.recipe.proofs.Reading.{readable, readable-fits, next_more, before-this}
use Rattle.recipe.proofs.Going.{Going, Here, going_start, going_on, here, on_fits, on-more}
use Rattle.shadow.specs.Shadow.{Shadowed, Cell, Kept}

-- ---- places lie apart
module _ (s : Recipe) where
  next-least : (p : ℕ) → is_readable s p ≡ true → p + (s.width + 1) ≤ next s p
  unfolding next is_readable
  next-least p e = omega (arith, kind-least s.width (kind s p) (and_left (is_known (kind s p)) _ (and_left _ _ e)))

  -- a later record begins where an earlier one ends, or behind
  pub next-apart : (p q : ℕ) → In p (places s) → In q (places s) → p < q → next s p ≤ q
  next-apart p q i j l =
      three q (next s p) (λ u. absurd (omega (arith, before-this s p q i j u))) (λ u. omega arith) (λ u. omega arith)

module _ {s : Recipe} {t₀ : List ℕ} (c : Shadowed s t₀) where
  pub row_fits : (p : ℕ) → In p (places s) → p + 13 ≤ next s p
  row_fits p i = omega (arith, next-least s p (readable s p i), c.wide)

  pub apart : (p q : ℕ) → In p (places s) → In q (places s) → p < q → p + 13 ≤ q
  apart p q i j l = omega (arith, row_fits p i, next-apart s p q i j l)

  pub row_room : (p : ℕ) → In p (places s) → p + 13 ≤ length t₀
  row_room p i = omega (arith, row_fits p i, readable-fits s p (readable s p i), c.room)

  -- two cells that are not the same lie at two indices
  pub cells-differ : (p q k j : ℕ) → In p (places s) → In q (places s) → k < 13 → j < 13 → (p ≡ q → k ≡ j → ⊥) → p + k ≡ q + j → ⊥
  cells-differ p q k j i l a b h e =
      three p q (λ u. omega (arith, apart p q i l u)) (λ u. h u (omega arith)) (λ u. omega (arith, apart q p l i u))

  -- a write gives its cell the value, and keeps the others
  pub cell_set : (t : List ℕ) (p k v : ℕ) → In p (places s) → k < 13 → length t ≡ length t₀ → get_or (set t (p + k) v) (p + k) 0 ≡ v
  cell_set t p k v i a l = get_or-set_same t (p + k) v 0 (omega (arith, row_room p i))

  pub cell-kept : (t : List ℕ) (p k v q j : ℕ) → In p (places s) → In q (places s) → k < 13 → j < 13 → (p ≡ q → k ≡ j → ⊥)
      → get_or (set t (p + k) v) (q + j) 0 ≡ get_or t (q + j) 0
  cell-kept t p k v q j i l a b h = get_or-set_other t (p + k) (q + j) v 0 (λ e. cells-differ p q k j i l a b h (sym e))

-- where the code goes on behind a record
pub step-next : (s : Recipe) (p : ℕ) {r : ℕ} → r ≡ record_length s.width (get_or s.bytes p 0) → p + r ≡ next s p
unfolding next kind
step-next s p e = ap (λ (k : ℕ). p + k) e

-- ---- the cells ks of the record at p are written
pub record RowWritten (ks : List ℕ) (f : ℕ → ℕ → ℕ) (p : ℕ) (t t' : List ℕ) : Type 0 where
  pub long : length t' ≡ length t
  pub at : (k : ℕ) → In k ks → get_or t' (p + k) 0 ≡ f k p
  pub off : (i : ℕ) → ((k : ℕ) → In k ks → p + k ≡ i → ⊥) → get_or t' i 0 ≡ get_or t i 0

pub row-none : (f : ℕ → ℕ → ℕ) (p : ℕ) (t : List ℕ) → RowWritten [] f p t t
row-none f p t = record { long = refl; at = λ k i. absurd i; off = λ i h. refl }

pub row-set : {ks : List ℕ} {f : ℕ → ℕ → ℕ} {p : ℕ} {t t' : List ℕ} (k : ℕ) {v : ℕ} → RowWritten ks f p t t' → p + k < length t → v ≡ f k p
    → RowWritten (k ∷ ks) f p t (set t' (p + k) v)
row-set {ks} {f} {p} {t} {t'} k {v} r l e =
    let here-is : get_or (set t' (p + k) v) (p + k) 0 ≡ f k p = get_or-set_same t' (p + k) v 0 (omega (arith, r.long)) ∙ e in
    record {
      long = length-set t' (p + k) v ∙ r.long;
      at = λ j i.
          by_cases (eqb j k)
          (λ b. rw (eqb-true j k b) here-is)
          (λ b.
          let n = eqb-false j k b in
          get_or-set_other t' (p + k) (p + j) v 0 (λ q. n (omega arith)) ∙ r.at j (⊎_elim (λ (q : j ≡ k). absurd (n q)) (λ (q : In j ks). q) i));
      off = λ i h. get_or-set_other t' (p + k) i v 0 (λ q. h k (inl refl) (sym q)) ∙ r.off i (λ j m. h j (inr m));
    }

-- a cell that has its value already
pub row-left : {ks : List ℕ} {f : ℕ → ℕ → ℕ} {p : ℕ} {t t' : List ℕ} (k : ℕ) → RowWritten ks f p t t' → get_or t' (p + k) 0 ≡ f k p → RowWritten (k ∷ ks) f p t t'
row-left {ks} {f} {p} {t} {t'} k r e = record {
  long = r.long;
  at = λ j i. ⊎_elim (λ (q : j ≡ k). rw q e) (λ (q : In j ks). r.at j q) i;
  off = λ i h. r.off i (λ j m. h j (inr m));
}

-- ---- what a pass keeps
every_in : (t : ℕ → Bool) (ks : List ℕ) (k : ℕ) → every t ks ≡ true → In k ks → t k ≡ true
every_in t [] k e i = absurd i
every_in t (j ∷ ks) k e i =
    by_cases (t j)
    (λ b. ⊎_elim (λ (q : k ≡ j). rw q b) (λ (q : In k ks). every_in t ks k (rw (b, every) at e) q) i)
    (λ b. let z : false ≡ true = rw (b, every) at e in not-both z refl)

low : (ks : List ℕ) (k : ℕ) → every (λ j. ltb j 13) ks ≡ true → In k ks → k < 13
low ks k e i = ltb-true k 13 (every_in (λ j. ltb j 13) ks k e i)

not-among : (ks : List ℕ) (k j : ℕ) → among k ks ≡ false → In j ks → k ≡ j → ⊥
not-among [] k j e i q = absurd i
not-among (x ∷ ks) k j e i q =
    by_cases (eqb k x)
    (λ b. let z : true ≡ false = rw (b, among) at e in not-both refl z)
    (λ b. ⊎_elim (λ (u : j ≡ x). eqb-false k x b (q ∙ u)) (λ (u : In j ks). not-among ks k j (rw (b, among) at e) u q) i)

pub kept-all : (s : Recipe) (ks t : List ℕ) → Kept s ks t t
kept-all s ks t = record { long = refl; as-was = λ x k i h n. refl }

pub kept_then : {s : Recipe} {ks t₀ t t' : List ℕ} → Kept s ks t₀ t → Kept s ks t t' → Kept s ks t₀ t'
kept_then a b = record { long = b.long ∙ a.long; as-was = λ x k i h n. b.as-was x k i h n ∙ a.as-was x k i h n }

-- a write at any record's cell of ks
pub kept_set : {s : Recipe} {ks t₀ t t' : List ℕ} (p k v : ℕ) → Shadowed s t₀ → Kept s ks t t' → In p (places s) → k < 13 → among k ks ≡ true → Kept s ks t (set t' (p + k) v)
kept_set {s} {ks} {t₀} {t} {t'} p k v c o i h m = record {
  long = length-set t' (p + k) v ∙ o.long;
  as-was = λ x j l a n. cell-kept c t' p k v x j i l h a (λ e u. not-both m (rw u n)) ∙ o.as-was x j l a n;
}

-- a cell that a pass keeps has what it had
pub cell-over : {s : Recipe} {ks t₀ t : List ℕ} {f : ℕ → ℕ} (k : ℕ) → Kept s ks t₀ t → k < 13 → among k ks ≡ false → Cell (places s) k f t₀ → Cell (places s) k f t
cell-over k o h n g x i = o.as-was x k i h n ∙ g x i

pub shadowed-over : {s : Recipe} {ks t₀ t : List ℕ} → Kept s ks t₀ t → Shadowed s t₀ → Shadowed s t
shadowed-over o c = record { wide = c.wide; narrow = c.narrow; short = c.short; whole = c.whole; room = omega (arith, o.long, c.room) }

pub row_kept : {s : Recipe} {t₀ ks : List ℕ} {f : ℕ → ℕ → ℕ} {p : ℕ} {t t' : List ℕ} → Shadowed s t₀ → In p (places s) → every (λ k. ltb k 13) ks ≡ true → RowWritten ks f p t t' → Kept s ks t t'
row_kept {s} {t₀} {ks} {f} {p} c at_p lows r = record {
  long = r.long;
  as-was = λ x k i h n. r.off (x + k) (λ j m. cells-differ c p x j k at_p i (low ks j lows m) h (λ y z. not-among ks k j n m (sym z)));
}

-- ---- a loop over the records that writes the cells ks
pub record Walking (s : Recipe) (ks t₀ t : List ℕ) (p : ℕ) : Type 0 where
  pub going : Going s (λ x. false) p
  pub within : p ≤ length s.bytes
  pub kept : Kept s ks t₀ t

pub walk_start : (s : Recipe) (ks t : List ℕ) → Walking s ks t t 0
walk_start s ks t = record { going = going_start s (λ x. false); within = omega arith; kept = kept-all s ks t }

module _ {s : Recipe} {ks t₀ t : List ℕ} {p : ℕ} (c : Shadowed s t₀) (g : Walking s ks t₀ t p) where
  module _ (l : p < length s.bytes) where
    walk_here : Here s (λ x. false) p
    walk_here = here s (λ x. false) p c.whole g.going l

    pub walk-place : In p (places s)
    walk-place = walk_here.place

    pub walk-low : p + 13 ≤ 16384
    walk-low = omega (arith, row_fits c p walk-place, readable-fits s p walk_here.readable, c.short)

    pub walk-room : p + 13 ≤ length t
    walk-room = omega (arith, row_room c p walk-place, g.kept.long)

    -- so many bytes on is the next record
    pub walk-fits : {n : ℕ} → n ≡ record_length s.width (get_or s.bytes p 0) → (1 ≤ n) × (p + n ≤ length s.bytes)
    walk-fits {n} e = (on-more _ _ e, on_fits walk_here e)

    pub walk-one : {t' : List ℕ} {n : ℕ} → n ≡ record_length s.width (get_or s.bytes p 0) → Kept s ks t t' → Walking s ks t₀ t' (p + n)
    walk-one e o = record { going = going_on walk_here refl e; within = (walk-fits e).1; kept = kept_then g.kept o }

  -- at the end each record is behind
  pub walk_end : length s.bytes ≤ p → (x : ℕ) → In x (places s) → x < p
  walk_end l x i = omega (arith, readable-fits s x (readable s x i), next_more s x)

-- a record before the next one is this one, or before it
pub before-next : {X : Type 0} (s : Recipe) (p x : ℕ) {n : ℕ} → In p (places s) → In x (places s) → n ≡ record_length s.width (get_or s.bytes p 0) → x < p + n → (x < p → X) → (x ≡ p → X) → X
before-next s p x i j e l a b = three x p a b (λ u. absurd (omega (arith, next-apart s p x i j u, step-next s p e)))

-- ---- one that fills the cells ks of each record: of the records before p they have what f gives, of the others what they had
pub record Filling (s : Recipe) (ks : List ℕ) (f : ℕ → ℕ → ℕ) (t₀ t : List ℕ) (p : ℕ) : Type 0 where
  pub done : (k : ℕ) → In k ks → (x : ℕ) → In x (places s) → x < p → get_or t (x + k) 0 ≡ f k x
  pub ahead : (k : ℕ) → In k ks → (x : ℕ) → In x (places s) → p ≤ x → get_or t (x + k) 0 ≡ get_or t₀ (x + k) 0

pub filling-start : (s : Recipe) (ks : List ℕ) (f : ℕ → ℕ → ℕ) (t : List ℕ) → Filling s ks f t t 0
filling-start s ks f t = record { done = λ k m x i l. absurd (omega arith); ahead = λ k m x i l. refl }

module _ {s : Recipe} {ks : List ℕ} {f : ℕ → ℕ → ℕ} {t₀ t : List ℕ} {p : ℕ} (g : Filling s ks f t₀ t p) where
  pub filling-one : {t₁ t' : List ℕ} {n : ℕ} → Shadowed s t₁ → In p (places s) → every (λ k. ltb k 13) ks ≡ true → n ≡ record_length s.width (get_or s.bytes p 0) → RowWritten ks f p t t' → Filling s ks f t₀ t' (p + n)
  filling-one {t₁} {t'} {n} c at_p lows e r =
      let more = on-more _ _ e in
      let off : (k : ℕ) → In k ks → (x : ℕ) → In x (places s) → (p ≡ x → ⊥) → get_or t' (x + k) 0 ≡ get_or t (x + k) 0 = λ k m x i h.
      r.off (x + k) (λ j n. cells-differ c p x j k at_p i (low ks j lows n) (low ks k lows m) (λ y. absurd (h y))) in
      record {
        done = λ k m x i u. before-next s p x at_p i e u (λ z. off k m x i (λ y. omega arith) ∙ g.done k m x i z) (λ z. rw z (r.at k m));
        ahead = λ k m x i u. off k m x i (λ y. omega arith) ∙ g.ahead k m x i (omega arith);
      }

  -- at the end, and past writes of other cells
  pub filling-end : ((x : ℕ) → In x (places s) → x < p) → (k : ℕ) → In k ks → Cell (places s) k (f k) t
  filling-end end k m x i = g.done k m x i (end x i)
