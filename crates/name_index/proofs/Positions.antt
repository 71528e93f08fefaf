-- A record's place, and what two positions compare by. Assumes nothing.
use Rattle.std.specs.Prelude.{cond, not, ◌&&◌, ◌||◌}
use mathlib.Core.Path.{◌≡◌, refl, sym, ap, ◌∙◌}
use mathlib.Core.Bool.{false}
use mathlib.Core.List.{List, [], ◌∷◌, ◌++◌, append-nil}
use Prim.Native.Nat.{ℕ, ◌+◌, ◌*◌, ◌<◌, ◌≤◌}
use native.Mathlib.Omega.{arith}
use native.Mathlib.Nat.{mul-le-mul_right}
use lib.ListN.{get_or, length, drop_of_length-le}
use lib.Dec.{ltb, eqb}
use borrow.Author.Tests.{lt-ltb, le-ltb, ltb-false, ne_eqb}
use Rattle.name_index.specs.declared.Layout.{Layout}
use Rattle.name_index.specs.declared.Records.{Records}
use Rattle.name_index.specs.Index.{name_of, Whole}
use Rattle.names.specs.Order.{before}
use Rattle.names.specs.Scans.{table}
use Rattle.names.proofs.Tests.{by_cases, apart}
use Rattle.names.proofs.Tables.{Filled, filled-end}
use Rattle.std.specs.Ordering.{is_lt, is_gt, nat_cmp, ordering_then}
use Rattle.std.specs.Cmp.Lexicographic.{slice_cmp}
use Rattle.names.proofs.Orders.{cmp-before, cmp-after}
use Rattle.std.specs.declared.cmp.Ordering.{Ordering}
use Rattle.name_index.specs.Runs.{key_at}
use Rattle.name_index.specs.Positions.{count, entry, total_entry, stands}

-- the one product of two variables, and the law that bounds it
pub whole-room : {s : List ℕ} {l : Layout} {n p : ℕ} → Whole s l n → p < n → p * l.stride + l.first + l.width ≤ length s
whole-room {s} {l} {n} {p} w h =
    let m : (p + 1) * l.stride ≤ n * l.stride = mul-le-mul_right l.stride (omega arith) in
    omega (arith, w.inside, w.room)

pub entry-inside : (r : Records) (p : ℕ) → p < count r → total_entry r p ≡ entry r p
unfolding total_entry
entry-inside r p h = rw (lt-ltb p (count r) h)

pub inside-name : (r : Records) (p : ℕ) {f : List ℕ} → p < count r → f ≡ name_of r.bytes.now r.layout p → get_or r.keys.now p 0 ∷ f ≡ total_entry r p
inside-name r p h e = ap (λ (l : List ℕ). get_or r.keys.now p 0 ∷ l) e ∙ sym (entry-inside r p h)

pub past-name : (r : Records) (p : ℕ) → count r ≤ p → get_or r.keys.now p 0 ∷ [] ≡ total_entry r p
unfolding total_entry
past-name r p h = rw (le-ltb p (count r) h)

-- by the key alone
pub key-first : (r : Records) (p : ℕ) {k : ℕ} → k ≡ get_or r.keys.now p 0 → total_entry r p ≡ k ∷ cond (ltb p (count r)) (name_of r.bytes.now r.layout p) []
unfolding total_entry
key-first r p e = rw e

-- ---- how two positions stand
pub is_lt-ltb : (p q : ℕ) → is_lt (nat_cmp p q) ≡ ltb p q
is_lt-ltb p q = by_cases (ltb p q) (λ e. rw e) (λ e. by_cases (eqb p q) (λ f. rw (e, f)) (λ f. rw (e, f)))

then-lt : (o : Ordering) (p q : ℕ) → is_lt (ordering_then o (nat_cmp p q)) ≡ is_lt o || not (is_gt o) && ltb p q
then-lt Ordering.Less p q = refl
then-lt Ordering.Equal p q = is_lt-ltb p q
then-lt Ordering.Greater p q = refl

module _ (name : ℕ → List ℕ) (p q : ℕ) where
  -- by keys that differ
  pub stands-key : {k m : ℕ} {xs ys : List ℕ} {o : Ordering} → name p ≡ k ∷ xs → name q ≡ m ∷ ys → (k ≡ m → ⊥) → o ≡ nat_cmp k m → is_lt o ≡ stands name p q
  unfolding stands before
  stands-key {k} {m} e f n o =
      rw (e, f, ne_eqb k m n, ne_eqb m k (λ z. n (sym z)), o, is_lt-ltb k m)
      (by_cases (ltb k m) (λ t. rw t) (λ t. rw (t, lt-ltb m k (let l = ltb-false k m t in apart l (λ z. n (sym z))))))

  -- by names, or by position
  pub stands-name : {r n o : Ordering} → n ≡ slice_cmp nat_cmp (name p) (name q) → o ≡ nat_cmp p q → r ≡ ordering_then n o → is_lt r ≡ stands name p q
  unfolding stands
  stands-name {n = n} e f g = rw (g, f, ← cmp-before (name p) (name q), ← cmp-after (name p) (name q), ← e) (then-lt n p q)

-- ---- a table that is filled to its end
pub filled-all : {f : ℕ → ℕ} {out₀ out : List ℕ} {i : ℕ} → Filled f out₀ out i → i ≤ length out₀ → length out₀ ≤ i → out ≡ table f (length out₀)
filled-all {f} {out₀} w h l =
    filled-end w h l (omega arith) ∙ (ap (λ (x : List ℕ). table f (length out₀) ++ x) (drop_of_length-le out₀ (omega arith)) ∙ append-nil (table f (length out₀)))

-- a lower key stands first
pub lower-key : (r : Records) (p q : ℕ) → key_at r p < key_at r q → stands (total_entry r) q p ≡ false
lower-key r p q h =
    sym (stands-key (total_entry r) q p (key-first r q refl) (key-first r p refl) (λ z. absurd (omega (arith, z, h))) refl) ∙ (is_lt-ltb (key_at r q) (key_at r p) ∙ le-ltb (key_at r q) (key_at r p) (omega (arith, h)))
