-- How the number of a name is computed, and that such keys, or none, change no answer. Assumes nothing.
use Rattle.std.specs.Prelude.{is_some}
use mathlib.Core.Path.{◌≡◌, refl, sym, ap, ◌∙◌}
use mathlib.Core.List.{List, [], ◌∷◌}
use Prim.Native.Nat.{ℕ, zero, suc, ◌+◌, ◌-◌, ◌*◌, ◌/◌, ◌%◌, ◌<◌, ◌≤◌}
use native.Mathlib.Nat.{add-zero, add_assoc}
use Rattle.std.specs.Int.{w64, from_le_bytes}
use Rattle.std.specs.Simd.{first_chunks}
use Rattle.std.specs.Ordering.{nat_cmp}
use Rattle.std.specs.Cmp.Lexicographic.{slice_cmp}
use Rattle.std.proofs.Common.{Ordering}
use native.Mathlib.Omega.{arith}
use lib.ListN.{length, get_or, take, drop, length-drop}
use lib.Seq.{get_or-take, get_or-drop, take_all}
use Rattle.std.proofs.lemmas.List.{drop-drop}
use lib.Dec.{eqb, ltb}
use borrow.Author.Tests.{eq-eqb, ne_eqb, lt-ltb, le-ltb}
use Rattle.names.specs.Lists.{same}
use Rattle.names.specs.Scans.{scan}
use Rattle.name_index.specs.declared.Layout.{Layout}
use Rattle.name_index.specs.Hash.{four_at, mixed, mixed_from, hash_of}
use Rattle.name_index.specs.Index.{name_of, keyed_name, Hashed, is_repeat}
use Rattle.names.proofs.Tests.{by_cases}
use Rattle.names.proofs.Lists.{same_true}
use Rattle.names.proofs.Scans.{scan-same}

-- ---- eight bytes as a number: its halves are two of four bytes
pub low_half : (f : List ℕ) → ((i : ℕ) → get_or f i 0 < 256) → from_le_bytes w64 f % 4294967296 ≡ four_at f 0
unfolding four_at
low_half f b = omega (arith, b 0, b 1, b 2, b 3, b 4, b 5, b 6, b 7)

pub high_half : (f : List ℕ) → ((i : ℕ) → get_or f i 0 < 256) → from_le_bytes w64 f / 4294967296 ≡ four_at f 4
unfolding four_at
high_half f b = omega (arith, b 0, b 1, b 2, b 3, b 4, b 5, b 6, b 7)

-- ---- the loop over the eights of a name: what is left to mix, from the eight k on
four-inside : (f : List ℕ) (i k : ℕ) → k + 4 ≤ 8 → four_at (take 8 (drop i f)) k ≡ four_at f (i + k)
unfolding four_at
four-inside f i k h =
    let at : (j : ℕ) → j < 8 → get_or (take 8 (drop i f)) j 0 ≡ get_or f (i + j) 0 = (λ j l. get_or-take 8 (drop i f) j 0 l ∙ get_or-drop i f j 0) in
    rw (at k (omega arith), at (k + 1) (omega arith), at (k + 2) (omega arith), at (k + 3) (omega arith), add_assoc i k 1, add_assoc i k 2, add_assoc i k 3)

mixed-here : (f : List ℕ) (i h : ℕ) → mixed h (four_at (take 8 (drop i f)) 0) (four_at (take 8 (drop i f)) 4) ≡ mixed h (four_at f i) (four_at f (i + 4))
mixed-here f i h = rw (four-inside f i 0 (omega arith), four-inside f i 4 (omega arith), add-zero)

chunk_at : (f : List ℕ) (n k : ℕ) → k < n → get_or (first_chunks 8 n f) k [] ≡ take 8 (drop (k * 8) f)
chunk_at f zero k h = absurd (omega arith)
chunk_at f (suc n) zero h = refl
chunk_at f (suc n) (suc k) h = chunk_at (drop 8 f) n k (omega arith) ∙ ap (take 8) (drop-drop (k * 8) 8 f ∙ ap (λ (i : ℕ). drop i f) (omega arith))

pub record Mixing (f : List ℕ) (k h : ℕ) : Type 0 where
  pub within : k ≤ length f / 8
  pub rest : mixed_from (length f / 8) f 0 0 ≡ mixed_from (length f / 8 - k) f (k * 8) h

pub mixing-start : (f : List ℕ) → Mixing f 0 0
mixing-start f = record { within = omega arith; rest = ap (λ (n : ℕ). mixed_from n f 0 0) (omega arith) }

mixed-more : (n k : ℕ) (f : List ℕ) (h : ℕ) → k < n
    → mixed_from (n - k) f (k * 8) h ≡ mixed_from (n - (k + 1)) f ((k + 1) * 8) (mixed h (four_at f (k * 8)) (four_at f (k * 8 + 4)))
unfolding mixed_from
mixed-more n k f h l =
    ap (λ (m : ℕ). mixed_from m f (k * 8) h) (let P : n - k ≡ suc (n - (k + 1)) = omega arith in P)
    ∙ ap (λ (i : ℕ). mixed_from (n - (k + 1)) f i (mixed h (four_at f (k * 8)) (four_at f (k * 8 + 4)))) (omega arith)

pub mixing-more : {f : List ℕ} {k h h' : ℕ} (e : List ℕ) → Mixing f k h → k < length f / 8 → e ≡ get_or (first_chunks 8 (length f / 8) f) k []
    → h' ≡ mixed h (four_at e 0) (four_at e 4) → Mixing f (k + 1) h'
mixing-more {f} {k} {h} {h'} e m l is made =
    let at : e ≡ take 8 (drop (k * 8) f) = is ∙ chunk_at f (length f / 8) k l in
    let new : h' ≡ mixed h (four_at f (k * 8)) (four_at f (k * 8 + 4)) = made ∙ (ap (λ (x : List ℕ). mixed h (four_at x 0) (four_at x 4)) at ∙ mixed-here f (k * 8) h) in
    record {
      within = omega arith;
      rest = m.rest ∙ (mixed-more (length f / 8) k f h l ∙ ap (mixed_from (length f / 8 - (k + 1)) f ((k + 1) * 8)) (sym new));
    }

pub mixing-done : {f : List ℕ} {k h : ℕ} → Mixing f k h → k ≡ length f / 8 → h ≡ mixed_from (length f / 8) f 0 0
unfolding mixed_from
mixing-done {f} {k} {h} m e = sym (m.rest ∙ ap (λ (n : ℕ). mixed_from n f (k * 8) h) (let P : length f / 8 - k ≡ 0 = omega arith in P))

pub hash-short : (f : List ℕ) → length f < 8 → 0 ≡ hash_of f
unfolding hash_of
hash-short f l = rw (lt-ltb (length f) 8 l)

pub hash-long : (f : List ℕ) {e : List ℕ} {h r : ℕ} → 8 ≤ length f → h ≡ mixed_from (length f / 8) f 0 0 → e ≡ drop (length f - 8) f
    → r ≡ mixed h (four_at e 0) (four_at e 4) → r % 4294967296 ≡ hash_of f
unfolding hash_of
hash-long f {e} {h} l p q u =
    let s : length f - 8 + 4 ≡ length f - 4 = omega arith in
    let t : e ≡ take 8 (drop (length f - 8) f) = q ∙ sym (take_all 8 (drop (length f - 8) f) (rw (length-drop (length f - 8) f) (omega arith))) in
    rw (u, t, mixed-here f (length f - 8) h, s, p, le-ltb (length f) 8 l)

-- ---- keys in front of names
-- how an entry e, which has the key k, stands to a key and a name
pub order-key : {k m : ℕ} {e xs : List ℕ} {o : Ordering} (ys : List ℕ) → e ≡ k ∷ xs → (k ≡ m → ⊥) → o ≡ nat_cmp k m → o ≡ slice_cmp nat_cmp e (m ∷ ys)
order-key {k} {m} ys e n o = rw (e, o) (by_cases (ltb k m) (λ t. rw t) (λ t. rw (t, ne_eqb k m n)))

pub order-name : {k m x : ℕ} {e xs : List ℕ} (ys : List ℕ) → x ∷ xs ≡ e → k ≡ x → k ≡ m → slice_cmp nat_cmp xs ys ≡ slice_cmp nat_cmp e (m ∷ ys)
order-name {k} {m} {x} ys e q f = rw (← e, ← q, le-ltb k m (omega arith), eq-eqb k m f)

same_name : {k m x : ℕ} {e xs : List ℕ} (ys : List ℕ) → x ∷ xs ≡ e → k ≡ x → k ≡ m → same xs ys ≡ same e (m ∷ ys)
same_name {k} {m} {x} ys e q f = rw (← e, ← q, eq-eqb k m f)

-- names that agree have keys that agree: the keys say nothing of their own
pub same-keyed : {k m : ℕ} (xs ys : List ℕ) → (xs ≡ ys → k ≡ m) → same (k ∷ xs) (m ∷ ys) ≡ same xs ys
same-keyed {k} {m} xs ys f =
    by_cases (same xs ys)
    (λ e. sym (same_name {k = k} ys refl refl (f (same_true xs ys e))))
    (λ e. by_cases (eqb k m) (λ h. rw h) (λ h. rw (h, e)))

module _ (keys s : List ℕ) (l : Layout) (n : ℕ) (h : Hashed keys (name_of s l) n) where
  -- a look-up by number and name is a look-up by name
  pub scan-hashed : (f : List ℕ) → scan (λ p. same (keyed_name keys s l p) (hash_of f ∷ f)) n ≡ scan (λ p. same (name_of s l p) f) n
  scan-hashed f =
      scan-same (λ p. same (keyed_name keys s l p) (hash_of f ∷ f)) (λ p. same (name_of s l p) f) n
      (λ p b. same-keyed (name_of s l p) f (λ e. h p b ∙ ap hash_of e))

  repeat-hashed : (p : ℕ) → p < n → is_repeat (keyed_name keys s l) p ≡ is_repeat (name_of s l) p
  unfolding is_repeat
  repeat-hashed p b =
      ap is_some
      (scan-same (λ q. same (keyed_name keys s l q) (keyed_name keys s l p)) (λ q. same (name_of s l q) (name_of s l p)) p
      (λ q c. same-keyed (name_of s l q) (name_of s l p) (λ e. h q (omega arith) ∙ (ap hash_of e ∙ sym (h p b)))))

  -- and so is a repeat
  pub repeats-hashed : scan (is_repeat (keyed_name keys s l)) n ≡ scan (is_repeat (name_of s l)) n
  repeats-hashed = scan-same (is_repeat (keyed_name keys s l)) (is_repeat (name_of s l)) n repeat-hashed
