-- Positions in order of their keys, and in each run of one key by names, are in order. Assumes nothing.
use Rattle.std.specs.Prelude.{Bool}
use mathlib.Core.Path.{◌≡◌, sym, ap, subst, ◌∙◌}
use mathlib.Core.Bool.{false}
use mathlib.Core.List.{List, ◌++◌}
use Prim.Native.Nat.{ℕ, ◌+◌, ◌-◌, ◌*◌, ◌<◌, ◌≤◌}
use native.Mathlib.Omega.{arith}
use lib.ListN.{length, get_or, take, drop, get_or-append, length-drop}
use lib.Seq.{length-take-le, get_or-take, get_or-drop, get_or-append-add}
use lib.Dec.{ltb, eqb}
use borrow.Author.Tests.{ltb-true, ltb-false, eqb-true, eqb-false}
use borrow.Rule.Slice.PartMut.{mid_of, put_mid, put_same, mid_len}
use Rattle.std.specs.List.{All, prefix_len}
use Rattle.std.specs.List.Sorted.{IsPermutation, IsSortedBy, IsSortedByKey}
use Rattle.std.proofs.lemmas.List.Sorted.{IsPermutation-trans, IsPermutation-refl, IsPermutation-put_mid, All-permutation, length_permutation}
use Rattle.std.proofs.lemmas.List.{get_or_default}
use Rattle.std.proofs.lemmas.List.Sums.{prefix_len-le-length, prefix_len_passes, prefix_len_stops}
use Rattle.std.specs.Ordering.{nat_cmp}
use Rattle.names.proofs.Tables.{Filled}
use Rattle.name_index.specs.Runs.{Rises, Run}
use Rattle.name_index.proofs.Positions.{is_lt-ltb}
use Rattle.names.proofs.Tests.{by_cases, apart}

module _ (key : ℕ → ℕ) (lt : ℕ → ℕ → Bool) where
  -- places below i are in order, and the keys of all rise, from place i - 1 to place i strictly
  pub record Running (xs ys : List ℕ) (i : ℕ) : Type 0 where
    pub moved : IsPermutation xs ys
    pub inside : i ≤ length ys
    pub rises : Rises key ys
    pub sorted : (k : ℕ) → k + 1 < i → lt (get_or ys (k + 1) 0) (get_or ys k 0) ≡ false
    pub above : (k : ℕ) → k + 1 ≡ i → i < length ys → key (get_or ys k 0) < key (get_or ys i 0)

  pub running-start : {xs : List ℕ} → Rises key xs → Running xs xs 0
  running-start {xs} h = record { moved = IsPermutation-refl xs; inside = omega arith; rises = h; sorted = λ k l. absurd (omega arith); above = λ k e l. absurd (omega arith) }

  -- ---- a part of a list that is replaced by one as long
  put-below : (ys run : List ℕ) (i m k d : ℕ) → i ≤ length ys → k < i → get_or (put_mid i m ys run) k d ≡ get_or ys k d
  put-below ys run i m k d h l =
      get_or-append (take i ys) (run ++ drop m (drop i ys)) d k (let e = length-take-le i ys h in omega arith) ∙ get_or-take i ys k d l

  put-in : (ys run : List ℕ) (i m k d : ℕ) → i ≤ length ys → k < length run → get_or (put_mid i m ys run) (i + k) d ≡ get_or run k d
  put-in ys run i m k d h l =
      let e = length-take-le i ys h in
      ap (λ (n : ℕ). get_or (put_mid i m ys run) (n + k) d) (sym e) ∙ (get_or-append-add (take i ys) (run ++ drop m (drop i ys)) k d ∙ get_or-append run (drop m (drop i ys)) d k l)

  put-above : (ys run : List ℕ) (i m k d : ℕ) → i ≤ length ys → length run ≡ m → get_or (put_mid i m ys run) (i + (m + k)) d ≡ get_or ys (i + (m + k)) d
  put-above ys run i m k d h l =
      let e = length-take-le i ys h in
      ap (λ (n : ℕ). get_or (put_mid i m ys run) (n + (m + k)) d) (sym e)
      ∙ (get_or-append-add (take i ys) (run ++ drop m (drop i ys)) (m + k) d
      ∙ (ap (λ (n : ℕ). get_or (run ++ drop m (drop i ys)) (n + k) d) (sym l)
      ∙ (get_or-append-add run (drop m (drop i ys)) k d ∙ (get_or-drop m (drop i ys) k d ∙ get_or-drop i ys (m + k) d))))

  -- ---- one run more
  module _ {ys run : List ℕ} {i j : ℕ} (r : Run key ys i j) (p : IsPermutation (mid_of i (j - i) ys) run) where
    long : length run ≡ j - i
    long = length_permutation _ _ p ∙ mid_len i j ys r.to

    one-key : All (λ q. key q ≡ key (get_or ys i 0)) run
    one-key =
        All-permutation (λ q. key q ≡ key (get_or ys i 0)) (mid_of i (j - i) ys) run p
        (λ k d l.
        let e = mid_len i j ys r.to in
        ap key (get_or-take (j - i) (drop i ys) k d (omega arith) ∙ get_or-drop i ys k d) ∙ r.same (i + k) d (omega arith) (omega arith))

    keys-kept : (k : ℕ) → k < length ys → key (get_or (put_mid i (j - i) ys run) k 0) ≡ key (get_or ys k 0)
    keys-kept k l =
        by_cases (ltb k i)
        (λ e. ap key (put-below ys run i (j - i) k 0 (omega (arith, r.from, r.to)) (ltb-true k i e)))
        (λ e.
        let n : i + (k - i) ≡ k = let u = ltb-false k i e in omega arith in
        by_cases (ltb k j)
        (λ f.
        let u = ltb-false k i e in
        let v = ltb-true k j f in
        let t = long in
        ap (λ (q : ℕ). key (get_or (put_mid i (j - i) ys run) q 0)) (sym n)
        ∙ (ap key (put-in ys run i (j - i) (k - i) 0 (omega (arith, r.from, r.to)) (omega arith))
        ∙ (one-key (k - i) 0 (omega arith) ∙ sym (r.same k 0 u v))))
        (λ f.
        let u = ltb-false k j f in
        let m : i + ((j - i) + (k - j)) ≡ k = omega (arith, r.from, r.to) in
        ap (λ (q : ℕ). key (get_or (put_mid i (j - i) ys run) q 0)) (sym m)
        ∙ (ap key (put-above ys run i (j - i) (k - j) 0 (omega (arith, r.from, r.to)) long) ∙ ap (λ (q : ℕ). key (get_or ys q 0)) m)))

    pub running-step : {xs : List ℕ} → ((p q : ℕ) → key p < key q → lt q p ≡ false) → Running xs ys i → IsSortedBy lt run → Running xs (put_mid i (j - i) ys run) j
    running-step {xs} low w s =
        let moves = IsPermutation-put_mid i (j - i) ys run p in
        let len = length_permutation _ _ moves in
        record {
          moved = IsPermutation-trans _ _ _ w.moved moves;
          inside = omega (arith, len, r.to);
          rises = λ k l. rw (keys-kept k (omega (arith, len)), keys-kept (k + 1) (omega (arith, len))) (w.rises k (omega (arith, len)));
          sorted = λ k l.
              by_cases (ltb (k + 1) i)
              (λ e.
              let u = ltb-true (k + 1) i e in
              rw (put-below ys run i (j - i) k 0 w.inside (omega arith), put-below ys run i (j - i) (k + 1) 0 w.inside u) (w.sorted k u))
              (λ e.
              let u = ltb-false (k + 1) i e in
              by_cases (eqb (k + 1) i)
              (λ f.
              let v = eqb-true (k + 1) i f in
              low _ _ (rw (keys-kept k (omega (arith, r.from, r.to)), keys-kept (k + 1) (omega (arith, r.from, r.to))) (let a = w.above k v (omega (arith, r.from, r.to)) in let z : key (get_or ys (k + 1) 0) ≡ key (get_or ys i 0) = ap (λ (q : ℕ). key (get_or ys q 0)) v in omega (arith, a, z))))
              (λ f.
              let v = apart u (λ z. eqb-false (k + 1) i f (sym z)) in
              let n : i + (k - i) ≡ k = omega arith in
              let m : i + ((k - i) + 1) ≡ k + 1 = omega arith in
              let t = long in
              let b = s (k - i) 0 (omega arith) (omega (arith, r.from)) in
              let x = put-in ys run i (j - i) (k - i) 0 w.inside (omega (arith, r.from)) in
              let y = put-in ys run i (j - i) ((k - i) + 1) 0 w.inside (omega (arith, r.from)) in
              let v = rw n at x in
              let w = rw m at y in
              rw (v, w) b));
          above = λ k e l.
              let a = w.rises k (omega (arith, len)) in
              let v : get_or ys (k + 1) 0 ≡ get_or ys j 0 = ap (λ (q : ℕ). get_or ys q 0) e in
              let h = ap key v in
              let o = r.same k 0 (omega (arith, r.from)) (omega arith) in
              let z = apart (omega (arith, h, a)) (λ (x : key (get_or ys k 0) ≡ key (get_or ys j 0)). r.ends (omega (arith, len)) (sym x ∙ o)) in
              rw (keys-kept k (omega (arith, len)), keys-kept j (omega (arith, len))) z;
        }

  -- a run of one place is in order as it is
  pub running-one : {xs ys : List ℕ} {i j : ℕ} → ((p q : ℕ) → key p < key q → lt q p ≡ false) → Run key ys i j → j ≤ i + 1 → Running xs ys i → Running xs ys j
  running-one {xs} {ys} {i} {j} low r h w =
      subst (λ (l : List ℕ). Running xs l j) (put_same i (j - i) ys)
      (running-step r (IsPermutation-refl (mid_of i (j - i) ys)) low w (λ k d a b. absurd (omega (arith, b, mid_len i j ys r.to))))

  pub running-end : {xs ys : List ℕ} {i : ℕ} → Running xs ys i → length ys ≤ i → IsSortedBy lt ys
  running-end {xs} {ys} w h k d l m = rw (get_or_default ys k d 0 (omega arith), get_or_default ys (k + 1) d 0 m) (w.sorted k (omega arith))

-- as `take_while` and `count` give it: the places behind i whose keys are that of i
pub run-taken : (key : ℕ → ℕ) (ys : List ℕ) (i n : ℕ) → i < length ys → n ≡ prefix_len (λ q. eqb (key q) (key (get_or ys i 0))) (drop (i + 1) ys) → Run key ys i (i + 1 + n)
run-taken key ys i n h e =
    let t = λ (q : ℕ). eqb (key q) (key (get_or ys i 0)) in
    let zs = drop (i + 1) ys in
    let few : n ≤ length zs = omega (arith, e, prefix_len-le-length t zs) in
    let long = length-drop (i + 1) ys in
    let at : (m d : ℕ) → get_or zs m d ≡ get_or ys (i + 1 + m) d = λ m d. get_or-drop (i + 1) ys m d in
    record {
      from = omega arith;
      to = omega (arith, few, long);
      same = λ k d a b.
          by_cases (eqb k i)
          (λ f. let z = eqb-true k i f in rw z (ap key (get_or_default ys i d 0 h)))
          (λ f.
          let m : i + 1 + (k - (i + 1)) ≡ k = let u = eqb-false k i f in omega arith in
          let low : k - (i + 1) < prefix_len t zs = let u = eqb-false k i f in omega (arith, e) in
          ap (λ (q : ℕ). key (get_or ys q d)) (sym m)
          ∙ (ap key (sym (at (k - (i + 1)) d)) ∙ eqb-true _ _ (prefix_len_passes t zs (k - (i + 1)) d low)));
      ends = λ l q.
          let stop : t (get_or zs (prefix_len t zs) 0) ≡ false = prefix_len_stops t zs 0 (omega (arith, e, few, long)) in
          eqb-false _ _ (rw e stop) (ap key (at n 0) ∙ q);
    }

-- positions in order of the numbers that hold their keys and themselves
pub numbers-rise : (key : ℕ → ℕ) (ys : List ℕ) → All (λ p. p < 65536) ys → IsSortedByKey (λ p. key p * 65536 + p) nat_cmp ys → Rises key ys
numbers-rise key ys b s k l =
    let p = get_or ys k 0 in
    let q = get_or ys (k + 1) 0 in
    let h = ltb-false (key q * 65536 + q) (key p * 65536 + p) (sym (is_lt-ltb (key q * 65536 + q) (key p * 65536 + p)) ∙ s k 0 (omega arith) l) in
    omega (arith, h, b k 0 (omega arith), b (k + 1) 0 l)

-- the positions that a table is filled with
pub filled-below : {out₀ out : List ℕ} {i : ℕ} → Filled (λ p. p) out₀ out i → length out₀ ≤ i → length out₀ < 65536 → All (λ p. p < 65536) out
filled-below {out₀} {out} w h l k d m = rw (get_or_default out k d 0 m, w.done k (omega (arith, w.long))) (omega (arith, w.long))
