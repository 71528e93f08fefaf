-- A name's place in an index, what stands there, and the first repeat. Assumes nothing.
use Rattle.std.specs.Prelude.{Bool, Option, None, Some, unwrap_or}
use mathlib.Core.Path.{◌≡◌, sym, ap, ◌∙◌, subst}
use mathlib.Core.Bool.{true, false}
use mathlib.Core.List.{List}
use Prim.Native.Nat.{ℕ, ◌+◌, ◌-◌, ◌<◌, ◌≤◌}
use native.Mathlib.Omega.{arith}
use lib.ListN.{get_or, length, take, drop}
use lib.Dec.{ltb}
use borrow.Author.Tests.{lt-ltb, le-ltb, ltb-true, ltb-false}
use Rattle.std.specs.declared.slice.Windows.{Windows}
use Rattle.std.specs.Bool.{then_some}
use Rattle.std.specs.Option.{MatchOption}
use Rattle.std.proofs.lemmas.Iterator.{window_more}
use denote.Ref.{Bor}
use Rattle.std.specs.Slice.Iter.{windows_size, windows_rest}
use Rattle.names.specs.Lists.{same}
use Rattle.names.specs.Scans.{scan}
use Rattle.names.specs.Order.{before}
use Rattle.name_index.specs.declared.Records.{Records}
use Rattle.name_index.specs.Index.{ordered, is_repeat}
use Rattle.name_index.specs.Positions.{count, entry, total_entry}
use Rattle.names.proofs.Tests.{by_cases, by-option, not-both, not_none, the-some, three}
use Rattle.names.proofs.Lists.{same_true, same_false, same-eq, eq-same}
use Rattle.names.proofs.Scans.{scan-at, scan-none, scan-some, some-scan}
use Rattle.names.proofs.Orders.{le-lt, antisym, irreflexive}
use Rattle.std.proofs.lemmas.List.{get_or_default}
use Rattle.std.specs.List.Sorted.{IsPartitionedBy, IsPartitionPoint}
use Rattle.name_index.proofs.Sorted.{Ranked, ranked, ordered-cong}
use Rattle.name_index.proofs.Positions.{entry-inside}

module _ (name : ℕ → List ℕ) (xs : List ℕ) (n : ℕ) where
  -- ---- where the name f stands or would stand: all names before the place come before f, no later one does
  pub record InsertionPoint (f : List ℕ) (r : ℕ) : Type 0 where
    pub within : r ≤ n
    pub low : (k : ℕ) → k < r → before (name (get_or xs k 0)) f ≡ true
    pub high : (k : ℕ) → r ≤ k → k < n → before (name (get_or xs k 0)) f ≡ false

  pub parted : Ranked name n xs → (f : List ℕ) (i j : ℕ) → i ≤ j → j < n → before (name (get_or xs j 0)) f ≡ true → before (name (get_or xs i 0)) f ≡ true
  parted r f i j l m e =
      three i j
      (λ v. le-lt (name (get_or xs i 0)) (name (get_or xs j 0)) f (r.rising i j v m).0 e)
      (λ v. rw v e)
      (λ v. absurd (omega arith))

  -- ---- what stands at the place
  module _ (f : List ℕ) (r : ℕ) (p : InsertionPoint f r) where
    low-differs : (k q : ℕ) → k < r → get_or xs k 0 ≡ q → name q ≡ f → ⊥
    low-differs k q h e z =
        let b : before (name q) f ≡ true = rw e at (p.low k h) in
        not-both b (rw z (irreflexive f))

    pub found-past : n ≤ r → Ranked name n xs → scan (λ q. same (name q) f) n ≡ None
    found-past h rk = scan-none (λ q. same (name q) f) n (λ q l. same_false (λ z. let w = rk.has q l in low-differs w.0 q (omega (arith, w.1)) w.2 z))

    pub found_at : r < n → Ranked name n xs → same (name (get_or xs r 0)) f ≡ true → scan (λ q. same (name q) f) n ≡ Some (get_or xs r 0)
    found_at h rk e =
        scan-at (λ q. same (name q) f) n (get_or xs r 0) (rk.below r h) e
        (λ q l.
        same_false
        (λ z.
        let w = rk.has q (omega (arith, rk.below r h)) in
        let v : get_or xs w.0 0 ≡ q = w.2 in
        three w.0 r
        (λ u. low-differs w.0 q u v z)
        (λ u. let s : get_or xs w.0 0 ≡ get_or xs r 0 = ap (λ (i : ℕ). get_or xs i 0) u in omega arith)
        (λ u. let s = (rk.rising r w.0 u w.1).1 (same_true (name (get_or xs r 0)) f e ∙ (sym z ∙ sym (ap name v))) in omega arith)))

    pub found_none : r < n → Ranked name n xs → same (name (get_or xs r 0)) f ≡ false → scan (λ q. same (name q) f) n ≡ None
    found_none h rk e =
        scan-none (λ q. same (name q) f) n
        (λ q l.
        same_false
        (λ z.
        let w = rk.has q l in
        let v : name (get_or xs w.0 0) ≡ f = ap name w.2 ∙ z in
        three w.0 r
        (λ u. low-differs w.0 q u w.2 z)
        (λ u. let s : name (get_or xs r 0) ≡ f = ap (λ (i : ℕ). name (get_or xs i 0)) (sym u) ∙ v in not-both (eq-same s) e)
        (λ u.
        let a : before f (name (get_or xs r 0)) ≡ false = rw v at (rk.rising r w.0 u w.1).0 in
        let b : before (name (get_or xs r 0)) f ≡ false = p.high r (omega arith) h in
        not-both (eq-same (antisym (name (get_or xs r 0)) f a b)) e)))

  -- ---- the first repeat: `best` is the least of the repeats among the first k places, or n
  pub record Seen (k best : ℕ) : Type 0 where
    pub within : best ≤ n
    pub least : (j : ℕ) → 0 < j → j < k → same (name (get_or xs (j - 1) 0)) (name (get_or xs j 0)) ≡ true → best ≤ get_or xs j 0
    pub repeats : best < n → is_repeat name best ≡ true

  pub seen_start : Seen 1 n
  seen_start = record { within = omega arith; least = λ j h l e. absurd (omega arith); repeats = λ h. absurd (omega arith) }

  pub seen-pass : {k best : ℕ} → Seen k best → best ≤ get_or xs k 0 → Seen (k + 1) best
  seen-pass {k} {best} s h = record {
    within = s.within;
    least = λ j u v e. three j k (λ z. s.least j u z e) (λ z. rw z h) (λ z. absurd (omega arith));
    repeats = s.repeats;
  }

  pub seen_other : {k best : ℕ} → Seen k best → same (name (get_or xs (k - 1) 0)) (name (get_or xs k 0)) ≡ false → Seen (k + 1) best
  seen_other {k} {best} s h = record {
    within = s.within;
    least = λ j u v e. three j k (λ z. s.least j u z e) (λ z. not-both e (rw z h)) (λ z. absurd (omega arith));
    repeats = s.repeats;
  }

  pub seen-new : {k best : ℕ} → Ranked name n xs → Seen k best → 0 < k → k < n → get_or xs k 0 < best
      → same (name (get_or xs (k - 1) 0)) (name (get_or xs k 0)) ≡ true → Seen (k + 1) (get_or xs k 0)
  unfolding is_repeat
  seen-new {k} {best} r s o h l e = record {
    within = omega (arith, s.within);
    least = λ j u v q. three j k (λ z. omega (arith, s.least j u z q)) (λ z. rw z (omega arith)) (λ z. absurd (omega arith));
    repeats = λ g.
        let x = (r.rising (k - 1) k (omega arith) h).1 (same_true (name (get_or xs (k - 1) 0)) (name (get_or xs k 0)) e) in
        some-scan (λ q. same (name q) (name (get_or xs k 0))) (get_or xs k 0) (get_or xs (k - 1) 0) x e;
  }

  -- the repeat p stands behind another of its name
  neighbour : (p : ℕ) → Ranked name n xs → p < n → is_repeat name p ≡ true
      → (j : ℕ) × (0 < j) × (j < n) × (get_or xs j 0 ≡ p) × (same (name (get_or xs (j - 1) 0)) (name (get_or xs j 0)) ≡ true)
  unfolding is_repeat
  neighbour p r h e =
      let w = scan-some (λ q. same (name q) (name p)) p e in
      let a = r.has p h in
      let b = r.has w.0 (omega (arith, w.1)) in
      let ap' : name (get_or xs a.0 0) ≡ name p = ap name a.2 in
      let bp : name (get_or xs b.0 0) ≡ name p = ap name b.2 ∙ same_true (name w.0) (name p) w.2 in
      three b.0 a.0
      (λ u. (
        a.0,
        omega arith,
        a.1,
        a.2,
        three b.0 (a.0 - 1)
            (λ v.
            let m = (r.rising b.0 (a.0 - 1) v (omega (arith, a.1))).0 in
            let o = (r.rising (a.0 - 1) a.0 (omega arith) a.1).0 in
            eq-same (antisym (name (get_or xs (a.0 - 1) 0)) (name (get_or xs a.0 0)) o (rw (ap', ← bp) m)))
            (λ v. eq-same (ap (λ (i : ℕ). name (get_or xs i 0)) (sym v) ∙ (bp ∙ sym ap')))
            (λ v. absurd (omega arith)),
      ))
      (λ u. absurd (let s : get_or xs b.0 0 ≡ get_or xs a.0 0 = ap (λ (i : ℕ). get_or xs i 0) u in omega (arith, a.2, b.2, w.1)))
      (λ u. absurd (let s = (r.rising a.0 b.0 u b.1).1 (ap' ∙ sym bp) in omega (arith, a.2, b.2, w.1)))

  least-repeat : {k best : ℕ} → Ranked name n xs → Seen k best → n ≤ k → (p : ℕ) → p < n → is_repeat name p ≡ true → best ≤ p
  least-repeat {k} {best} r s h p l e =
      let w = neighbour p r l e in
      let g = s.least w.0 w.1 (omega (arith, w.2)) w.4 in
      omega (arith, w.3)

  pub seen_at : {k best : ℕ} → Ranked name n xs → Seen k best → n ≤ k → best < n → scan (is_repeat name) n ≡ Some best
  seen_at {k} {best} r s h l =
      scan-at (is_repeat name) n best l (s.repeats l)
      (λ q u. by_cases (is_repeat name q) (λ e. absurd (let g = least-repeat r s h q (omega arith) e in omega arith)) (λ e. e))

  pub seen_none : {k best : ℕ} → Ranked name n xs → Seen k best → n ≤ k → n ≤ best → scan (is_repeat name) n ≡ None
  seen_none {k} {best} r s h l =
      scan-none (is_repeat name) n
      (λ q u. by_cases (is_repeat name q) (λ e. absurd (let g = least-repeat r s h q u e in omega arith)) (λ e. e))

-- ---- at the total entries of records, which their positions have in place of the entries
module _ (r : Records) (xs : List ℕ) (e : xs ≡ ordered (entry r) 0 (count r)) where
  pub ranks : Ranked (entry r) (count r) xs
  ranks = ranked (entry r) e

  pub total : (k : ℕ) → k < length xs → total_entry r (get_or xs k 0) ≡ entry r (get_or xs k 0)
  total k l = entry-inside r (get_or xs k 0) (ranks.below k (omega (arith, ranks.long)))

  pub is-parted : (f : List ℕ) → IsPartitionedBy (λ p. before (total_entry r p) f) xs
  is-parted f i j d l m t =
      let di : get_or xs i d ≡ get_or xs i 0 = get_or_default xs i d 0 (omega arith) in
      let dj : get_or xs j d ≡ get_or xs j 0 = get_or_default xs j d 0 m in
      let u : before (entry r (get_or xs j 0)) f ≡ true = rw (dj, total j m) at t in
      rw (di, total i (omega arith)) (parted (entry r) xs (count r) ranks f i j l (omega (arith, ranks.long)) u)

  pub point : (f : List ℕ) (at : ℕ) → at ≤ length xs → IsPartitionPoint (λ p. before (total_entry r p) f ≡ true) (λ p. before (total_entry r p) f ≡ false) xs at
      → InsertionPoint (entry r) xs (count r) f at
  point f at l p = record {
    within = omega (arith, ranks.long);
    low = λ k u. rw (total k (omega arith)) at (p.0 k 0 (omega arith) u);
    high = λ k u v. rw (total k (omega (arith, ranks.long))) at (p.1 k 0 u (omega (arith, ranks.long)));
  }

  -- what the entry at the place f stands or would stand at says
  module _ (f : List ℕ) (at : ℕ) (p : InsertionPoint (entry r) xs (count r) f at) where
    pub found-here : at < length xs → same (total_entry r (get_or xs at 0)) f ≡ true → Some (get_or xs at 0) ≡ scan (λ q. same (entry r q) f) (count r)
    found-here h t = sym (found_at (entry r) xs (count r) f at p (omega (arith, ranks.long)) ranks (rw (total at h) at t))

    pub other-here : at < length xs → same (total_entry r (get_or xs at 0)) f ≡ false → None ≡ scan (λ q. same (entry r q) f) (count r)
    other-here h t = sym (found_none (entry r) xs (count r) f at p (omega (arith, ranks.long)) ranks (rw (total at h) at t))

    pub none-here : length xs ≤ at → None ≡ scan (λ q. same (entry r q) f) (count r)
    none-here h = sym (found-past (entry r) xs (count r) f at p (omega (arith, ranks.long)) ranks)

  -- ---- the loop over the pairs of neighbours
  pub record Scanning (s : Windows ℕ) (best : ℕ) : Type 0 where
    pub size : windows_size s ≡ 2
    pub short : length (windows_rest s) ≤ length xs
    pub rest : windows_rest s ≡ drop (length xs - length (windows_rest s)) xs
    pub seen : Seen (entry r) xs (count r) (length xs - length (windows_rest s) + 1) best

  pub scanning-start : {s : Windows ℕ} → windows_size s ≡ 2 → windows_rest s ≡ xs → Scanning s (length xs)
  scanning-start {s} z e =
      let none : length xs - length (windows_rest s) ≡ 0 = omega (arith, ap length e) in
      record {
        size = z;
        short = omega (arith, ap length e);
        rest = rw none e;
        seen = rw (none, ranks.long) (seen_start (entry r) xs (count r));
      }

  -- a turn at the pair of q and p
  pub record Pair (s t : Windows ℕ) (q p : ℕ) : Type 0 where
    pub size : windows_size t ≡ 2
    pub less : length (windows_rest t) + 1 ≡ length (windows_rest s)
    pub rest : windows_rest t ≡ drop (length xs - length (windows_rest t)) xs
    pub room : 2 ≤ length (windows_rest s)
    pub first : q ≡ get_or xs (length xs - length (windows_rest s)) 0
    pub second : p ≡ get_or xs (length xs - length (windows_rest s) + 1) 0

  pub pair : {s t : Windows ℕ} {o : Option (Bor (List ℕ))} {x : Bor (List ℕ)} (best : ℕ) → o ≡ Some x
      → (windows_size t ≡ windows_size s) × MatchOption o ((length (windows_rest s) < windows_size s) × (t ≡ s)) (λ y. (windows_size s ≤ length (windows_rest s)) × (y.now ≡ take (windows_size s) (windows_rest s)) × (windows_rest t ≡ drop 1 (windows_rest s)) × (length y.now ≡ windows_size s))
      → Scanning s best → Pair s t (get_or x.now 0 0) (get_or x.now 1 0)
  pair {s} {t} {o} {x} best e steps w =
      let h = window_more xs s t o x e steps (omega (arith, w.size)) w.short w.rest in
      record {
        size = steps.0 ∙ w.size;
        less = h.0;
        rest = h.1;
        room = omega (arith, h.2, w.size);
        first = h.3 0 0 (omega (arith, w.size)) ∙ ap (λ (k : ℕ). get_or xs k 0) (let P : length xs - length (windows_rest s) + 0 ≡ length xs - length (windows_rest s) = omega arith in P);
        second = h.3 1 0 (omega (arith, w.size));
      }

  on : {s t : Windows ℕ} {q p best best' : ℕ} → Scanning s best → Pair s t q p → Seen (entry r) xs (count r) (length xs - length (windows_rest s) + 1 + 1) best' → Scanning t best'
  on {s} {t} {best' = best'} w m n = record {
    size = m.size;
    short = omega (arith, m.less, w.short);
    rest = m.rest;
    seen = subst (λ (k : ℕ). Seen (entry r) xs (count r) k best') (omega (arith, m.less, m.room, w.short)) n;
  }

  module _ {s t : Windows ℕ} {q p best : ℕ} (w : Scanning s best) (m : Pair s t q p) where
    at-first : get_or xs (length xs - length (windows_rest s) + 1 - 1) 0 ≡ q
    at-first = ap (λ (k : ℕ). get_or xs k 0) (let P : length xs - length (windows_rest s) + 1 - 1 ≡ length xs - length (windows_rest s) = omega arith in P) ∙ sym m.first

    names : {b : Bool} → b ≡ same (total_entry r q) (total_entry r p)
        → same (entry r (get_or xs (length xs - length (windows_rest s) + 1 - 1) 0)) (entry r (get_or xs (length xs - length (windows_rest s) + 1) 0)) ≡ b
    names {b} e =
        let i = length xs - length (windows_rest s) in
        let u : total_entry r (get_or xs i 0) ≡ entry r (get_or xs i 0) = total i (omega (arith, m.room, w.short)) in
        let v : total_entry r (get_or xs (i + 1) 0) ≡ entry r (get_or xs (i + 1) 0) = total (i + 1) (omega (arith, m.room, w.short)) in
        same-eq (ap (entry r) (at-first ∙ m.first) ∙ (sym u ∙ ap (total_entry r) (sym m.first))) (sym v ∙ ap (total_entry r) (sym m.second)) ∙ sym e

    pub scanning_twin : p < best → {b : Bool} → b ≡ same (total_entry r q) (total_entry r p) → b ≡ true → Scanning t p
    scanning_twin h e f =
        let n = seen-new (entry r) xs (count r) ranks w.seen (omega arith) (omega (arith, ranks.long, m.room, w.short)) (omega (arith, m.second)) (names e ∙ f) in
        on w m (subst (λ (x : ℕ). Seen (entry r) xs (count r) (length xs - length (windows_rest s) + 1 + 1) x) (sym m.second) n)

    pub scanning-other : {b : Bool} → b ≡ same (total_entry r q) (total_entry r p) → b ≡ false → Scanning t best
    scanning-other e f = on w m (seen_other (entry r) xs (count r) w.seen (names e ∙ f))

    pub scanning-pass : best ≤ p → Scanning t best
    scanning-pass h = on w m (seen-pass (entry r) xs (count r) w.seen (omega (arith, m.second)))

  pub scanning-end : {s : Windows ℕ} {best : ℕ} → Scanning s best → length (windows_rest s) < 2
      → then_some (ltb best (length xs)) best ≡ scan (is_repeat (entry r)) (count r)
  scanning-end {s} {best} w l =
      let over : count r ≤ length xs - length (windows_rest s) + 1 = omega (arith, ranks.long, w.short) in
      by_cases (ltb best (length xs))
      (λ e. rw e (sym (seen_at (entry r) xs (count r) ranks w.seen over (omega (arith, ltb-true best (length xs) e, ranks.long)))))
      (λ e. rw e (sym (seen_none (entry r) xs (count r) ranks w.seen over (omega (arith, ltb-false best (length xs) e, ranks.long)))))

  -- the same of the first repeat as the loop has it, or none yet
  pub record ScanningTo (s : Windows ℕ) (o : Option ℕ) : Type 0 where
    pub to : Scanning s (unwrap_or o (length xs))
    pub low : (p : ℕ) → o ≡ Some p → p < length xs

  -- whether p is before the one that o has
  pub earlier : {p : ℕ} (o : Option ℕ) {b : Bool} → p < length xs → (o ≡ None → b ≡ true) → ((x : ℕ) → o ≡ Some x → b ≡ ltb p x) → b ≡ ltb p (unwrap_or o (length xs))
  earlier {p} o h f g = by-option o (λ e. rw e (f e ∙ sym (lt-ltb p (length xs) h))) (λ x e. rw e (g x e))

  pub to-start : {s : Windows ℕ} → windows_size s ≡ 2 → windows_rest s ≡ xs → ScanningTo s None
  to-start z e = record { to = scanning-start z e; low = λ p f. not_none f }

  module _ {s t : Windows ℕ} {q p : ℕ} {o : Option ℕ} (w : ScanningTo s o) (m : Pair s t q p) where
    pub pair-low : p < length xs
    pair-low = omega (arith, m.second, m.room, w.to.short, ranks.long, ranks.below (length xs - length (windows_rest s) + 1) (omega (arith, m.room, w.to.short, ranks.long)))

    pub to-twin : ltb p (unwrap_or o (length xs)) ≡ true → {b : Bool} → b ≡ same (total_entry r q) (total_entry r p) → b ≡ true → ScanningTo t (Some p)
    to-twin h e f = record { to = scanning_twin w.to m (ltb-true p (unwrap_or o (length xs)) h) e f; low = λ x y. omega (arith, pair-low, the-some y) }

    pub to-other : {b : Bool} → b ≡ same (total_entry r q) (total_entry r p) → b ≡ false → ScanningTo t o
    to-other e f = record { to = scanning-other w.to m e f; low = w.low }

    pub to-pass : ltb p (unwrap_or o (length xs)) ≡ false → ScanningTo t o
    to-pass h = record { to = scanning-pass w.to m (ltb-false p (unwrap_or o (length xs)) h); low = w.low }

  pub to-end : {s : Windows ℕ} {o : Option ℕ} → ScanningTo s o → length (windows_rest s) < 2 → o ≡ scan (is_repeat (entry r)) (count r)
  to-end {o = o} w l =
      let kept : then_some (ltb (unwrap_or o (length xs)) (length xs)) (unwrap_or o (length xs)) ≡ o =
      by-option o
      (λ e. rw (e, le-ltb (length xs) (length xs) (omega arith)))
      (λ p e. rw (e, lt-ltb p (length xs) (w.low p e))) in
      sym kept ∙ scanning-end w.to l

-- ---- an order of the total entries is one of the entries
pub ordered-total : (r : Records) (n : ℕ) → n ≡ count r → ordered (total_entry r) 0 n ≡ ordered (entry r) 0 (count r)
ordered-total r n e = rw e (ordered-cong (total_entry r) (entry r) (count r) (entry-inside r))
