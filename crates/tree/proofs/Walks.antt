-- The tree walk: what each way through it says.
-- Assumes nothing.
use Rattle.std.specs.Prelude.{None, Option, Some, is_some, IfSome}
use Prim.Native.Nat.{◌*◌, ◌+◌, ◌-◌, ◌<◌, ◌≤◌, suc, zero, ℕ}
use borrow.Author.Tests.{eq-eqb, eqb-false, eqb-true, le-ltb, leb-false, leb-true, lt-ltb, ltb-false, ltb-true, ne_eqb}
use lib.Dec.{eqb, leb, ltb}
use lib.ListN.{get_or, length, length-append, length-set, set}
use lib.Seq.{get_or-set_other, get_or-set_same, sets}
use mathlib.Core.Bool.{Bool, ◌||◌, false, false≢true, not, true, true≢false}
use mathlib.Core.List.{List, [], ◌++◌, ◌∷◌, append_assoc, append-nil}
use mathlib.Core.Logic.{◌⊎◌, inl, inr, ⊎_elim}
use mathlib.Core.Path.{◌∙◌, ◌≡◌, ap, refl, sym}
use native.Mathlib.Nat.{add-zero}
use native.Mathlib.Numerals.{sub-one}
use native.Mathlib.Omega.{arith}
use Rattle.names.specs.Lists.{In}
use Rattle.names.proofs.Lists.{any-in, append_right, in-append, not-any, any_none}
use Rattle.names.proofs.ListOrder.{Rising, rising-in}
use Rattle.names.proofs.Stores.{sets-append, stored_at}
use Rattle.names.proofs.Tests.{by_cases, or_cases, or_left, or-none-left, or-none-right, or_right}
use Rattle.recipe.specs.Definitions.{definitions, elements, holder, model_of, submodels}
use Rattle.recipe.specs.Records.{Recipe, is_submodel, places}
use Rattle.recipe.proofs.Definitions.{Held, in-submodels, model_in}
use Rattle.recipe.proofs.Reading.{place-low}
use Rattle.recipe.proofs.Spans.{definition-place}
use Rattle.shadow.specs.Columns.{Linked, up_to}
use Rattle.shadow.specs.Shadow.{Kept, Shadowed}
use Rattle.shadow.proofs.Cells.{kept-all, kept_set, kept_then, row_room}
use Rattle.shadow.proofs.Columns.{linked-over}
use Rattle.tree.specs.declared.Size.{Size}
use Rattle.tree.specs.Faults.{most_elements, most_instances}
use Rattle.tree.specs.Numbers.{ahead, total, weight, weight_in}
use Rattle.tree.specs.Tree.{most_depth}
use Rattle.tree.specs.Walk.{Covered, Grown, OffsetRight, WalkKeeps, WalkRequires, deep_in, insts_in, over, rows_in, rows_over}
use Rattle.shadow.proofs.Counting.{submodels-rise}
use Rattle.tree.proofs.Numbering.{Shallow, total-cong, weight_is}

-- ---- lists
pub total-append : (f : ℕ → ℕ) (xs ys : List ℕ) → total f (xs ++ ys) ≡ total f xs + total f ys
total-append f [] ys = omega arith
total-append f (x ∷ xs) ys = omega (arith, total-append f xs ys)

rows_append : (f : ℕ → ℕ → ℕ → List ℕ) (w c : ℕ → ℕ) (e i : ℕ) (xs ys : List ℕ)
    → rows_over f w c e i (xs ++ ys) ≡ rows_over f w c e i xs ++ rows_over f w c (e + total w xs) (i + total c xs) ys
rows_append f w c e i [] ys = rw (add-zero e, add-zero i)
rows_append f w c e i (x ∷ xs) ys =
    let A = rows_over f w c (e + w x) (i + c x) xs in
    let q : e + w x + total w xs ≡ e + total w (x ∷ xs) = omega arith in
    let r : i + c x + total c xs ≡ i + total c (x ∷ xs) = omega arith in
    ap (λ (l : List ℕ). f x e i ++ l) (rows_append f w c (e + w x) (i + c x) xs ys)
    ∙ sym (append_assoc (f x e i) A (rows_over f w c (e + w x + total w xs) (i + c x + total c xs) ys))
    ∙ ap (λ (j : ℕ). f x e i ++ A ++ rows_over f w c j (i + c x + total c xs) ys) q
    ∙ ap (λ (j : ℕ). f x e i ++ A ++ rows_over f w c (e + total w (x ∷ xs)) j ys) r

-- of a rising list, those before m
up_to-split : (f : ℕ → ℕ) (m p : ℕ) (xs ys : List ℕ) → Rising p (xs ++ m ∷ ys) → up_to f m (xs ++ m ∷ ys) ≡ total f xs
up_to-split f m p [] ys h = rw (eq-eqb m m refl, up_to)
up_to-split f m p (x ∷ xs) ys h =
    let l = rising-in (suc x) (xs ++ m ∷ ys) m h.1 (append_right xs (m ∷ ys) m (inl refl)) in
    rw (ne_eqb x m (λ e. omega arith), up_to) (ap (λ (j : ℕ). f x + j) (up_to-split f m (suc x) xs ys h.1))

rows-length : (f : ℕ → ℕ → ℕ → List ℕ) (w c : ℕ → ℕ) (e i : ℕ) (xs : List ℕ) → ((m x j : ℕ) → length (f m x j) ≡ 6 * c m)
    → length (rows_over f w c e i xs) ≡ 6 * total c xs
rows-length f w c e i [] h = refl
rows-length f w c e i (x ∷ xs) h =
    omega (arith, length-append (f x e i) (rows_over f w c (e + w x) (i + c x) xs), h x e i, rows-length f w c (e + w x) (i + c x) xs h)

module _ (s : Recipe) where
  -- ---- the definitions, one level down
  abbrev pub insts_at : ℕ → ℕ → ℕ
  insts_at n m = insts_in n s (model_of s m)

  abbrev pub weight_at : ℕ → ℕ → ℕ
  weight_at n m = weight_in n s (model_of s m)

  -- at depth k, around it the instance of row i
  abbrev pub rows_at : ℕ → ℕ → ℕ → ℕ → ℕ → ℕ → List ℕ
  rows_at n k i m x j = rows_in n s (model_of s m) k x j m i

  -- the rows below an instance of d, whose row is i and whose first element e
  abbrev pub rows_under : ℕ → ℕ → ℕ → ℕ → ℕ → List ℕ → List ℕ
  rows_under n d k e i ms = rows_over (rows_at n (suc k) i) (weight_at n) (insts_at n) (e + length (elements s d)) (suc i) ms

  pub rows_long : (n d k e i m u : ℕ) → length (rows_in n s d k e i m u) ≡ 6 * insts_in n s d
  unfolding rows_in insts_in
  rows_long zero d k e i m u = refl
  rows_long (suc n) d k e i m u =
      omega (
        arith,
        rows-length (rows_at n (suc k) i) (weight_at n) (insts_at n) (e + length (elements s d)) (suc i) (submodels s d)
            (λ q x j. rows_long n (model_of s q) (suc k) x j q i),
      )

  insts-some : (n d : ℕ) → 1 ≤ insts_in n s d
  unfolding insts_in
  insts-some zero d = omega arith
  insts-some (suc n) d = omega arith

  weight-own : (n d : ℕ) → length (elements s d) ≤ weight_in n s d
  unfolding weight_in
  weight-own zero d = omega arith
  weight-own (suc n) d = omega arith

  pub not-deep : (n d : ℕ) → deep_in n s d ≡ false → Shallow s n d
  unfolding deep_in
  not-deep zero d e = λ m i. true≢false (not-any (λ k. true) (submodels s d) m e i)
  not-deep (suc n) d e = λ m i. not-deep n (model_of s m) (not-any (λ k. deep_in n s (model_of s k)) (submodels s d) m e i)

  -- the elements before the subtree of the submodel p
  pub ahead-split : (n d p : ℕ) (xs ys : List ℕ) → submodels s d ≡ xs ++ p ∷ ys → ((m : ℕ) → In m xs → Shallow s n (model_of s m)) → n ≤ 5
      → ahead s d p ≡ length (elements s d) + total (weight_at n) xs
  unfolding ahead
  ahead-split n d p xs ys q h l =
      let W : ℕ → ℕ = λ k. weight s (model_of s k) in
      let R : Rising 0 (xs ++ p ∷ ys) = rw q at (submodels-rise s d) in
      ap (λ (z : ℕ). length (elements s d) + z)
      (ap (up_to W p) q ∙ up_to-split W p 0 xs ys R ∙ total-cong W (weight_at n) xs (λ m k. weight_is s n (model_of s m) (h m k) l))

  -- ---- too much, at once
  over-many : (n d i e : ℕ) → most_instances < i + insts_in n s d → over n s d i e ≡ true
  unfolding over
  over-many n d i e h = or_left _ _ (or_left (ltb most_instances (i + insts_in n s d)) _ (lt-ltb most_instances (i + insts_in n s d) h))

  over-heavy : (n d i e : ℕ) → most_elements < e + weight_in n s d → over n s d i e ≡ true
  unfolding over
  over-heavy n d i e h = or_left _ _ (or_right (ltb most_instances (i + insts_in n s d)) _ (lt-ltb most_elements (e + weight_in n s d) h))

  over-deep : (n d i e : ℕ) → deep_in n s d ≡ true → over n s d i e ≡ true
  unfolding over
  over-deep n d i e h = or_right (ltb most_instances (i + insts_in n s d) || ltb most_elements (e + weight_in n s d)) _ h

  -- what it says
  over-cases : (n d i e : ℕ) → over n s d i e ≡ true → (most_instances < i + insts_in n s d) ⊎ ((most_elements < e + weight_in n s d) ⊎ (deep_in n s d ≡ true))
  unfolding over
  over-cases n d i e h =
      ⊎_elim
      (λ (x : ltb most_instances (i + insts_in n s d) || ltb most_elements (e + weight_in n s d) ≡ true).
      ⊎_elim (λ (y : ltb most_instances (i + insts_in n s d) ≡ true). inl (ltb-true most_instances (i + insts_in n s d) y))
      (λ (y : ltb most_elements (e + weight_in n s d) ≡ true). inr (inl (ltb-true most_elements (e + weight_in n s d) y)))
      (or_cases (ltb most_instances (i + insts_in n s d)) (ltb most_elements (e + weight_in n s d)) x))
      (λ (x : deep_in n s d ≡ true). inr (inr x))
      (or_cases (ltb most_instances (i + insts_in n s d) || ltb most_elements (e + weight_in n s d)) (deep_in n s d) h)

  pub record Fits (n d i e : ℕ) : Type 0 where
    pub few : i + insts_in n s d ≤ most_instances
    pub light : e + weight_in n s d ≤ most_elements
    pub flat : deep_in n s d ≡ false

  pub over-not : (n d i e : ℕ) → over n s d i e ≡ false → Fits n d i e
  unfolding over
  over-not n d i e h =
      let a = or-none-left (ltb most_instances (i + insts_in n s d) || ltb most_elements (e + weight_in n s d)) _ h in record {
        few = ltb-false most_instances (i + insts_in n s d) (or-none-left (ltb most_instances (i + insts_in n s d)) _ a);
        light = ltb-false most_elements (e + weight_in n s d) (or-none-right (ltb most_instances (i + insts_in n s d)) _ a);
        flat = or-none-right (ltb most_instances (i + insts_in n s d) || ltb most_elements (e + weight_in n s d)) _ h;
      }

  fits-over : (n d i e : ℕ) → Fits n d i e → over n s d i e ≡ false
  unfolding over
  fits-over n d i e f = rw (le-ltb most_instances (i + insts_in n s d) f.few, le-ltb most_elements (e + weight_in n s d) f.light) f.flat

  pub too-heavy : (n d i e : ℕ) → most_elements < e + length (elements s d) → false ≡ not (over n s d i e)
  too-heavy n d i e h = sym (ap not (over-heavy n d i e (omega (arith, weight-own n d))))

  pub too-deep : (n d i e m : ℕ) → n ≡ 0 → In m (submodels s d) → false ≡ not (over n s d i e)
  unfolding deep_in
  too-deep zero d i e m z j = sym (ap not (over-deep 0 d i e (any-in (λ k. true) (submodels s d) m j refl)))
  too-deep (suc n) d i e m z j = absurd (omega arith)

  -- ---- the tables so far
  covered-keeps : (n d : ℕ) (off off' : List ℕ) → ((m : ℕ) → OffsetRight s off m → OffsetRight s off' m) → Covered n s d off → Covered n s d off'
  unfolding Covered
  covered-keeps zero d off off' h c = tt
  covered-keeps (suc n) d off off' h c = λ m i. (h m (c m i).0, covered-keeps n (model_of s m) off off' h (c m i).1)

  -- the loop over the submodels of the instance i of d: those of pre are walked, and those of ms are left
  pub record WalkLoop (n d i e : ℕ) (t₀ inst₀ t inst : List ℕ) (j x : ℕ) (ms : List ℕ) : Type 0 where
    pub pre : List ℕ
    pub split : submodels s d ≡ pre ++ ms
    pub bottom : n ≡ 0 → pre ≡ []
    pub insts : j ≡ i + (1 + total (insts_at (n - 1)) pre)
    pub elems : x ≡ e + (length (elements s d) + total (weight_at (n - 1)) pre)
    pub few : j ≤ most_instances
    pub light : x ≤ most_elements
    pub rows : (inst₁ : List ℕ) (m u : ℕ) → inst₀ ≡ sets inst₁ (6 * i) (d ∷ (most_depth - n) ∷ e ∷ m ∷ u ∷ 0 ∷ [])
        → inst ≡ sets inst₁ (6 * i) (d ∷ (most_depth - n) ∷ e ∷ m ∷ u ∷ 0 ∷ rows_under (n - 1) d (most_depth - n) e i pre)
    pub flat : (q : ℕ) → In q pre → deep_in (n - 1) s (model_of s q) ≡ false
    pub keeps : (q : ℕ) → OffsetRight s t₀ q → OffsetRight s t q
    pub covers : (q : ℕ) → In q pre → OffsetRight s t q × Covered (n - 1) s (model_of s q) t
    pub left : WalkKeeps s t₀ inst₀ t inst

  -- no submodel is left
  loop-done : (n d i e : ℕ) {t₀ inst₀ t inst : List ℕ} {j x : ℕ} {ms : List ℕ} (g : WalkLoop n d i e t₀ inst₀ t inst j x ms) → ms ≡ []
      → (true ≡ not (over n s d i e)) × Grown s n d i e t₀ inst₀ t inst j x
  unfolding insts_in weight_in rows_in Covered deep_in
  loop-done zero d i e g z =
      let E : g.pre ≡ [] = g.bottom refl in
      let S : submodels s d ≡ [] = g.split ∙ rw (E, z) in
      let a = rw E at g.insts in
      let b = rw E at g.elems in (
        sym (ap not (fits-over 0 d i e (record { few = omega (arith, g.few); light = omega (arith, g.light); flat = rw S }))),
        record { insts = a; elems = omega (arith, b); rows = rw E at g.rows; keeps = g.keeps; covers = tt },
      )
  loop-done (suc n) d i e g z =
      let S : submodels s d ≡ g.pre = g.split ∙ rw (z, append-nil) in
      let N : suc n - 1 ≡ n = omega arith in
      let a = rw N at g.insts in
      let b = rw N at g.elems in
      let f = rw N at g.flat in
      let c = rw N at g.covers in
      let r = rw N at g.rows in (
        sym (ap not (fits-over (suc n) d i e (record {
          few = rw S (omega (arith, g.few));
          light = rw S (omega (arith, g.light));
          flat = rw S (any_none (λ q. deep_in n s (model_of s q)) g.pre f);
        }))),
        record { insts = rw S a; elems = rw S b; rows = rw S r; keeps = g.keeps; covers = λ q k. c q (rw S at k) },
      )

  -- ---- a submodel p, the next
  right-own : (t : List ℕ) (p v : ℕ) → p + 7 < length t → v ≡ ahead s (holder s p) p → OffsetRight s (set t (p + 7) v) p
  right-own t p v l q = get_or-set_same t (p + 7) v 0 l ∙ q

  right-set : (t : List ℕ) (p v m : ℕ) → p + 7 < length t → v ≡ ahead s (holder s p) p → OffsetRight s t m → OffsetRight s (set t (p + 7) v) m
  right-set t p v m l q c =
      by_cases (eqb m p)
      (λ z. rw (eqb-true m p z) (right-own t p v l q))
      (λ z. get_or-set_other t (p + 7) (m + 7) v 0 (λ y. eqb-false m p z (omega arith)) ∙ c)

  down-insts : (n d : ℕ) → (n ≡ 0 → ⊥) → insts_in n s d ≡ 1 + total (insts_at (n - 1)) (submodels s d)
  unfolding insts_in
  down-insts zero d z = absurd (z refl)
  down-insts (suc n) d z = rw (sub-one (suc n))

  down-weight : (n d : ℕ) → (n ≡ 0 → ⊥) → weight_in n s d ≡ length (elements s d) + total (weight_at (n - 1)) (submodels s d)
  unfolding weight_in
  down-weight zero d z = absurd (z refl)
  down-weight (suc n) d z = rw (sub-one (suc n))

  down-deep : (n d m : ℕ) → (n ≡ 0 → ⊥) → In m (submodels s d) → deep_in (n - 1) s (model_of s m) ≡ true → deep_in n s d ≡ true
  unfolding deep_in
  down-deep zero d m z i h = absurd (z refl)
  down-deep (suc n) d m z i h = any-in (λ k. deep_in n s (model_of s k)) (submodels s d) m i (rw (sub-one (suc n)) at h)

  depth-step : (n : ℕ) → (n ≡ 0 → ⊥) → n ≤ most_depth → most_depth - (n - 1) ≡ suc (most_depth - n)
  depth-step n z l = omega arith

  module _ (n d i e : ℕ) {t₀ inst₀ t inst : List ℕ} {j x : ℕ} {ms : List ℕ} (g : WalkLoop n d i e t₀ inst₀ t inst j x ms) {p : ℕ} {ms' : List ℕ} (here : ms ≡ p ∷ ms')
      (low : n ≤ most_depth) where
    subs-are : submodels s d ≡ g.pre ++ p ∷ ms'
    subs-are = g.split ∙ ap (λ (l : List ℕ). g.pre ++ l) here

    is-sub : In p (submodels s d)
    is-sub = rw subs-are (append_right g.pre (p ∷ ms') p (inl refl))

    -- the elements before its subtree
    ahead-is : x - e ≡ ahead s d p
    unfolding most_depth
    ahead-is =
        omega (arith, g.elems, ahead-split (n - 1) d p g.pre ms' subs-are (λ m k. not-deep (n - 1) (model_of s m) (g.flat m k)) (omega arith))

    loop-fail : (n ≡ 0 → ⊥) → over (n - 1) s (model_of s p) j x ≡ true → false ≡ not (over n s d i e)
    loop-fail up o =
        let I = down-insts n d up in
        let Wt = down-weight n d up in
        let A : total (insts_at (n - 1)) (submodels s d) ≡ total (insts_at (n - 1)) g.pre + total (insts_at (n - 1)) (p ∷ ms') =
        ap (total (insts_at (n - 1))) subs-are ∙ total-append (insts_at (n - 1)) g.pre (p ∷ ms') in
        let B : total (weight_at (n - 1)) (submodels s d) ≡ total (weight_at (n - 1)) g.pre + total (weight_at (n - 1)) (p ∷ ms') =
        ap (total (weight_at (n - 1))) subs-are ∙ total-append (weight_at (n - 1)) g.pre (p ∷ ms') in
        ⊎_elim (λ (h : most_instances < j + insts_at (n - 1) p). sym (ap not (over-many n d i e (omega (arith, g.insts)))))
        (⊎_elim (λ (h : most_elements < x + weight_at (n - 1) p). sym (ap not (over-heavy n d i e (omega (arith, g.elems)))))
        (λ (h : deep_in (n - 1) s (model_of s p) ≡ true). sym (ap not (over-deep n d i e (down-deep n d p up is-sub h)))))
        (over-cases (n - 1) (model_of s p) j x o)

    -- its walk goes through
    loop-more : {t₁ inst₁ t' inst' : List ℕ} {j' x' : ℕ} → (n ≡ 0 → ⊥) → holder s p ≡ d → p + 7 < length t → t₁ ≡ set t (p + 7) (x - e)
        → inst₁ ≡ sets inst (6 * j) (model_of s p ∷ (most_depth - (n - 1)) ∷ x ∷ p ∷ i ∷ 0 ∷ []) → over (n - 1) s (model_of s p) j x ≡ false
        → Grown s (n - 1) (model_of s p) j x t₁ inst₁ t' inst' j' x' → WalkKeeps s t₀ inst₀ t' inst'
        → WalkLoop n d i e t₀ inst₀ t' inst' j' x' ms'
    loop-more {t₁} {inst₁} {t'} {inst'} {j'} {x'} up held l q b o w left =
        let F = over-not (n - 1) (model_of s p) j x o in
        let k = n - 1 in
        let Vv : x - e ≡ ahead s (holder s p) p = ahead-is ∙ ap (λ (z : ℕ). ahead s z p) (sym held) in
        let K : (m : ℕ) → OffsetRight s t m → OffsetRight s t' m = λ m c. w.keeps m (rw q (right-set t p (x - e) m l Vv c)) in
        let A = total-append (insts_at k) g.pre (p ∷ []) in
        let B = total-append (weight_at k) g.pre (p ∷ []) in record {
          pre = g.pre ++ p ∷ [];
          split = subs-are ∙ sym (append_assoc g.pre (p ∷ []) ms');
          bottom = λ z. absurd (up z);
          insts = omega (arith, A, w.insts, g.insts);
          elems = omega (arith, B, w.elems, g.elems);
          few = omega (arith, w.insts, F.few);
          light = omega (arith, w.elems, F.light);
          rows = λ inst₂ a u h. w.rows inst p i b ∙ more_rows inst₂ a u h;
          flat = λ m c. ⊎_elim (λ (y : In m g.pre). g.flat m y) (λ (y : In m (p ∷ [])). ⊎_elim (λ (z : m ≡ p). rw z F.flat) (λ (z : ⊥). absurd z) y) (in-append g.pre (p ∷ []) m c);
          keeps = λ m c. K m (g.keeps m c);
          covers = λ m c. ⊎_elim
              (λ (y : In m g.pre). let v = g.covers m y in (K m v.0, covered-keeps k (model_of s m) t t' K v.1))
              (λ (y : In m (p ∷ [])). ⊎_elim (λ (z : m ≡ p). rw z (w.keeps p (rw q (right-own t p (x - e) l Vv)), w.covers)) (λ (z : ⊥). absurd z) y)
              (in-append g.pre (p ∷ []) m c);
          left = left;
        }
      where
        more_rows : (inst₂ : List ℕ) (a u : ℕ) → inst₀ ≡ sets inst₂ (6 * i) (d ∷ (most_depth - n) ∷ e ∷ a ∷ u ∷ 0 ∷ [])
            → sets inst (6 * j) (rows_in (n - 1) s (model_of s p) (most_depth - (n - 1)) x j p i)
            ≡ sets inst₂ (6 * i) (d ∷ (most_depth - n) ∷ e ∷ a ∷ u ∷ 0 ∷ rows_under (n - 1) d (most_depth - n) e i (g.pre ++ p ∷ []))
        more_rows inst₂ a u h =
            let k = n - 1 in
            let E = e + length (elements s d) in
            let F = rows_at k (suc (most_depth - n)) i in
            let P = rows_under k d (most_depth - n) e i g.pre in
            let new = rows_in k s (model_of s p) (most_depth - k) x j p i in
            let D : most_depth - k ≡ suc (most_depth - n) = depth-step n up low in
            let X : E + total (weight_at k) g.pre ≡ x = omega (arith, g.elems) in
            let J : suc i + total (insts_at k) g.pre ≡ j = omega (arith, g.insts) in
            let T : rows_under k d (most_depth - n) e i (g.pre ++ p ∷ []) ≡ P ++ new =
            rows_append F (weight_at k) (insts_at k) E (suc i) g.pre (p ∷ [])
            ∙ ap (λ (z : List ℕ). P ++ z) (append-nil (F p (E + total (weight_at k) g.pre) (suc i + total (insts_at k) g.pre))
            ∙ ap (λ (z : ℕ). F p z (suc i + total (insts_at k) g.pre)) X
            ∙ ap (λ (z : ℕ). F p x z) J
            ∙ ap (λ (z : ℕ). rows_at k z i p x j) (sym D)) in
            let L : 6 * i + length (d ∷ (most_depth - n) ∷ e ∷ a ∷ u ∷ 0 ∷ P) ≡ 6 * j =
            omega (arith, g.insts, rows-length F (weight_at k) (insts_at k) E (suc i) g.pre (λ q y z. rows_long k (model_of s q) (suc (most_depth - n)) y z q i)) in
            ap (λ (z : List ℕ). sets z (6 * j) new) (g.rows inst₂ a u h)
            ∙ ap (λ (z : ℕ). sets (sets inst₂ (6 * i) (d ∷ (most_depth - n) ∷ e ∷ a ∷ u ∷ 0 ∷ P)) z new) (sym L)
            ∙ sym (sets-append (d ∷ (most_depth - n) ∷ e ∷ a ∷ u ∷ 0 ∷ P) inst₂ (6 * i) new)
            ∙ ap (λ (z : List ℕ). sets inst₂ (6 * i) (d ∷ (most_depth - n) ∷ e ∷ a ∷ u ∷ 0 ∷ z)) (sym T)

-- what a callee's answer says
pub answer-no : (b x : Bool) → b ≡ not x → not b ≡ true → x ≡ true
answer-no true x h e = absurd (false≢true e)
answer-no false true h e = refl
answer-no false false h e = h

pub answer-yes : (b x : Bool) → b ≡ not x → not b ≡ false → (b ≡ true) × (x ≡ false)
answer-yes true true h e = absurd (true≢false h)
answer-yes true false h e = (refl, refl)
answer-yes false x h e = absurd (true≢false e)

-- ---- what is returned
abbrev pub Out : Recipe → ℕ → ℕ → ℕ → ℕ → List ℕ → List ℕ → List ℕ → List ℕ → Bool → ℕ → ℕ → Type 0
Out s n d i e t inst t' inst' ok j x =
    (ok ≡ not (over n s d i e)) × ((ok ≡ true → Grown s n d i e t inst t' inst' j x) × WalkKeeps s t inst t' inst')

-- the same of the code's answer
abbrev pub Outcome : Recipe → ℕ → ℕ → ℕ → ℕ → List ℕ → List ℕ → List ℕ → List ℕ → Option Size → Type 0
Outcome s n d i e t inst t' inst' r =
    (is_some r ≡ not (over n s d i e)) × (IfSome r (λ z. Grown s n d i e t inst t' inst' z.insts z.elems) × WalkKeeps s t inst t' inst')

module _ {s : Recipe} {n d i e : ℕ} {t inst t' inst' : List ℕ} where
  pub went : {r : Option Size} {z : Size} → r ≡ Some z → Outcome s n d i e t inst t' inst' r → Out s n d i e t inst t' inst' true z.insts z.elems
  went q o = let u = rw q at o in (u.0, ((λ y. u.1.0), u.1.1))

  pub stopped : {r : Option Size} → r ≡ None → Outcome s n d i e t inst t' inst' r → Out s n d i e t inst t' inst' false 0 0
  stopped q o = let u = rw q at o in (u.0, ((λ y. absurd (false≢true y)), u.1.1))

  pub none-of : Out s n d i e t inst t' inst' false 0 0 → Outcome s n d i e t inst t' inst' None
  none-of o = (o.0, (tt, o.1.1))

  pub some-of : {j x : ℕ} → Out s n d i e t inst t' inst' true j x → Outcome s n d i e t inst t' inst' (Some (record { insts = j; elems = x }))
  some-of o = (o.0, (o.1.0 refl, o.1.1))

pub out-fail : {s : Recipe} {n d i e : ℕ} {t inst t' inst' : List ℕ} {ok : Bool} {j x : ℕ} → ok ≡ false → false ≡ not (over n s d i e) → WalkKeeps s t inst t' inst'
    → Out s n d i e t inst t' inst' ok j x
out-fail r h l = (r ∙ h, ((λ z. absurd (false≢true (sym r ∙ z))), l))

-- ---- the walk below the instance of row i
module _ {s : Recipe} {t₀ inst₀ : List ℕ} {i e n : ℕ} (R : WalkRequires s t₀ inst₀ i e n) where
  abbrev d : ℕ
  d = get_or inst₀ (6 * i + 0) 0

  c₀ : Shadowed s t₀
  c₀ = R.linked.numbered.shadowed

  def-place : In d (places s)
  def-place = (definition-place s d R.definition).0

  pub count-first : {r : ℕ} → r ≡ d → (r + 2 < length t₀) × In r (places s)
  count-first e = rw e (omega (arith, row_room c₀ d def-place), def-place)

  pub own-count : {r c : ℕ} → r ≡ d → c ≡ get_or t₀ (r + 2) 0 → (c ≡ length (elements s d)) × (e + c ≤ most_elements)
  own-count {r} {c} q z =
      let y : c ≡ length (elements s d) = z ∙ ap (λ (k : ℕ). get_or t₀ (k + 2) 0) q ∙ R.linked.numbered.counts d R.definition in
      (y, omega (arith, R.light))

  pub loop-start : {r c : ℕ} {ms : List ℕ} → r ≡ d → c ≡ get_or t₀ (r + 2) 0 → ms ≡ submodels s r → WalkLoop s n d i e t₀ inst₀ t₀ inst₀ (i + 1) (e + c) ms
  loop-start q z b =
      let v = own-count q z in record {
        pre = [];
        split = sym (b ∙ ap (submodels s) q);
        bottom = λ y. refl;
        insts = omega arith;
        elems = omega (arith, v.0);
        few = omega (arith, R.few);
        light = v.1;
        rows = λ inst₁ m u y. y;
        flat = λ m k. absurd k;
        keeps = λ m k. k;
        covers = λ m k. absurd k;
        left = record { kept = kept-all s _ t₀; long = refl };
      }

  pub loop-end : {t inst : List ℕ} {j x : ℕ} {ms : List ℕ} (g : WalkLoop s n d i e t₀ inst₀ t inst j x ms) → ms ≡ [] → Out s n d i e t₀ inst₀ t inst true j x
  loop-end g z = let r = loop-done s n d i e g z in (r.0, ((λ y. r.1), g.left))

  -- at a submodel p
  module _ {t inst : List ℕ} {j x p : ℕ} {ms ms' : List ℕ} (g : WalkLoop s n d i e t₀ inst₀ t inst j x ms) (l : ms ≡ p ∷ ms') where
    here-sub : In p (submodels s d)
    here-sub = is-sub s n d i e g l R.flat

    here-held : Held s (is_submodel s) d p
    here-held = in-submodels s d p here-sub

    pub now-linked : Linked s t
    now-linked = linked-over g.left.kept refl refl R.linked

    c₁ : Shadowed s t
    c₁ = now-linked.numbered.shadowed

    pub sub-room : p + 13 ≤ length t
    sub-room = row_room c₁ p here-held.placed

    pub sub_low : p < 16384
    sub_low = omega (arith, c₁.short, place-low s p here-held.placed)

    pub sub-place : In p (places s)
    sub-place = here-held.placed

    -- its model, and how many elements that has
    pub model_is : {m : ℕ} → m ≡ get_or t (p + 3) 0 → m ≡ model_of s p
    model_is q = q ∙ now-linked.models p here-held.placed here-held.passes

    model-def : In (model_of s p) (definitions s)
    model-def = model_in s d p here-sub

    pub model-room : {m : ℕ} → m ≡ get_or t (p + 3) 0 → m + 2 < length t
    model-room q = rw (model_is q) (omega (arith, row_room c₁ (model_of s p) (definition-place s (model_of s p) model-def).0))

    count-is : {m c : ℕ} → m ≡ get_or t (p + 3) 0 → c ≡ get_or t (m + 2) 0 → c ≡ length (elements s (model_of s p))
    count-is q z = z ∙ ap (λ (k : ℕ). get_or t (k + 2) 0) (model_is q) ∙ now-linked.numbered.counts (model_of s p) model-def

    fail : (n ≡ 0 → ⊥) → over (n - 1) s (model_of s p) j x ≡ true → false ≡ not (over n s d i e)
    fail = loop-fail s n d i e g l R.flat

    -- a limit is passed here
    pub no_room : {m c : ℕ} → m ≡ get_or t (p + 3) 0 → c ≡ get_or t (m + 2) 0 → eqb n 0 || leb most_instances j || ltb (most_elements - x) c ≡ true → false ≡ not (over n s d i e)
    no_room {m} {c} q z b =
        by_cases (eqb n 0)
        (λ y. too-deep s n d i e p (eqb-true n 0 y) here-sub)
        (λ y.
        fail (eqb-false n 0 y)
        (⊎_elim
        (λ (v : leb most_instances j ≡ true). over-many s (n - 1) (model_of s p) j x (omega (arith, leb-true most_instances j v, insts-some s (n - 1) (model_of s p))))
        (λ (v : ltb (most_elements - x) c ≡ true).
        over-heavy s (n - 1) (model_of s p) j x (omega (arith, ltb-true (most_elements - x) c v, g.light, count-is q z, weight-own s (n - 1) (model_of s p))))
        (or_cases (leb most_instances j) (ltb (most_elements - x) c) (rw y at b))))

    -- none is
    pub record Room (c : ℕ) : Type 0 where
      pub up : n ≡ 0 → ⊥
      pub few : j < most_instances
      pub light : x + c ≤ most_elements

    pub room-here : {c : ℕ} → eqb n 0 || leb most_instances j || ltb (most_elements - x) c ≡ false → Room c
    room-here {c} b =
        let a = or-none-left (eqb n 0 || leb most_instances j) _ b in record {
          up = eqb-false n 0 (or-none-left (eqb n 0) _ a);
          few = leb-false most_instances j (or-none-right (eqb n 0) _ a);
          light = omega (arith, ltb-false (most_elements - x) c (or-none-right (eqb n 0 || leb most_instances j) _ b), g.light);
        }

    pub row_fits : {c : ℕ} → Room c → 6 * j + 6 ≤ length inst
    row_fits r = omega (arith, r.few, R.room, g.left.long)

    -- the walk below it
    module _ {m c : ℕ} (q : m ≡ get_or t (p + 3) 0) (z : c ≡ get_or t (m + 2) 0) (r : Room c) {t₁ inst₁ : List ℕ} (a : t₁ ≡ set t (p + 7) (x - e))
        (b : inst₁ ≡ sets inst (6 * j) (m ∷ (most_depth - (n - 1)) ∷ x ∷ p ∷ i ∷ 0 ∷ [])) where
      kept-one : Kept s (7 ∷ []) t t₁
      kept-one = rw a (kept_set p 7 (x - e) c₁ (kept-all s _ t) sub-place (omega arith) refl)

      long-one : length inst₁ ≡ length inst
      long-one = ap length b ∙ simp length-set

      def-one : get_or inst₁ (6 * j + 0) 0 ≡ model_of s p
      def-one = ap (λ (l : List ℕ). get_or l (6 * j + 0) 0) b ∙ stored_at (m ∷ (most_depth - (n - 1)) ∷ x ∷ p ∷ i ∷ 0 ∷ []) inst (6 * j) 0 (row_fits r) (omega arith) ∙ model_is q

      pub call-requires : WalkRequires s t₁ inst₁ j x (n - 1)
      call-requires = record {
        linked = linked-over kept-one refl refl now-linked;
        definition = rw def-one model-def;
        few = r.few;
        light = rw def-one (omega (arith, r.light, count-is q z));
        flat = omega (arith, R.flat);
        room = omega (arith, long-one, g.left.long, R.room);
      }

      module _ {t' inst' : List ℕ} {ok : Bool} {j' x' : ℕ} (o : Out s (n - 1) (get_or inst₁ (6 * j + 0) 0) j x t₁ inst₁ t' inst' ok j' x') where
        out : Out s (n - 1) (model_of s p) j x t₁ inst₁ t' inst' ok j' x'
        out = rw def-one at o

        pub keeps_on : WalkKeeps s t₀ inst₀ t' inst'
        keeps_on = record { kept = kept_then g.left.kept (kept_then kept-one o.1.1.kept); long = o.1.1.long ∙ long-one ∙ g.left.long }

        pub turn-fails : {no : Bool} {u v : ℕ} → not ok ≡ true → no ≡ false → Out s n d i e t₀ inst₀ t' inst' no u v
        turn-fails h f = out-fail f (fail r.up (answer-no ok _ out.0 h)) keeps_on

        -- it goes through: the submodels behind it are left
        pub turn-goes : not ok ≡ false → WalkLoop s n d i e t₀ inst₀ t' inst' j' x' ms'
        turn-goes h =
            let y = answer-yes ok _ out.0 h in
            loop-more s n d i e g l R.flat r.up here-held.held (omega (arith, sub-room)) a
            (b ∙ ap (λ (k : ℕ). sets inst (6 * j) (k ∷ (most_depth - (n - 1)) ∷ x ∷ p ∷ i ∷ 0 ∷ [])) (model_is q)) y.1 (out.1.0 y.0) keeps_on
