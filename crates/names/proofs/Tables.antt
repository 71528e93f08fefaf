-- A loop that fills a table place by place, and what the table then holds. Assumes nothing.
use mathlib.Core.Path.{◌≡◌, refl, sym, ap, ◌∙◌}
use mathlib.Core.List.{List, ◌++◌}
use Prim.Native.Nat.{ℕ, zero, suc, ◌+◌, ◌-◌, ◌<◌, ◌≤◌}
use native.Mathlib.Omega.{arith}
use lib.ListN.{length, get_or, drop, set, replicate, length-set, length-append, length-drop, get_or-append}
use lib.Seq.{get_or-set_same, get_or-set_other, ext_get_or, get_or-append-add, get_or-drop}
use lib.Dec.{ltb}
use borrow.Author.Tests.{ltb-true, ltb-false}
use Rattle.names.specs.Scans.{table_from, table}
use Rattle.names.proofs.Tests.{by_cases, three}

table-length-from : (f : ℕ → ℕ) (p n : ℕ) → length (table_from f p n) ≡ n
unfolding table_from
table-length-from f p zero = refl
table-length-from f p (suc n) = ap suc (table-length-from f (suc p) n)

table-at-from : (f : ℕ → ℕ) (p n k : ℕ) → k < n → get_or (table_from f p n) k 0 ≡ f (p + k)
unfolding table_from
table-at-from f p zero k h = absurd (omega arith)
table-at-from f p (suc n) zero h = ap f (omega arith)
table-at-from f p (suc n) (suc k) h = table-at-from f (suc p) n k (omega arith) ∙ ap f (omega arith)

pub table-length : (f : ℕ → ℕ) (n : ℕ) → length (table f n) ≡ n
unfolding table
table-length f n = table-length-from f 0 n

pub table_at : (f : ℕ → ℕ) (n k : ℕ) → k < n → get_or (table f n) k 0 ≡ f k
unfolding table
table_at f n k h = table-at-from f 0 n k h ∙ ap f (omega arith)

-- the first i places are filled, and the others as they were
pub record Filled (f : ℕ → ℕ) (out₀ out : List ℕ) (i : ℕ) : Type 0 where
  pub long : length out ≡ length out₀
  pub done : (k : ℕ) → k < i → get_or out k 0 ≡ f k
  pub kept : (k : ℕ) → i ≤ k → get_or out k 0 ≡ get_or out₀ k 0

pub filled-start : (f : ℕ → ℕ) (out : List ℕ) → Filled f out out 0
filled-start f out = record { long = refl; done = λ k h. absurd (omega arith); kept = λ k h. refl }

pub filled-one : {f : ℕ → ℕ} {out₀ out : List ℕ} {i x : ℕ} → Filled f out₀ out i → i < length out → x ≡ f i → Filled f out₀ (set out i x) (i + 1)
filled-one {f} {out₀} {out} {i} {x} r h e = record {
  long = length-set out i x ∙ r.long;
  done = λ k l.
      three k i
      (λ u. get_or-set_other out i k x 0 (λ q. omega arith) ∙ r.done k u)
      (λ u. ap (λ (j : ℕ). get_or (set out i x) j 0) u ∙ (get_or-set_same out i x 0 h ∙ (e ∙ ap f (sym u))))
      (λ u. absurd (omega arith));
  kept = λ k l. get_or-set_other out i k x 0 (λ q. omega arith) ∙ r.kept k (omega arith);
}

pub filled-done : {f : ℕ → ℕ} {out₀ out : List ℕ} {n : ℕ} → Filled f out₀ out n → n ≤ length out₀ → out ≡ table f n ++ drop n out₀
filled-done {f} {out₀} {out} {n} r h =
    let m = table-length f n in
    let k = length-drop n out₀ in
    ext_get_or 0 out (table f n ++ drop n out₀)
    (r.long ∙ sym (length-append (table f n) (drop n out₀) ∙ omega arith))
    (λ i l.
    by_cases (ltb i n)
    (λ t.
    let u = ltb-true i n t in
    r.done i u ∙ sym (get_or-append (table f n) (drop n out₀) 0 i (omega arith) ∙ table_at f n i u))
    (λ t.
    let u = ltb-false i n t in
    let z : length (table f n) + (i - n) ≡ i = omega arith in
    let y : n + (i - n) ≡ i = omega arith in
    r.kept i u
    ∙ sym
    (ap (λ (j : ℕ). get_or (table f n ++ drop n out₀) j 0) (sym z)
    ∙ (get_or-append-add (table f n) (drop n out₀) (i - n) 0 ∙ (get_or-drop n out₀ (i - n) 0 ∙ ap (λ (j : ℕ). get_or out₀ j 0) y)))))

-- the loop over the places is done
pub filled-end : {f : ℕ → ℕ} {out₀ out : List ℕ} {n i : ℕ} → Filled f out₀ out i → i ≤ n → n ≤ i → n ≤ length out₀ → out ≡ table f n ++ drop n out₀
filled-end {n = n} {i = i} r h l m = let e : i ≡ n = omega arith in filled-done (rw e at r) m

-- a table of zeros, within it and past its end
pub get_or-zeros : (n k : ℕ) → ◌≡◌ {A = ℕ} (get_or (replicate n 0) k 0) 0
get_or-zeros zero k = refl
get_or-zeros (suc n) zero = refl
get_or-zeros (suc n) (suc k) = get_or-zeros n k
