-- Bytes stored one behind the other, what stands where afterwards, and a copy of them.
-- Assumes nothing.
use mathlib.Core.Path.{◌≡◌, refl, sym, ap, ◌∙◌}
use Prim.Native.Nat.{ℕ, zero, suc, ◌+◌, ◌-◌, ◌≤◌, ◌<◌}
use native.Mathlib.Omega.{arith}
use native.Mathlib.Nat.{add-zero, suc-add, add-suc, add-sub_cancel_left}
use mathlib.Core.List.{List, [], ◌∷◌, ◌++◌, append_assoc}
use lib.ListN.{length, get_or, set, drop, length-set, length-drop}
use borrow.Rule.Slice.PartMut.{put_mid}
use Rattle.std.proofs.lemmas.List.Edits.{sets-eq}
use Rattle.names.specs.Names.{field_at}
use lib.Seq.{sets, drop-drop, get_or-set_same, get_or-set_other, length-take-le}

pub sets-append : (xs l : List ℕ) (i : ℕ) (ys : List ℕ) → sets l i (xs ++ ys) ≡ sets (sets l i xs) (i + length xs) ys
sets-append [] l i ys = rw add-zero
sets-append (x ∷ xs) l i ys = sets-append xs (set l i x) (suc i) ys ∙ rw (suc-add, add-suc)

-- what is before them is as it was
pub stored-before : (xs out : List ℕ) (at k : ℕ) → k < at → get_or (sets out at xs) k 0 ≡ get_or out k 0
stored-before [] out at k h = refl
stored-before (x ∷ xs) out at k h = stored-before xs (set out at x) (suc at) k (omega arith) ∙ get_or-set_other out at k x 0 (λ e. omega arith)

-- and they stand in order
pub stored_at : (xs out : List ℕ) (at k : ℕ) → at + length xs ≤ length out → k < length xs → get_or (sets out at xs) (at + k) 0 ≡ get_or xs k 0
stored_at [] out at k h l = absurd (omega arith)
stored_at (x ∷ xs) out at zero h l =
    let e : at + 0 ≡ at = omega arith in
    ap (λ (j : ℕ). get_or (sets (set out at x) (suc at) xs) j 0) e
    ∙ (stored-before xs (set out at x) (suc at) at (omega arith) ∙ get_or-set_same out at x 0 (omega arith))
stored_at (x ∷ xs) out at (suc k) h l =
    let e : at + suc k ≡ suc at + k = omega arith in
    ap (λ (j : ℕ). get_or (sets (set out at x) (suc at) xs) j 0) e
    ∙ stored_at xs (set out at x) (suc at) k (omega (arith, length-set out at x)) (omega arith)

-- all of them, copied as a slice
pub put-whole : (xs out : List ℕ) (at : ℕ) {part : List ℕ} → at + length xs ≤ length out → part ≡ xs → put_mid at (at + length xs - at) out part ≡ sets out at xs
put-whole xs out at h e = rw (e, add-sub_cancel_left at (length xs), drop-drop) (sym (rw append_assoc at (sets-eq xs out at (omega arith))))

-- a field that lies within the bytes has its width
pub field-long : (s : List ℕ) (a n : ℕ) → a + n ≤ length s → length (field_at n s a) ≡ n
unfolding field_at
field-long s a n h = length-take-le n (drop a s) (omega (arith, length-drop a s))
