-- The laws of judging rows in order: one row, a list joined to a list, none that applies, and what the code hands on.
-- Assumes nothing.
use Rattle.std.specs.Prelude.{None, Option, Some, Result, Ok, Err, OnOk}
use Rattle.std.specs.Result.{result_err}
use Prim.Native.Nat.{ℕ, ◌<◌}
use mathlib.Core.Path.{◌≡◌, refl, sym, ap, ◌∙◌}
use mathlib.Core.List.{List, [], ◌∷◌, ◌++◌}
use native.Mathlib.Omega.{arith}
use lib.Dec.{eqb}
use Rattle.names.specs.declared.Reason.{Reason}
use Rattle.names.specs.declared.Reason.TheVariants.{BadLength, Unreadable, Unformed, Repeated, Undeclared, Cyclic, TooLarge, Untargeted, Conflicting, Misclassed, Lost, Misreferred, NoRoom, BadTableLength, Malformed, Duplicate, Unlinked, Unnamed, Misscaled, Misfactored}
use Rattle.names.specs.declared.Refusal.{Refusal}
use Rattle.names.specs.Judging.{row_number, Row, row, refusal_at, judged, NoneApplies, fault_of}
use Rattle.names.proofs.Tests.{by_cases, by-option, not_none}

-- no row has the number 0, which is that of acceptance
pub number-positive : (r : Reason) → 0 < row_number r
number-positive BadLength = omega arith
number-positive Unreadable = omega arith
number-positive Unformed = omega arith
number-positive Repeated = omega arith
number-positive Undeclared = omega arith
number-positive Cyclic = omega arith
number-positive TooLarge = omega arith
number-positive Untargeted = omega arith
number-positive Conflicting = omega arith
number-positive Misclassed = omega arith
number-positive Lost = omega arith
number-positive Misreferred = omega arith
number-positive NoRoom = omega arith
number-positive BadTableLength = omega arith
number-positive Malformed = omega arith
number-positive Duplicate = omega arith
number-positive Unlinked = omega arith
number-positive Unnamed = omega arith
number-positive Misscaled = omega arith
number-positive Misfactored = omega arith

-- ---- one row: it applies, or the rows behind it are judged
pub row-applies : (n : Reason) {p : ℕ} {o : Option ℕ} (rs : List Row) → o ≡ Some p → judged (row n o ∷ rs) ≡ Some (refusal_at n p)
unfolding judged
row-applies n rs e = rw (e, judged)

pub row-passes : (n : Reason) {o : Option ℕ} (rs : List Row) → o ≡ None → judged (row n o ∷ rs) ≡ judged rs
unfolding judged
row-passes n rs e = rw (e, judged)

-- ---- none applies
pub none-judged : (rs : List Row) → NoneApplies rs → judged rs ≡ None
unfolding judged
none-judged [] h = refl
none-judged (r ∷ rs) h = rw (h.0, judged) (none-judged rs h.1)

pub judged-none : (rs : List Row) → judged rs ≡ None → NoneApplies rs
unfolding judged
judged-none [] e = tt
judged-none (r ∷ rs) e =
    by-option r.fault
    (λ h. (h, judged-none rs (rw (h, judged) at e)))
    (λ p h. not_none (sym (rw (h, judged) at e)))

-- the row of number n does not
pub row-none : (n : ℕ) (rs : List Row) → NoneApplies rs → fault_of n rs ≡ None
row-none n [] h = refl
row-none n (r ∷ rs) h =
    by_cases (eqb (row_number r.reason) n)
    (λ e. rw (e, fault_of) h.0)
    (λ e. rw (e, fault_of) (row-none n rs h.1))

-- ---- a list joined to a list
pub join_first : (xs ys : List Row) {r : Refusal} → judged xs ≡ Some r → judged (xs ++ ys) ≡ Some r
unfolding judged
join_first [] ys e = not_none e
join_first (x ∷ xs) ys {r} e =
    by-option x.fault
    (λ h. rw (h, judged) (join_first xs ys (rw (h, judged) at e)))
    (λ p h. rw (h, judged) (rw (h, judged) at e))

pub join-second : (xs ys : List Row) → judged xs ≡ None → judged (xs ++ ys) ≡ judged ys
unfolding judged
join-second [] ys e = refl
join-second (x ∷ xs) ys e =
    by-option x.fault
    (λ h. rw (h, judged) (join-second xs ys (rw (h, judged) at e)))
    (λ p h. not_none (sym (rw (h, judged) at e)))

pub none-join : (xs ys : List Row) → NoneApplies xs → NoneApplies ys → NoneApplies (xs ++ ys)
none-join [] ys h k = k
none-join (x ∷ xs) ys h k = (h.0, none-join xs ys h.1 k)

pub none_left : (xs ys : List Row) → NoneApplies (xs ++ ys) → NoneApplies xs
none_left [] ys h = tt
none_left (x ∷ xs) ys h = (h.0, none_left xs ys h.1)

pub none_right : (xs ys : List Row) → NoneApplies (xs ++ ys) → NoneApplies ys
none_right [] ys h = h
none_right (x ∷ xs) ys h = none_right xs ys h.1

-- ---- what a judge answers of rows: a refusal, or that none applies
module _ {T : Type 0} (xs : List Row) {x : Result T Refusal} (e : result_err x ≡ judged xs) where
  pub rows-refuse : (ys : List Row) {r : Refusal} → x ≡ Err r → Some r ≡ judged (xs ++ ys)
  rows-refuse ys z = sym (join_first xs ys (sym e ∙ ap result_err z))

  pub rows-pass : {u : T} → x ≡ Ok u → NoneApplies xs
  rows-pass z = judged-none xs (sym e ∙ ap result_err z)

pub rows-behind : (xs ys : List Row) {o : Option Refusal} → NoneApplies xs → o ≡ judged ys → o ≡ judged (xs ++ ys)
rows-behind xs ys h e = e ∙ sym (join-second xs ys (none-judged xs h))

-- the same of one row, which a search has answered
pub row-refuses : {T : Type 0} (n : Reason) {o p : Option ℕ} {x : Result T Refusal} → o ≡ p → result_err x ≡ judged (row n o ∷ []) → (rs : List Row) {r : Refusal} → x ≡ Err r
    → Some r ≡ judged (row n p ∷ rs)
row-refuses n same e rs z = rows-refuse (row n _ ∷ []) (e ∙ ap (λ q. judged (row n q ∷ [])) same) rs z

pub row-passed : {T : Type 0} (n : Reason) {o p : Option ℕ} {x : Result T Refusal} → o ≡ p → result_err x ≡ judged (row n o ∷ []) → {u : T} → x ≡ Ok u → p ≡ None
row-passed n same e z = (rows-pass (row n _ ∷ []) (e ∙ ap (λ q. judged (row n q ∷ [])) same) z).0

pub row-behind : (n : Reason) {p : Option ℕ} (rs : List Row) {o : Option Refusal} → p ≡ None → o ≡ judged rs → o ≡ judged (row n p ∷ rs)
row-behind n rs h e = e ∙ sym (row-passes n rs h)

-- the last row: what holds where it passes
pub last-passes : {T P : Type 0} (n : Reason) {o : Option ℕ} (x : Result T Refusal) → result_err x ≡ judged (row n o ∷ []) → (o ≡ None → P) → OnOk x P
last-passes n (Ok u) e f = f (judged-none (row n _ ∷ []) (sym e)).0
last-passes n (Err r) e f = tt

-- no rows are left
pub no_rows : None ≡ judged []
unfolding judged
no_rows = refl
