-- 01's "Verdicts": rows in the order of judging, each with the lowest place where it applies, and the first that applies.
-- Assumes nothing.
use Rattle.std.specs.Prelude.{ℕ, ◌≡◌, true, false, List, [], ◌∷◌, eqb, Option, None, Some}
use Rattle.names.specs.declared.Reason.{Reason}
use Rattle.names.specs.declared.Reason.TheVariants.{BadLength, Unreadable, Unformed, Repeated, Undeclared, Cyclic, TooLarge, Untargeted, Conflicting, Misclassed, Lost, Misreferred, NoRoom, BadTableLength, Malformed, Duplicate, Unlinked, Unnamed, Misscaled, Misfactored}
use Rattle.names.specs.declared.Refusal.{Refusal}

-- column "Returned": 1 to 17 are 01's, 18 is of Paper 1, 19 and 20 are of Paper 2
abbrev pub row_number : Reason → ℕ
row_number BadLength = 1
row_number Unreadable = 2
row_number Unformed = 3
row_number Repeated = 4
row_number Undeclared = 5
row_number Cyclic = 6
row_number TooLarge = 7
row_number Untargeted = 8
row_number Conflicting = 9
row_number Misclassed = 10
row_number Lost = 11
row_number Misreferred = 12
row_number NoRoom = 13
row_number BadTableLength = 14
row_number Malformed = 15
row_number Duplicate = 16
row_number Unlinked = 17
row_number Unnamed = 18
row_number Misscaled = 19
row_number Misfactored = 20

-- a row: what it refuses, and the lowest place where it applies, if any
pub record Row : Type 0 where
  pub reason : Reason
  pub fault : Option ℕ

abbrev pub row : Reason → Option ℕ → Row
row r o = record { reason = r; fault = o }

-- "the number below, the place"
abbrev pub refusal_at : Reason → ℕ → Refusal
refusal_at r p = record { reason = r; place = p }

-- "The lowest number that applies is given, then its lowest place. A condition is judged only where the lower numbers don't apply"
unfoldable pub judged : List Row → Option Refusal
judged [] = None
judged (r ∷ rs) = elim r.fault [ None ↦ judged rs | Some p ↦ Some (refusal_at r.reason p) ]

-- no row applies
abbrev pub NoneApplies : List Row → Type 0
NoneApplies [] = Unit {0}
NoneApplies (r ∷ rs) = (r.fault ≡ None) × NoneApplies rs

-- the place where the row of number n applies, if any
abbrev pub fault_of : ℕ → List Row → Option ℕ
fault_of n [] = None
fault_of n (r ∷ rs) = elim (eqb (row_number r.reason) n) [ true ↦ r.fault | false ↦ fault_of n rs ]
