-- Reading: what a read answered, each way through, and what it puts behind what was read.
-- Assumes nothing.
use mathlib.Core.Path.{◌≡◌, ap, refl, sym, subst, ◌∙◌}
use Prim.Native.Nat.{ℕ, zero, suc, ◌+◌, ◌-◌, ◌≤◌, ◌<◌, min}
use native.Mathlib.Omega.{arith}
use mathlib.Core.List.{List, ◌++◌}
use lib.ListN.{length, take}
use lib.Seq.{length-take-le, take-add, take_at, drop_at, take-append-le}
use borrow.Rule.Slice.PartMut.{put_mid, post_of}
use Rattle.std.specs.Prelude.{Option, None, Some, Result, Ok, Err}
use Rattle.std.specs.declared.io.Error.{Error}
use Rattle.names.proofs.Tests.{some-none, the-some}
use Rattle.bandrolt.specs.Reading.{got_of}
use Rattle.std.specs.Io.KnownBytes.{Consumes}
use Rattle.std.proofs.KnownBytes.{Consumes-trans}

-- a read that fails is told with its reason
pub got-failed : {r : Result ℕ Error} {why : Error} (room : ℕ) → r ≡ Err why → Err why ≡ got_of r room
got-failed room e = rw e refl

-- one that moved nothing met the end
pub got-end : {r : Result ℕ Error} {k n : ℕ} (room : ℕ) → r ≡ Ok k → n ≡ min k room → n ≡ 0 → Ok None ≡ got_of r room
got-end room e c h = rw (e, got_of) (rw (sym c ∙ h) refl)

-- what a read gave, as it is answered
abbrev ok_of : Option ℕ → Result (Option ℕ) Error
ok_of o = Ok o

not_end : (n : ℕ) → (n ≡ 0 → ⊥) → ◌≡◌ {A = Option ℕ} (Some n) (elim n [ zero ↦ None | suc m ↦ Some (suc m) ])
not_end zero h = absurd (h refl)
not_end (suc n) h = refl

-- and any other put as many bytes there as it says
pub got-more : {r : Result ℕ Error} {k n : ℕ} (room : ℕ) → r ≡ Ok k → n ≡ min k room → (n ≡ 0 → ⊥) → Ok (Some n) ≡ got_of r room
got-more {r} {k} {n} room e c h = rw (e, got_of) (rw (sym c) (ap (ok_of) (not_end n h)))

-- more bytes are some, and no more than the room
more-are : (m n : ℕ) → ◌≡◌ {A = Option ℕ} (Some n) (elim m [ zero ↦ None | suc k ↦ Some (suc k) ]) → (0 < n) × (n ≤ m)
more-are zero n e = some-none e
more-are (suc m) n e = let same : n ≡ suc m = the-some e in (omega arith, omega arith)

pub more-inside : (r : Result ℕ Error) (room : ℕ) {n : ℕ} → Ok (Some n) ≡ got_of r room → (0 < n) × (n ≤ room)
more-inside (Ok k) room {n} e =
    let p : ◌≡◌ {A = Option ℕ} (Some n) (elim (min k room) [ zero ↦ None | suc k ↦ Some (suc k) ]) = cc in
    let all = more-are (min k room) n p in
    (all.0, omega (arith, all.1))
more-inside (Err why) room e = let z : ◌≡◌ {A = ℕ} 0 1 = cc in absurd (omega arith)

module _ (n more : ℕ) (room part : List ℕ) (h : n ≤ length room) (m : more ≤ length part) where
  -- what was read before, and behind it what was read now
  read-more : take (n + more) (put_mid n (length room - n) room part) ≡ take n room ++ take more part
  read-more =
      let after = post_of n (length room - n) room in
      let front = length-take-le n room h in
      let now = take-append-le more part after m in
      rw (take-add n more (put_mid n (length room - n) room part), take_at (take n room) (part ++ after) n front, drop_at (take n room) (part ++ after) n front, now) refl

  pub consumes-more : (a b c : Option (List ℕ)) → Consumes a b (take n room) → Consumes b c (take more part) → Consumes a c (take (n + more) (put_mid n (length room - n) room part))
  consumes-more a b c p q = subst (Consumes a c) (sym read-more) (Consumes-trans a b c (take n room) (take more part) p q)
