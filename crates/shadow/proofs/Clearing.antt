-- One cell of each record is cleared: a turn of the loop.
-- Assumes nothing.
use Prim.Native.Nat.{◌+◌, ◌<◌, ◌≤◌, ℕ}
use borrow.Author.Tests.{eq-eqb, lt-ltb}
use lib.Dec.{ltb}
use lib.ListN.{get_or, length, set}
use mathlib.Core.Bool.{true}
use mathlib.Core.List.{List, [], ◌∷◌}
use mathlib.Core.Logic.{inl}
use mathlib.Core.Path.{◌≡◌, refl}
use native.Mathlib.Omega.{arith}
use Rattle.names.specs.Lists.{among, every}
use Rattle.recipe.specs.Records.{Recipe, places, record_length}
use Rattle.shadow.specs.Shadow.{Cell, Kept, Shadowed}
use Rattle.shadow.proofs.Cells.{Filling, Walking, filling-end, filling-one, filling-start, kept-all, kept_set, row-none, row-set, walk_end, walk-one, walk-place, walk-room, walk_start}

-- the records before p have a 0 in cell k
pub record ClearLoop (s : Recipe) (k : ℕ) (t₀ t : List ℕ) (p : ℕ) : Type 0 where
  pub walking : Walking s (k ∷ []) t₀ t p
  pub filling : Filling s (k ∷ []) (λ j x. 0) t₀ t p

pub clear-start : (s : Recipe) (k : ℕ) (t : List ℕ) → ClearLoop s k t t 0
clear-start s k t = record { walking = walk_start s (k ∷ []) t; filling = filling-start s (k ∷ []) (λ j x. 0) t }

module _ {s : Recipe} {k : ℕ} {t₀ t : List ℕ} {p : ℕ} (c : Shadowed s t₀) (low : k < 13) (g : ClearLoop s k t₀ t p) where
  pub clear_room : p < length s.bytes → p + k < length t
  clear_room l = omega (arith, walk-room c g.walking l)

  pub clear-one : {n : ℕ} {t' : List ℕ} → p < length s.bytes → t' ≡ set t (p + k) 0 → n ≡ record_length s.width (get_or s.bytes p 0) → ClearLoop s k t₀ t' (p + n)
  clear-one l a e =
      let at = walk-place c g.walking l in
      let own : among k (k ∷ []) ≡ true = rw (eq-eqb k k refl, among) in
      let lows : every (λ j. ltb j 13) (k ∷ []) ≡ true = rw (lt-ltb k 13 low, every) in
      rw a (record {
        walking = walk-one c g.walking l e (kept_set p k 0 c (kept-all s (k ∷ []) t) at low own);
        filling = filling-one g.filling c at lows e (row-set k (row-none (λ j x. 0) p t) (clear_room l) refl);
      })

  pub clear-end : length s.bytes ≤ p → Cell (places s) k (λ x. 0) t × Kept s (k ∷ []) t₀ t
  clear-end l = (filling-end g.filling (walk_end c g.walking l) k (inl refl), g.walking.kept)
