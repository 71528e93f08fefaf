-- What is printed piece by piece: the room of each piece.
-- Assumes nothing.
use mathlib.Core.Path.{◌≡◌, ap}
use Prim.Native.Nat.{ℕ}
use native.Mathlib.Omega.{arith}
use mathlib.Core.List.{List, ◌++◌}
use lib.ListN.{length, length-append}
use Rattle.bandrolt.specs.Text.{HasRoom}

-- where both pieces have room the first has
pub room-first : (text xs ys : List ℕ) → HasRoom text (xs ++ ys) → HasRoom text xs
room-first text xs ys h = omega (arith, length-append xs ys)

-- and the second behind it
pub room-then : (text xs ys : List ℕ) {text' : List ℕ} → text' ≡ text ++ xs → HasRoom text (xs ++ ys) → HasRoom text' ys
room-then text xs ys e h = omega (arith, length-append xs ys, ap length e, length-append text xs)

-- five pieces, one behind the other
module _ (text a b c d e : List ℕ) where
  pub record Pieces : Type 0 where
    pub first : HasRoom text a
    pub second : {t : List ℕ} → t ≡ text ++ a → HasRoom t b
    pub third : {t u : List ℕ} → t ≡ text ++ a → u ≡ t ++ b → HasRoom u c
    pub fourth : {t u v : List ℕ} → t ≡ text ++ a → u ≡ t ++ b → v ≡ u ++ c → HasRoom v d
    pub fifth : {t u v w : List ℕ} → t ≡ text ++ a → u ≡ t ++ b → v ≡ u ++ c → w ≡ v ++ d → HasRoom w e

  pub pieces : HasRoom text (a ++ (b ++ (c ++ (d ++ e)))) → Pieces
  pieces h =
      record {
        first = room-first text a (b ++ (c ++ (d ++ e))) h;
        second = λ {t} i. room-first t b (c ++ (d ++ e)) (room-then text a (b ++ (c ++ (d ++ e))) i h);
        third = λ {t} {u} i j. room-first u c (d ++ e) (room-then t b (c ++ (d ++ e)) j (room-then text a (b ++ (c ++ (d ++ e))) i h));
        fourth = λ {t} {u} {v} i j k. room-first v d e (room-then u c (d ++ e) k (room-then t b (c ++ (d ++ e)) j (room-then text a (b ++ (c ++ (d ++ e))) i h)));
        fifth = λ {t} {u} {v} {w} i j k l. room-then v d e l (room-then u c (d ++ e) k (room-then t b (c ++ (d ++ e)) j (room-then text a (b ++ (c ++ (d ++ e))) i h)));
      }
