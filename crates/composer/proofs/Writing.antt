-- Records written one behind another: with those that are left, what is written is the whole table.
-- Assumes nothing.
use Prim.Native.Nat.{◌+◌, ◌≤◌, ℕ}
use lib.ListN.{drop, length, length-append}
use lib.Seq.{length-sets, sets, sets-eq}
use mathlib.Core.List.{List, [], ◌++◌, ◌∷◌, map}
use mathlib.Core.Path.{◌∙◌, ◌≡◌, ap, refl, sym}
use native.Mathlib.Nat.{zero-add}
use native.Mathlib.Omega.{arith}
use Rattle.names.specs.Lists.{joined}
use Rattle.names.proofs.Stores.{sets-append}

module _ {X : Type 0} (r : X → List ℕ) where
  -- storing the records of those that are left, at `at` and behind it, gives the records of all
  pub record WriteLoop (all : List X) (out₀ out : List ℕ) (left : List X) (at : ℕ) : Type 0 where
    pub long : length out ≡ length out₀
    pub room : at + length (joined (map r left)) ≤ length out
    pub rest : sets out at (joined (map r left)) ≡ sets out₀ 0 (joined (map r all))

  pub write-start : (all : List X) (out : List ℕ) → length (joined (map r all)) ≤ length out → WriteLoop all out out all 0
  write-start all out h = record { long = refl; room = omega arith; rest = refl }

module _ {X : Type 0} {r : X → List ℕ} {all : List X} {out₀ out : List ℕ} {at : ℕ} where
  pub write-end : WriteLoop r all out₀ out [] at → length (joined (map r all)) ≤ length out₀ → out ≡ joined (map r all) ++ drop (length (joined (map r all))) out₀
  write-end g k =
      g.rest
      ∙ sets-eq (joined (map r all)) out₀ 0 (omega arith)
      ∙ ap (λ (k : ℕ). joined (map r all) ++ drop k out₀) (zero-add (length (joined (map r all))))

  module _ {x : X} {left : List X} (g : WriteLoop r all out₀ out (x ∷ left) at) where
    pub write-room : at + length (r x) ≤ length out
    write-room = omega (arith, g.room, length-append (r x) (joined (map r left)))

    pub write-on : (n : ℕ) {out' : List ℕ} → length (r x) ≡ n → out' ≡ sets out at (r x) → WriteLoop r all out₀ out' left (at + n)
    write-on n {out'} m o = record {
      long = ap length o ∙ length-sets out at (r x) ∙ g.long;
      room = omega (arith, g.room, length-append (r x) (joined (map r left)), m, ap length o, length-sets out at (r x));
      rest = ap (λ (y : List ℕ). sets y (at + n) (joined (map r left))) o
          ∙ ap (λ (j : ℕ). sets (sets out at (r x)) (at + j) (joined (map r left))) (sym m)
          ∙ sym (sets-append (r x) out at (joined (map r left)))
          ∙ g.rest;
    }
