-- The end of the chain from the element that a factor names, in one instance.
-- Assumes nothing.
use Rattle.std.specs.Prelude.{None, Option, Some}
use Prim.Native.Nat.{◌+◌, ◌<◌, ◌≤◌, ℕ}
use lib.ListN.{get_or, length}
use mathlib.Core.List.{List}
use mathlib.Core.Path.{◌∙◌, ◌≡◌, ap}
use native.Mathlib.Omega.{arith}
use Rattle.recipe.specs.Records.{Recipe}
use Rattle.tree.specs.Faults.{fault₇}
use Rattle.tree.specs.Numbers.{number}
use Rattle.tree.specs.Tree.{node}
use Rattle.tree.proofs.Numbering.{number-few}
use Rattle.marks.specs.Marks.{chain_end}
use Rattle.marks.proofs.Chain.{chain-in}
use Rattle.elements.proofs.Elements.{element-room, order-cell}
use Rattle.references.specs.Ends.{Stepping, followed}
use Rattle.references.proofs.Ends.{end-law, stepping}
use Rattle.targets.specs.Targeted.{Aimed}
use Rattle.factor_ends.specs.FactorEnds.{ChainsRequires, Factor, FactorAt, FactorEnd}

pub no_end : {s : Recipe} {f : ℕ} {o : Option ℕ} → o ≡ None → FactorEnd s f o None
no_end n path F = rw n

-- it names the element at q
module _ {s : Recipe} {t el : List ℕ} (A : Aimed s t) (h₇ : fault₇ s ≡ None) (C : ChainsRequires s el) {f q : ℕ} {o : Option ℕ} (n : o ≡ Some q) where
  pub factor-room : FactorAt s f o → q + 13 ≤ length t
  unfolding node
  factor-room F = element-room A (node F.path q) (F.is.tree q n)

  module _ {c : ℕ} (r : c ≡ get_or t (q + 1) 0) where
    factor-number : {path : List ℕ} → Factor s f path o → f + c ≡ number s (node path q)
    unfolding number node
    factor-number {path} F = let y = order-cell A (node path q) (F.tree q n) in omega (arith, F.first)

    -- what `chain_end` requires
    pub factor-steps : FactorAt s f o → Stepping el (f + c)
    factor-steps F =
        rw (factor-number F.is)
        (stepping s A.measured.linked.row₅ h₇ el C.nexts (node F.path q) (F.is.tree q n) C.rows.room)

    pub factor-few : FactorAt s f o → f + c < 1024
    factor-few F = omega (arith, factor-number F.is, number-few s h₇ (node F.path q) (F.is.tree q n))

    module _ {z : ℕ} (e : z ≡ followed el 5 (f + c)) where
      end_is : {path : List ℕ} → Factor s f path o → z ≡ number s (chain_end s (node path q))
      end_is {path} F = e ∙ ap (followed el 5) (factor-number F) ∙ end-law s A.measured.linked.row₅ h₇ el C.nexts (node path q) (F.tree q n)

      pub factor-end-few : FactorAt s f o → z < 1024
      unfolding chain_end
      factor-end-few F =
          let y = node F.path q in
          omega (arith, end_is F.is, number-few s h₇ (chain_end s y) (chain-in s A.measured.linked.row₅ h₇ 5 y (F.is.tree q n)))

      pub an-end : FactorEnd s f o (Some z)
      an-end path F = rw n (ap Some (end_is F))
