-- What the passes of `judge_marks` hand on to each other: the columns of the elements as they are filled, and in the end `Composed`.
-- Assumes nothing.
use Rattle.std.specs.Prelude.{None}
use Prim.Native.Nat.{◌*◌, ◌≤◌, ℕ}
use lib.ListN.{length}
use mathlib.Core.List.{List}
use mathlib.Core.Path.{◌≡◌}
use native.Mathlib.Omega.{arith}
use Rattle.recipe.specs.Records.{Recipe}
use Rattle.tree.specs.Faults.{fault₁₀}
use Rattle.targets.specs.Targeted.{TreeRequires}
use Rattle.tree.specs.Tree.{instances, tree_elements}
use Rattle.elements.specs.Columns.{ElementRows, Gones, Nexts}
use Rattle.references.specs.Ends.{Ends}
use Rattle.compose.specs.Composed.{Composed}
use Rattle.marks.specs.Faults.{fault₉, fault₁₁, fault₁₂, fault₂₀}
use Rattle.elements.specs.Listing.{Listed, Only}
use Rattle.elements.specs.Steps.{NoSteps}
use Rattle.factor_ends.specs.FactorEnds.{ChainsRequires, FactorsRequires}
use Rattle.elements.proofs.Elements.{column-over, elements-few, rows-over}
use Rattle.elements.proofs.Listing.{listed-rows}

module _ {s : Recipe} {t inst : List ℕ} (T : TreeRequires s t inst) where
  module _ (el₀ el₁ : List ℕ) (room : 5 * 1024 ≤ length el₀) (long : length el₁ ≡ length el₀) (L : Listed s (λ x. Unit {0}) el₁) where
    pub rows-listed : ElementRows s el₁
    rows-listed = listed-rows s el₁ (omega (arith, elements-few s T.planted.row₇)) L

    module _ (el₂ : List ℕ) (o : Only 2 el₁ el₂) where
      pub wide-still : 5 * 1024 ≤ length el₂
      wide-still = omega (arith, o.long)

      pub no_steps : NoSteps s el₂
      no_steps = column-over s o 3 (omega arith) (λ z. omega arith) (λ x i. (L x i tt).no_step)

      module _ (g : Gones s el₂) (el₃ : List ℕ) (q : Only 3 el₂ el₃) where
        pub rows-stepped : ElementRows s el₃
        rows-stepped = rows-over s q (omega arith) (rows-over s o (omega arith) rows-listed)

        pub gones-stepped : Gones s el₃
        gones-stepped = column-over s q 2 (omega arith) (λ z. omega arith) g

        -- what it takes to follow a chain
        pub chains-ready : (el₄ : List ℕ) → Nexts s el₃ → Only 4 el₃ el₄ → ChainsRequires s el₄
        chains-ready el₄ x p = record {
          rows = rows-over s p (omega arith) rows-stepped;
          nexts = column-over s p 3 (omega arith) (λ z. omega arith) x;
        }

        -- what row 20 takes
        pub factors-ready : (el₄ : List ℕ) → Only 4 el₃ el₄ → FactorsRequires s t inst el₄
        factors-ready el₄ p = record {
          targeted = T;
          gones = column-over s p 2 (omega arith) (λ z. omega arith) gones-stepped;
        }

        pub composed : (el₄ : List ℕ) {elems : ℕ} → fault₉ s ≡ None → fault₁₀ s ≡ None → fault₁₁ s ≡ None → fault₁₂ s ≡ None → fault₂₀ s ≡ None → elems ≡ length (tree_elements s) → Nexts s el₃ → Ends s el₄ → Only 4 el₃ el₄
            → Composed s t inst el₄ (length (instances s)) elems
        composed el₄ h₉ h₁₀ h₁₁ h₁₂ h₂₀ c x e p = record {
          targeted = T;
          row₉ = h₉;
          row₁₀ = h₁₀;
          row₁₁ = h₁₁;
          row₁₂ = h₁₂;
          row₂₀ = h₂₀;
          count = c;
          elements = (chains-ready el₄ x p).rows;
          gones = (factors-ready el₄ p).gones;
          nexts = (chains-ready el₄ x p).nexts;
          ends = e;
        }
