-- Row 11's pass: a replaced-by in one instance, and whether its target is gone.
-- Assumes nothing.
use Prim.Native.Nat.{◌*◌, ◌+◌, ◌<◌, ℕ}
use lib.Dec.{eqb}
use lib.ListN.{get_or}
use mathlib.Core.Bool.{Bool, false, not, true}
use mathlib.Core.List.{List}
use mathlib.Core.Path.{◌∙◌, ◌≡◌, refl, sym}
use Rattle.names.specs.Lists.{In, holds}
use Rattle.names.proofs.Tests.{or_left}
use Rattle.recipe.specs.Records.{Recipe, is_mark, is_model, is_pointer, is_port, is_replaced_by, places}
use Rattle.recipe.proofs.Rows.{replaced-by-mark}
use Rattle.tree.specs.Tree.{Node, node}
use Rattle.tree.proofs.ByRecord.{by-none}
use Rattle.targets.specs.Targeted.{Targeted}
use Rattle.elements.specs.Columns.{Gones}
use Rattle.elements.proofs.Gone.{gone-told}
use Rattle.marks.specs.Faults.{aims_at_gone}
use Rattle.marks.specs.Marks.{aim, from, is_gone}
use Rattle.marks.proofs.Marks.{aim-in, aim-some}
use Rattle.marks.proofs.Pass.{not-model}
use Rattle.marks.proofs.Relations.{aimed-is}
use Rattle.recipe.specs.Definitions.{holder}
use Rattle.marks.proofs.Threads.{Holds, path}
use Rattle.marks.proofs.Turn.{Read, aim-eq, aim-few, it-in}

-- a mark has a target that is gone
abbrev pub lost : Recipe → Node → Bool
lost s r = holds (is_gone s) (aim s r)

-- a record that is no replaced-by
pub not-lost : (s : Recipe) (p : ℕ) → is_replaced_by s p ≡ false → aims_at_gone s p ≡ false
unfolding aims_at_gone
not-lost s p k = by-none s (is_replaced_by s) p k (lost s)

module _ {s : Recipe} {t inst : List ℕ} {insts : ℕ} (T : Targeted s t inst insts) (p : ℕ) (here : In p (places s)) (by : is_replaced_by s p ≡ true) where
  sort : is_pointer s p ≡ true
  sort = or_left (is_mark s p) (is_port s p) (replaced-by-mark s p by)

  pub no-model : is_model s p ≡ false
  no-model = not-model s p sort

  module _ (i : ℕ) (h : Holds s (holder s p) i) {e f : ℕ} (re : e ≡ get_or t (p + 9) 0) (rf : f ≡ get_or inst (6 * i + 2) 0) where
    abbrev this : Node
    this = node (path s i) p

    reads : Read s t inst p i (get_or s.bytes p 0) e (get_or t (get_or t (p + 3) 0 + 1) 0) f
    reads = record { holds = h; kind-is = refl; target_is = re; owner-is = λ z. refl; first-is = rf }

    pub lost-few : f + e < 1024
    lost-few = aim-few T p here sort reads

    module _ (el : List ℕ) (G : Gones s el) {b : Bool} (r : b ≡ not (eqb (get_or el (5 * (f + e) + 2) 0) 0)) where
      -- the row says whether its target is gone
      pub lost-is : lost s this ≡ b
      lost-is =
          let j = it-in T p here sort i h in
          let x = aim-some s T.aimed.row₈ this j in
          let y = from this.path x.0 in
          let g : is_gone s y ≡ b = sym (gone-told s el G r y (aim-in s T.planted.row₇ this y j x.1) (sym (aim-eq T p here sort reads ∙ aimed-is s this y x.1))) in
          rw x.1 g
