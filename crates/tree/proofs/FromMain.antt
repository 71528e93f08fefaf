-- Planting the tree: what each way through says.
-- Assumes nothing.
use Rattle.std.specs.Prelude.{None, Option, Some, is_some, IfSome}
use Prim.Native.Nat.{◌*◌, ◌+◌, ◌<◌, ◌≤◌, ℕ}
use lib.ListN.{get_or, length}
use lib.Seq.{length-sets, sets}
use mathlib.Core.Bool.{Bool, not-not, false, false≢true, not, true}
use mathlib.Core.List.{List, [], ◌∷◌}
use mathlib.Core.Path.{◌∙◌, ◌≡◌, ap, refl, sym}
use native.Mathlib.Omega.{arith}
use Rattle.names.specs.Lists.{In}
use Rattle.names.proofs.Stores.{stored_at}
use Rattle.recipe.specs.Definitions.{definitions, elements, main}
use Rattle.recipe.specs.Records.{Recipe, places}
use Rattle.recipe.proofs.Definitions.{main-in}
use Rattle.recipe.proofs.Going.{going_start, here}
use Rattle.recipe.proofs.Spans.{definition-place}
use Rattle.shadow.specs.Columns.{Measured}
use Rattle.shadow.specs.Shadow.{Cell, Kept, Shadowed}
use Rattle.shadow.proofs.Cells.{row_room, shadowed-over}
use Rattle.tree.specs.Faults.{is_too_large, most_elements, most_instances}
use Rattle.tree.specs.Planted.{Planted, ThreadRequires, Threaded}
use Rattle.tree.specs.Tree.{most_depth, tree_elements}
use Rattle.tree.specs.Walk.{WalkRequires, over}
use Rattle.tree.proofs.Trees.{all-planted, elements-are, thread-requires, too_large}
use Rattle.tree.specs.declared.Size.{Size}
use Rattle.tree.proofs.Walks.{Out, answer-no, answer-yes, too-heavy}

-- what planting promises
abbrev PlantOut : Recipe → List ℕ → List ℕ → List ℕ → List ℕ → Bool → ℕ → ℕ → Type 0
PlantOut s t inst t' inst' large j x =
    (large ≡ is_too_large s) × ((large ≡ false → Planted s t' inst' j × (x ≡ length (tree_elements s))) × ((length t' ≡ length t) × (length inst' ≡ length inst)))

-- the same of the code's answer
abbrev Planting : Recipe → List ℕ → List ℕ → List ℕ → List ℕ → Option Size → Type 0
Planting s t inst t' inst' r =
    (is_some r ≡ not (is_too_large s)) × (IfSome r (λ n. Planted s t' inst' n.insts × (n.elems ≡ length (tree_elements s))) × ((length t' ≡ length t) × (length inst' ≡ length inst)))

pub none-planted : (s : Recipe) (t inst t' inst' : List ℕ) → PlantOut s t inst t' inst' true 0 0 → Planting s t inst t' inst' None
none-planted s t inst t' inst' o = (ap not o.0, (tt, o.1.1))

pub some-planted : (s : Recipe) (t inst t' inst' : List ℕ) {n : Size} → PlantOut s t inst t' inst' false n.insts n.elems → Planting s t inst t' inst' (Some n)
some-planted s t inst t' inst' o = (ap not o.0, (o.1.0 refl, o.1.1))

module _ {s : Recipe} {t : List ℕ} (M : Measured s t) (some : 0 < length s.bytes) where
  c₀ : Shadowed s t
  c₀ = M.linked.numbered.shadowed

  main-def : In main (definitions s)
  main-def = main-in s 0 (here s (λ p. true) 0 c₀.whole (going_start s (λ p. true)) some).place

  pub main-room : 2 < length t
  unfolding main
  main-room = omega (arith, row_room c₀ main (definition-place s main main-def).0)

  main-count : {c : ℕ} → c ≡ get_or t 2 0 → c ≡ length (elements s main)
  unfolding main
  main-count e = e ∙ M.linked.numbered.counts 0 main-def

  -- a tree that is too large
  refused : (inst : List ℕ) {t' inst' : List ℕ} {large : Bool} {j x : ℕ} → large ≡ true → false ≡ not (over 4 s main 0 0) → length t' ≡ length t → length inst' ≡ length inst
      → PlantOut s t inst t' inst' large j x
  refused inst r h a b =
      (r ∙ ap not h ∙ not-not (over 4 s main 0 0) ∙ sym (too_large s), ((λ z. absurd (false≢true (sym z ∙ r))), (a, b)))

  pub main-heavy : {inst : List ℕ} {large : Bool} {c j x : ℕ} → c ≡ get_or t 2 0 → 1024 < c → large ≡ true → PlantOut s t inst t inst large j x
  unfolding most_elements
  main-heavy {inst} e l r = refused inst r (too-heavy s 4 main 0 0 (omega (arith, main-count e))) refl refl

  module _ (inst : List ℕ) (room : 384 ≤ length inst) {inst₁ : List ℕ} (row : inst₁ ≡ sets inst 0 (0 ∷ 0 ∷ 0 ∷ 0 ∷ 0 ∷ 0 ∷ [])) where
    main-row : get_or inst₁ (6 * 0 + 0) 0 ≡ main
    unfolding main
    main-row = ap (λ (l : List ℕ). get_or l 0 0) row ∙ stored_at (0 ∷ 0 ∷ 0 ∷ 0 ∷ 0 ∷ 0 ∷ []) inst 0 0 (omega arith) (omega arith)

    long : length inst₁ ≡ length inst
    long = ap length row ∙ length-sets inst 0 (0 ∷ 0 ∷ 0 ∷ 0 ∷ 0 ∷ 0 ∷ [])

    pub main-requires : {c : ℕ} → c ≡ get_or t 2 0 → c ≤ 1024 → WalkRequires s t inst₁ 0 0 4
    unfolding most_elements most_instances most_depth
    main-requires e l = record {
      linked = M.linked;
      definition = rw main-row main-def;
      few = omega arith;
      light = rw main-row (omega (arith, main-count e));
      flat = omega arith;
      room = omega (arith, long);
    }

    module _ {t' inst' : List ℕ} {ok : Bool} {j x : ℕ} (o : Out s 4 (get_or inst₁ (6 * 0 + 0) 0) 0 0 t inst₁ t' inst' ok j x) where
      out : Out s 4 main 0 0 t inst₁ t' inst' ok j x
      out = rw main-row at o

      pub walk-fails : {large : Bool} {u v : ℕ} → not ok ≡ true → large ≡ true → PlantOut s t inst t' inst' large u v
      walk-fails h r = refused inst r (sym (ap not (answer-no ok (over 4 s main 0 0) out.0 h))) o.1.1.kept.long (o.1.1.long ∙ long)

      pub walk-shadowed : Shadowed s t'
      walk-shadowed = shadowed-over o.1.1.kept c₀

      module _ (goes : not ok ≡ false) {t₂ : List ℕ} (cleared : Cell (places s) 8 (λ d. 0) t₂ × Kept s (8 ∷ []) t' t₂) where
        row-main : inst₁ ≡ sets inst 0 (main ∷ 0 ∷ 0 ∷ 0 ∷ 0 ∷ 0 ∷ [])
        unfolding main
        row-main = row

        pub main-threads : ThreadRequires s t₂ inst' j
        main-threads =
            let y = answer-yes ok _ out.0 goes in
            thread-requires s inst (out.1.0 y.0) y.1 room row-main (o.1.1.long ∙ long) cleared walk-shadowed main-def

        pub main-planted : {t₃ inst₃ : List ℕ} {large : Bool} {u v : ℕ} → Threaded s t₂ inst' t₃ inst₃ j → large ≡ false → u ≡ j → v ≡ x → PlantOut s t inst t₃ inst₃ large u v
        main-planted T r a b =
            let y = answer-yes ok _ out.0 goes in
            let g = out.1.0 y.0 in
            let e : is_too_large s ≡ false = too_large s ∙ y.1 in (
              r ∙ sym e,
              (
                (λ z. (rw a (all-planted s inst g y.1 room row-main (o.1.1.long ∙ long) cleared M o.1.1.kept e T), b ∙ elements-are s inst g y.1 room row-main)),
                (T.kept.long ∙ cleared.1.long ∙ o.1.1.kept.long, T.long ∙ o.1.1.long ∙ long),
              ),
            )
