-- The answer as it is found: by composing, then by the search; and a name of another length belongs to no survivor.
-- Assumes nothing.
use Rattle.std.specs.Prelude.{Err, None, Option, Some, option_map}
use Rattle.std.specs.Option.{ok_or}
use mathlib.Core.Path.{◌≡◌, refl, sym, ap, ◌∙◌}
use Prim.Native.Nat.{ℕ, ◌≤◌, ◌<◌}
use native.Mathlib.Omega.{arith}
use mathlib.Core.Bool.{true}
use mathlib.Core.List.{List}
use lib.ListN.{length}
use Rattle.names.specs.declared.Refusal.{Refusal}
use Rattle.names.specs.declared.Reason.TheVariants.{Unnamed}
use Rattle.names.specs.Judging.{refusal_at}
use Rattle.names.specs.Lists.{In}
use Rattle.names.proofs.Judging.{none-judged}
use Rattle.names.proofs.Lists.{first-none, same_false, some_first}
use Rattle.names.proofs.Tests.{by-option, some-map}
use Rattle.flat_table.specs.Table.{flat_width}
use Rattle.recipe.specs.Records.{Recipe}
use Rattle.tree.specs.Numbers.{number}
use Rattle.tree.specs.Tree.{Node, tree_elements}
use Rattle.compose.specs.Composed.{Composed}
use Rattle.marks.specs.Marks.{survivors}
use Rattle.marks.proofs.Survivors.{survivor}
use Rattle.compose.specs.Rows.{Unrefused, refusal_of, refusal_rows}
use Rattle.composer.specs.Flat.{flat_field}
use Rattle.composer.specs.Writing.{element_at}
use Rattle.composer.proofs.ByNumber.{element-is}
use Rattle.composer.proofs.Lengths.{name-field}
use Rattle.origins.specs.declared.Origin.{Origin}
use Rattle.origins.specs.Origins.{answered, is_named, origin_of, walk_back, walked_to, walk_answer}

module _ (s : Recipe) (f : List ℕ) where
  -- the origin of a name is a survivor, and has that name
  pub origin-is : (x : Node) → origin_of s f ≡ Some x → In x (survivors s) × (is_named s f x ≡ true)
  unfolding origin_of
  origin-is x e = some_first (is_named s f) (survivors s) x e

  -- ---- the recipe's refusal
  pub walk_refused_lem : (r : Refusal) → Some r ≡ refusal_of s → answered (Err r) ≡ walk_back s f
  unfolding walk_back
  walk_refused_lem r e = rw (← e, walk_back)

  -- ---- or the search
  pub walk-unrefused : Unrefused s → walk_back s f ≡ walk_answer (origin_of s f)
  unfolding walk_back refusal_of
  walk-unrefused h = rw (none-judged (refusal_rows s) h, walk_back)

  pub walk-searched : Unrefused s → {o : Option Origin} → o ≡ option_map walked_to (origin_of s f) → answered (ok_or o (refusal_at Unnamed 0)) ≡ walk_back s f
  unfolding walk_answer
  walk-searched h {o} e = rw (e, walk-unrefused h) (by-option (origin_of s f) (λ n. rw n refl) (λ x n. rw n refl))

-- ---- of a recipe that no row refuses
module _ {s : Recipe} {t inst el : List ℕ} {insts elems : ℕ} (C : Composed s t inst el insts elems) where
  two : 2 ≤ s.width
  two = omega (arith, C.targeted.planted.measured.linked.numbered.shadowed.wide)

  pub other_length : (f : List ℕ) {w : ℕ} → w ≡ flat_width s.width → (length f ≡ w → ⊥) → None ≡ option_map walked_to (origin_of s f)
  unfolding origin_of is_named
  other_length f {w} e n =
      let L = C.targeted.planted.measured.linked in
      sym (ap (option_map walked_to)
      (first-none (is_named s f) (survivors s)
      (λ x i. same_false {xs = flat_field s (Some x)} {ys = f} (λ same. n (sym (ap length same) ∙ name-field s two L.row₃ C.targeted.planted.row₇ L.row₅ x (survivor s x i).0 ∙ sym e)))))

  -- or the number of the origin
  module _ (f : List ℕ) {e : ℕ} (h : Some e ≡ option_map (number s) (origin_of s f)) where
    origin : (x : Node) × (origin_of s f ≡ Some x) × (e ≡ number s x)
    origin = some-map (number s) (origin_of s f) e (sym h)

    origin-tree : In origin.0 (tree_elements s)
    origin-tree = (survivor s origin.0 (origin-is s f origin.0 origin.1).0).0

    origin-number : (e < length (tree_elements s)) × (element_at s e ≡ origin.0)
    origin-number =
        let n = element-is s C.targeted.planted.row₇ origin.0 origin-tree in
        let i = origin.2 in
        (omega (arith, n.0), ap (element_at s) i ∙ n.1)

    pub origin-low : e < length (tree_elements s)
    origin-low = origin-number.0

    pub origin-found : {r : Origin} → r ≡ walked_to (element_at s e) → Some r ≡ option_map walked_to (origin_of s f)
    origin-found g = rw (origin.1, g, origin-number.1)
