-- The walk back of a name that a survivor has, and of each survivor's own name.
-- Assumes nothing.
use Rattle.std.specs.Prelude.{None, Some}
use mathlib.Core.Path.{◌≡◌, refl, sym, ap, ◌∙◌}
use Prim.Native.Nat.{ℕ, ◌-◌, ◌≤◌}
use native.Mathlib.Omega.{arith}
use mathlib.Core.List.{List}
use lib.ListN.{length, replicate}
use lib.Seq.{take-append_seam, drop-append_seam}
use Rattle.names.specs.Lists.{In, padded}
use Rattle.names.proofs.Judging.{judged-none, number-positive, row-none}
use Rattle.names.proofs.Lists.{first-is, same_refl, same_true}
use Rattle.names.proofs.Tests.{by-option}
use Rattle.recipe.specs.Records.{Recipe}
use Rattle.recipe.specs.Reading.{fault₃, fault₄, fault₅}
use Rattle.tree.specs.Faults.{fault₇}
use Rattle.tree.specs.Tree.{Node, instances, most_depth}
use Rattle.tree.proofs.Nodes.{in_tree}
use Rattle.marks.specs.Marks.{survivors}
use Rattle.marks.proofs.Survivors.{survivor}
use Rattle.compose.specs.Rows.{Unrefused, refusal_of, refusal_rows}
use Rattle.composer.specs.Flat.{flat_field}
use Rattle.composer.specs.FlatRecords.{NamesOne}
use Rattle.composer.proofs.Table.{names-one, same-survivor}
use Rattle.origins.specs.declared.Origin.{Origin}
use Rattle.origins.specs.Again.{Spells}
use Rattle.origins.specs.Origins.{is_named, origin_of, walk_refused, walk_back, walked_to, walk_answer}
use Rattle.origins.proofs.Answers.{origin-is, walk-unrefused}

module _ (s : Recipe) (f : List ℕ) (o : Origin) (walks : o ≡ walk_back s f) (found : o.number ≡ 0) where
  number_is : (walk_back s f).number ≡ 0
  number_is = ap (λ (x : Origin). x.number) (sym walks) ∙ found

  -- a name is walked back only in a recipe that no row refuses,
  pub walked-unrefused : Unrefused s
  unfolding refusal_of walk_back walk_refused
  walked-unrefused =
      by-option (refusal_of s)
      (judged-none (refusal_rows s))
      (λ r e. absurd (omega (arith, number-positive r.reason, rw (e, walk_back) at number_is)))

  -- and only to its origin
  pub walked-origin : (x : Node) × (origin_of s f ≡ Some x) × (o ≡ walked_to x)
  unfolding walk_answer walk_refused
  walked-origin =
      by-option (origin_of s f)
      (λ e. absurd (let n : (walk_answer (origin_of s f)).number ≡ 0 = rw (walk-unrefused s f walked-unrefused) at number_is in let m : 18 ≡ 0 = rw e at n in omega arith))
      (λ x e. (x, e, walks ∙ walk-unrefused s f walked-unrefused ∙ rw e))

module _ (s : Recipe) (two : 2 ≤ s.width) (h : Unrefused s) where
  r₃ : fault₃ s ≡ None
  r₃ = row-none 3 (refusal_rows s) h

  r₄ : fault₄ s ≡ None
  r₄ = row-none 4 (refusal_rows s) h

  r₅ : fault₅ s ≡ None
  r₅ = row-none 5 (refusal_rows s) h

  r₇ : fault₇ s ≡ None
  r₇ = row-none 7 (refusal_rows s) h

  -- an element is in an instance of the tree, and its origin spells it
  pub in-instance : (x : Node) → In x (survivors s) → In x.path (instances s)
  in-instance x i = (in_tree s x (survivor s x i).0).0

  pub spells : (x : Node) → In x (survivors s) → (o : Origin) → o ≡ walked_to x → Spells o x
  unfolding walked_to padded most_depth
  spells x i o e =
      rw e
      record {
        found = refl;
        start = refl;
        depth = refl;
        path = take-append_seam x.path (replicate (4 - length x.path) 0);
        unused = drop-append_seam x.path (replicate (4 - length x.path) 0);
        element = refl;
      }

  -- the record of the name's origin is the one of that name
  pub origin-named : (f : List ℕ) (x : Node) → origin_of s f ≡ Some x → NamesOne s f x
  unfolding is_named
  origin-named f x e =
      let i = origin-is s f x e in
      names-one s two r₃ r₅ r₇ r₄ x i.0 f (sym (same_true (flat_field s (Some x)) f i.1))

  -- a survivor is walked back from its own name
  pub own_origin : (x : Node) → In x (survivors s) → walk_back s (flat_field s (Some x)) ≡ walked_to x
  unfolding origin_of is_named walk_answer
  own_origin x i =
      let f = flat_field s (Some x) in
      let o : origin_of s f ≡ Some x =
      first-is (is_named s f) (survivors s) x i (same_refl f) (λ y j e. same-survivor s two r₃ r₅ r₇ r₄ y x j i (same_true (flat_field s (Some y)) f e)) in
      walk-unrefused s f h ∙ rw o
