-- What composing hands on is what the survivors, the writer, the room and the prefixes ask.
-- Assumes nothing.
use Prim.Native.Nat.{ℕ, ◌*◌, ◌≤◌}
use native.Mathlib.Omega.{arith}
use native.Mathlib.Nat.{mul-le-mul}
use mathlib.Core.Path.{◌≡◌}
use mathlib.Core.Bool.{not}
use mathlib.Core.List.{List}
use lib.ListN.{length}
use Rattle.names.proofs.Lists.{keep-length}
use Rattle.flat_table.specs.Table.{flat_length, flat_width}
use Rattle.recipe.specs.Records.{Recipe}
use Rattle.tree.specs.Tree.{tree_elements}
use Rattle.compose.specs.Composed.{Composed}
use Rattle.marks.specs.Marks.{is_gone, survivors}
use Rattle.flat_names.specs.Rows.{row_width}
use Rattle.flat_names.proofs.Filling.{naming}
use Rattle.flat_names.proofs.Puts.{rows-room}
use Rattle.composer.specs.Fates.{Fated, Writable}
use Rattle.elements.proofs.Elements.{elements-few}

module _ {s : Recipe} {t inst el : List ℕ} {insts elems : ℕ} (C : Composed s t inst el insts elems) where
  pub fated : Fated s el elems
  fated = record { row₇ = C.targeted.planted.row₇; count = C.count; room = C.elements.room; gones = C.gones }

  pub writable : Writable s t el
  writable =
      let L = C.targeted.planted.measured.linked in
      record { naming = naming C.targeted.planted; row₅ = L.row₅; shadowed = L.numbered.shadowed; parents = L.parents; elements = C.elements; ends = C.ends }

  pub narrow : s.width ≤ 64
  narrow = C.targeted.planted.measured.linked.numbered.shadowed.narrow

  -- the rows of the prefixes have room
  pub prefix-room : {n : ℕ} → n ≡ 16896 → insts * row_width s.width ≤ n
  prefix-room h = omega (arith, h, rows-room insts s.width C.targeted.planted.rows.few narrow)

  pub instances-room : {n : ℕ} → n ≡ 64 → insts ≤ n
  instances-room h = omega (arith, h, C.targeted.planted.rows.few)

  -- the survivors are no more than the tree's elements, which are few, and so are their bytes
  pub bytes-few : {k row : ℕ} → k ≡ length (survivors s) → row ≡ flat_length s.width → k * row ≤ 1024 * 985
  unfolding survivors flat_length flat_width
  bytes-few {k} {row} e r =
      let few : k ≤ 1024 = omega (arith, keep-length (λ x. not (is_gone s x)) (tree_elements s), elements-few s C.targeted.planted.row₇) in
      let short : row ≤ 985 = omega (arith, r, narrow) in
      mul-le-mul few short
