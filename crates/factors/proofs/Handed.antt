-- What composing leaves is what the rooms ask.
-- Assumes nothing.
use mathlib.Core.Path.{◌≡◌}
use Prim.Native.Nat.{ℕ, ◌*◌, ◌≤◌}
use native.Mathlib.Omega.{arith}
use native.Mathlib.Nat.{mul-le-mul}
use mathlib.Core.List.{List}
use lib.ListN.{length, get_or}
use Rattle.flat_table.specs.Table.{flat_width}
use Rattle.recipe.specs.Records.{Recipe}
use Rattle.tree.specs.Tree.{most_depth}
use Rattle.compose.specs.Composed.{Composed}
use Rattle.composer.proofs.Handed.{narrow}
use Rattle.factors.specs.Companion.{entry_length, rated}
use Rattle.factors.specs.Sites.{SitesTo}
use Rattle.factors.proofs.Entries.{rated-few}
use Rattle.factors.proofs.Sites.{sites-start}

module _ {s : Recipe} {t inst el : List ℕ} {insts elems : ℕ} (C : Composed s t inst el insts elems) where
  -- a table of zeros has room for a row of each instance
  pub sites-blank : (sites : List ℕ) → length sites ≡ 1024 → ((k : ℕ) → get_or sites k 0 ≡ 0) → SitesTo s sites 1
  sites-blank sites h z = let R = C.targeted.planted.rows in sites-start sites (omega (arith, R.count, R.few)) z

  -- the entries are no more than the tree's elements, which are few, and so are their bytes
  pub entries-few : {k entry : ℕ} → k ≡ length (rated s) → entry ≡ entry_length s.width → k * entry ≤ 1024 * 2953
  unfolding entry_length most_depth flat_width
  entries-few {k} {entry} e r =
      let few : k ≤ 1024 = omega (arith, e, rated-few s C.targeted.planted.row₇) in
      let short : entry ≤ 2953 = omega (arith, r, narrow C) in
      mul-le-mul few short
