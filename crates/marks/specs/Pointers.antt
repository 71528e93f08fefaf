-- A mark or port as the code has it: as read, and in one instance.
-- Assumes nothing.
use Rattle.std.specs.Prelude.{ℕ, ◌*◌, ◌+◌, ◌<◌, ◌≤◌, ◌≡◌, List, get_or, true}
use Rattle.recipe.specs.Records.{owned_kind, replaced_by_kind}
use Rattle.marks.specs.declared.Pointer.{Pointer}

-- what is read of the record at p: its kind, and the numbers of its target and, if it has one, its owner, counted from their instance's first element
pub record ReadAt (s t : List ℕ) (p : ℕ) (x : Pointer) : Type 0 where
  pub kind : x.kind ≡ get_or s p 0
  pub target : x.target ≡ get_or t (p + 9) 0
  pub owner : owned_kind x.kind ≡ true → x.owner ≡ get_or t (get_or t (p + 3) 0 + 1) 0
  pub few : (x.target < 65536) × (x.owner < 65536)

-- the same in instance i, of which the row has the number of the first element and the depth
abbrev pub in_row : Pointer → List ℕ → ℕ → Pointer
in_row x inst i = record {
  kind = x.kind;
  target = get_or inst (6 * i + 2) 0 + x.target;
  owner = get_or inst (6 * i + 2) 0 + x.owner;
  depth = get_or inst (6 * i + 1) 0;
}

-- its cells are among those of 1,024 elements
pub record InCells (x : Pointer) : Type 0 where
  pub target : x.target < 1024
  pub depth : x.depth ≤ 4
  pub owner : replaced_by_kind x.kind ≡ true → x.owner < 1024
