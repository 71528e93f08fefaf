-- The cells of an element, which marks and ports set and ask, and what one record does to the cells.
-- Assumes nothing.
use Rattle.std.specs.Prelude.{◌*◌, ◌+◌, ◌-◌, suc, zero, ℕ, leb, ltb, eqb, not, get_or, length, set, Bool, ◌&&◌, ◌||◌, cond, false, true, List, [], ◌∷◌, ◌≡◌, None, Some}
use Rattle.names.specs.Lists.{In, among}
use Rattle.recipe.specs.Records.{Recipe, is_port, is_replaced_by, port_kind, replaced_by_kind, mark_kind}
use Rattle.tree.specs.Numbers.{number}
use Rattle.tree.specs.Tree.{Node}
use Rattle.marks.specs.Marks.{aim, owner, tree_pointers}

-- the number of a target (0 where there is none, which row 8 refuses)
unfoldable pub aim_number : Recipe → Node → ℕ
aim_number s r = elim (aim s r) [ None ↦ 0 | Some x ↦ number s x ]

-- ---- each element has twelve cells
-- 0: it owns a replaced-by
unfoldable pub owner_cell : ℕ → ℕ
owner_cell e = 12 * e

-- 5 to 1: a mark at depth 0 to 4 targets it
unfoldable pub mark_cell : ℕ → ℕ → ℕ
mark_cell e k = 12 * e + (5 - k)

-- 6 to 10: a port at depth 0 to 4 targets it
unfoldable pub port_cell : ℕ → ℕ → ℕ
port_cell e k = 12 * e + (6 + k)

-- 11: a deletion or replacement targets it
unfoldable pub gone_cell : ℕ → ℕ
gone_cell e = 12 * e + 11

-- the cells that a mark or port of the tree sets
unfoldable pub stamps : Recipe → Node → List ℕ
stamps s q =
    cond (is_port s q.place) (port_cell (aim_number s q) (length q.path) ∷ [])
    (cond (is_replaced_by s q.place) (mark_cell (aim_number s q) (length q.path) ∷ owner_cell (number s (owner s q)) ∷ [])
    (mark_cell (aim_number s q) (length q.path) ∷ gone_cell (aim_number s q) ∷ []))

-- n cells from a on: c is one of them
unfoldable pub within : ℕ → ℕ → ℕ → Bool
within a n c = leb a c && ltb c (a + n)

-- the cells that it must find unset: those that pass the test
unfoldable pub asks : Recipe → Node → ℕ → Bool
asks s r c =
    cond (is_port s r.place)
    (within (12 * aim_number s r) (6 - length r.path) c || within (port_cell (aim_number s r) (length r.path)) 1 c)
    (cond (is_replaced_by s r.place)
    (within (12 * aim_number s r) (7 + length r.path) c || within (12 * number s (owner s r) + 1) 10 c)
    (within (12 * aim_number s r) (7 + length r.path) c || within 0 0 c))

-- a cell is set
abbrev pub is_set : List ℕ → ℕ → Bool
is_set t c = not (eqb (get_or t c 0) 0)

-- one of n cells from a on is set
unfoldable pub any_set : List ℕ → ℕ → ℕ → Bool
any_set t a zero = false
any_set t a (suc n) = is_set t a || any_set t (suc a) n

-- the cells are those that the marks and ports set that D says, and no other
pub record Stamped (s : Recipe) (D : Node → Type 0) (t : List ℕ) : Type 0 where
  pub has : (q : Node) → In q (tree_pointers s) → D q → (c : ℕ) → among c (stamps s q) ≡ true → is_set t c ≡ true
  pub only : (c : ℕ) → is_set t c ≡ true → (q : Node) × (In q (tree_pointers s) × (D q × (among c (stamps s q) ≡ true)))

-- all of them
abbrev pub AllStamped : Recipe → List ℕ → Type 0
AllStamped s t = Stamped s (λ q. Unit {0}) t

-- a cell that a record of kind k asks is set: e its target's number, o its owner's, d its depth
unfoldable pub meets : List ℕ → ℕ → ℕ → ℕ → ℕ → Bool
meets t k e o d =
    cond (port_kind k) (any_set t (12 * e) (6 - d) || any_set t (port_cell e d) 1)
    (cond (replaced_by_kind k) (any_set t (12 * e) (7 + d) || any_set t (12 * o + 1) 10)
    (cond (mark_kind k) (any_set t (12 * e) (7 + d) || any_set t 0 0) false))

-- its cells set
unfoldable pub stamped : List ℕ → ℕ → ℕ → ℕ → ℕ → List ℕ
stamped t k e o d =
    cond (port_kind k) (set t (port_cell e d) 1)
    (cond (replaced_by_kind k) (set (set t (mark_cell e d) 1) (owner_cell o) 1)
    (cond (mark_kind k) (set (set t (mark_cell e d) 1) (gone_cell e) 1) t))
