-- Two records conflict where one's stamp lies among the cells that the other asks.
-- Assumes nothing.
use Prim.Native.Nat.{◌*◌, ◌+◌, ◌-◌, ◌≤◌, ℕ}
use borrow.Author.Tests.{eqb-true}
use lib.Dec.{eqb, leb}
use lib.ListN.{length}
use mathlib.Core.Bool.{Bool, ◌&&◌, ◌||◌, false, false≢true, or_comm, or-false, true}
use mathlib.Core.List.{[], ◌∷◌}
use mathlib.Core.Logic.{◌⊎◌, inl, inr, ⊎_elim}
use mathlib.Core.Path.{◌∙◌, ◌≡◌, refl, sym}
use Rattle.names.specs.Lists.{any, same}
use Rattle.names.proofs.Tests.{by_cases, or_cases}
use Rattle.recipe.specs.Records.{Recipe, is_deletion, is_mark, is_port, is_replaced_by, is_replacement, kind}
use Rattle.tree.specs.Numbers.{number}
use Rattle.tree.specs.Tree.{Node}
use Rattle.names.proofs.Lists.{any-one, any-two}
use Rattle.marks.specs.Cells.{aim_number, asks, gone_cell, mark_cell, owner_cell, port_cell, stamps, within}
use Rattle.marks.specs.Marks.{aims_at, conflict, is_at_or_below, marks_clash, owner, owner_clash, port_clash, ports_clash, same_aim}
use Rattle.marks.proofs.Cells.{gone-mark, gone-owner, gone-port, gone-port₂, mark-mark, mark-owner, mark-port, mark-port₂, nothing-within, owner-mark, owner-owner, owner-port, owner-port₂, port-mark, port-owner, port-port, port-port₂}

or-last : (a b c : Bool) → a || b || c ≡ a || c || b
or-last true b c = refl
or-last false b c = or_comm b c

module _ (s : Recipe) where
  -- a mark or port is of one of three sorts
  pub record Sort (p : ℕ) (port mark by : Bool) : Type 0 where
    pub is-port : is_port s p ≡ port
    pub is-mark : is_mark s p ≡ mark
    pub is-by : is_replaced_by s p ≡ by

  pub sorts : (p : ℕ) → is_mark s p || is_port s p ≡ true → Sort p true false false ⊎ (Sort p false true true ⊎ Sort p false true false)
  unfolding is_mark is_port is_deletion is_replacement is_replaced_by
  sorts p h =
      by_cases (is_port s p)
      (λ e. let k : kind s p ≡ 3 = eqb-true (kind s p) 3 e in inl (record { is-port = e; is-mark = rw k; is-by = rw k }))
      (λ e. by_cases (is_replaced_by s p)
      (λ f. let k : kind s p ≡ 7 = eqb-true (kind s p) 7 f in inr (inl (record { is-port = e; is-mark = rw k; is-by = f })))
      (λ f. inr (inr (record { is-port = e; is-mark = ⊎_elim (λ (m : is_mark s p ≡ true). m) (λ (m : is_port s p ≡ true). absurd (false≢true (sym e ∙ m))) (or_cases (is_mark s p) (is_port s p) h); is-by = f }))))

  -- the cells of each sort
  pub stamps-port : (q : Node) → Sort q.place true false false → stamps s q ≡ port_cell (aim_number s q) (length q.path) ∷ []
  unfolding stamps
  stamps-port q a = rw a.is-port

  pub stamps-by : (q : Node) → Sort q.place false true true → stamps s q ≡ mark_cell (aim_number s q) (length q.path) ∷ owner_cell (number s (owner s q)) ∷ []
  unfolding stamps
  stamps-by q a = rw (a.is-port, a.is-by)

  pub stamps-mark : (q : Node) → Sort q.place false true false → stamps s q ≡ mark_cell (aim_number s q) (length q.path) ∷ gone_cell (aim_number s q) ∷ []
  unfolding stamps
  stamps-mark q a = rw (a.is-port, a.is-by)

  -- what numbers and depths say of two marks or ports
  pub record Related (q r : Node) : Type 0 where
    pub deep : length q.path ≤ 4
    pub deep' : length r.path ≤ 4
    pub target : same_aim s q r ≡ eqb (aim_number s q) (aim_number s r)
    pub own : is_replaced_by s q.place ≡ true → aims_at s r (owner s q) ≡ eqb (aim_number s r) (number s (owner s q))
    pub own' : is_replaced_by s r.place ≡ true → aims_at s q (owner s r) ≡ eqb (aim_number s q) (number s (owner s r))
    pub one : same q.path r.path && same_aim s q r ≡ eqb (length q.path) (length r.path) && eqb (aim_number s q) (aim_number s r)
    pub down : is_at_or_below q r && same_aim s q r ≡ leb (length r.path) (length q.path) && eqb (aim_number s q) (aim_number s r)
    pub up : is_at_or_below r q && same_aim s r q ≡ leb (length q.path) (length r.path) && eqb (aim_number s q) (aim_number s r)

  module _ (q r : Node) (h : Related q r) where
    abbrev e : ℕ
    e = aim_number s q

    abbrev k : ℕ
    k = length q.path

    abbrev o : ℕ
    o = number s (owner s q)

    abbrev e' : ℕ
    e' = aim_number s r

    abbrev k' : ℕ
    k' = length r.path

    abbrev o' : ℕ
    o' = number s (owner s r)

    asks-port : (c : ℕ) → Sort r.place true false false → asks s r c ≡ within (12 * e') (6 - k') c || within (port_cell e' k') 1 c
    unfolding asks
    asks-port c b = rw b.is-port

    asks-by : (c : ℕ) → Sort r.place false true true → asks s r c ≡ within (12 * e') (7 + k') c || within (12 * o' + 1) 10 c
    unfolding asks
    asks-by c b = rw (b.is-port, b.is-by)

    asks-mark : (c : ℕ) → Sort r.place false true false → asks s r c ≡ within (12 * e') (7 + k') c
    unfolding asks
    asks-mark c b = rw (b.is-port, b.is-by, nothing-within c) (or-false _)

    port-port-law : Sort q.place true false false → Sort r.place true false false → conflict s q r ≡ any (asks s r) (stamps s q)
    unfolding conflict marks_clash owner_clash ports_clash port_clash
    port-port-law a b =
        rw (stamps-port q a, any-one (asks s r), asks-port (port_cell e k) b, port-port e k e' k' h.deep h.deep', port-port₂ e k e' k' h.deep h.deep')
        (rw (a.is-port, a.is-mark, a.is-by, b.is-port, b.is-mark, b.is-by, h.one) (simp or-false))

    port-mark-law : Sort q.place true false false → Sort r.place false true false → conflict s q r ≡ any (asks s r) (stamps s q)
    unfolding conflict marks_clash owner_clash ports_clash port_clash
    port-mark-law a b =
        rw (stamps-port q a, any-one (asks s r), asks-mark (port_cell e k) b, port-mark e k e' k' h.deep h.deep')
        (rw (a.is-port, a.is-mark, a.is-by, b.is-port, b.is-mark, b.is-by, h.up) refl)

    port-by-law : Sort q.place true false false → Sort r.place false true true → conflict s q r ≡ any (asks s r) (stamps s q)
    unfolding conflict marks_clash owner_clash ports_clash port_clash
    port-by-law a b =
        rw (stamps-port q a, any-one (asks s r), asks-by (port_cell e k) b, port-mark e k e' k' h.deep h.deep', port-owner o' e k h.deep)
        (rw (a.is-port, a.is-mark, a.is-by, b.is-port, b.is-mark, b.is-by, h.own' b.is-by, h.up) (simp or-false (or_comm (eqb e o') (leb k k' && eqb e e'))))

    mark-port-law : Sort q.place false true false → Sort r.place true false false → conflict s q r ≡ any (asks s r) (stamps s q)
    unfolding conflict marks_clash owner_clash ports_clash port_clash
    mark-port-law a b =
        rw (stamps-mark q a, any-two (asks s r), asks-port (mark_cell e k) b, mark-port e k e' k' h.deep h.deep', mark-port₂ e k e' k' h.deep h.deep', asks-port (gone_cell e) b, gone-port e e' k' h.deep', gone-port₂ e e' k' h.deep')
        (rw (a.is-port, a.is-mark, a.is-by, b.is-port, b.is-mark, b.is-by, h.down) (simp or-false))

    mark-mark-law : Sort q.place false true false → Sort r.place false true false → conflict s q r ≡ any (asks s r) (stamps s q)
    unfolding conflict marks_clash owner_clash ports_clash port_clash
    mark-mark-law a b =
        rw (stamps-mark q a, any-two (asks s r), asks-mark (mark_cell e k) b, mark-mark e k e' k' h.deep h.deep', asks-mark (gone_cell e) b, gone-mark e e' k' h.deep')
        (rw (a.is-port, a.is-mark, a.is-by, b.is-port, b.is-mark, b.is-by, h.target) (simp or-false))

    mark-by-law : Sort q.place false true false → Sort r.place false true true → conflict s q r ≡ any (asks s r) (stamps s q)
    unfolding conflict marks_clash owner_clash ports_clash port_clash
    mark-by-law a b =
        rw (stamps-mark q a, any-two (asks s r), asks-by (mark_cell e k) b, mark-mark e k e' k' h.deep h.deep', mark-owner o' e k h.deep, asks-by (gone_cell e) b, gone-mark e e' k' h.deep', gone-owner e o')
        (rw (a.is-port, a.is-mark, a.is-by, b.is-port, b.is-mark, b.is-by, h.target, h.own' b.is-by) (simp or-false))

    by-port-law : Sort q.place false true true → Sort r.place true false false → conflict s q r ≡ any (asks s r) (stamps s q)
    unfolding conflict marks_clash owner_clash ports_clash port_clash
    by-port-law a b =
        rw (stamps-by q a, any-two (asks s r), asks-port (mark_cell e k) b, mark-port e k e' k' h.deep h.deep', mark-port₂ e k e' k' h.deep h.deep', asks-port (owner_cell o) b, owner-port o e' k' h.deep', owner-port₂ o e' k' h.deep')
        (rw (a.is-port, a.is-mark, a.is-by, b.is-port, b.is-mark, b.is-by, h.own a.is-by, h.down) (simp or-false (or_comm (eqb e' o) (leb k' k && eqb e e'))))

    by-mark-law : Sort q.place false true true → Sort r.place false true false → conflict s q r ≡ any (asks s r) (stamps s q)
    unfolding conflict marks_clash owner_clash ports_clash port_clash
    by-mark-law a b =
        rw (stamps-by q a, any-two (asks s r), asks-mark (mark_cell e k) b, mark-mark e k e' k' h.deep h.deep', asks-mark (owner_cell o) b, owner-mark o e' k' h.deep')
        (rw (a.is-port, a.is-mark, a.is-by, b.is-port, b.is-mark, b.is-by, h.target, h.own a.is-by) (simp or-false))

    by-by-law : Sort q.place false true true → Sort r.place false true true → conflict s q r ≡ any (asks s r) (stamps s q)
    unfolding conflict marks_clash owner_clash ports_clash port_clash
    by-by-law a b =
        rw (stamps-by q a, any-two (asks s r), asks-by (mark_cell e k) b, mark-mark e k e' k' h.deep h.deep', mark-owner o' e k h.deep, asks-by (owner_cell o) b, owner-mark o e' k' h.deep', owner-owner o o')
        (rw (a.is-port, a.is-mark, a.is-by, b.is-port, b.is-mark, b.is-by, h.target, h.own a.is-by, h.own' b.is-by) (simp or-false (or-last (eqb e e') (eqb e' o) (eqb e o'))))

    -- Two marks or ports conflict where a cell that the one sets is a cell that the other asks.
    pub conflict-law : is_mark s q.place || is_port s q.place ≡ true → is_mark s r.place || is_port s r.place ≡ true
        → conflict s q r ≡ any (asks s r) (stamps s q)
    conflict-law x y =
        ⊎_elim
        (λ (a : Sort q.place true false false). ⊎_elim (port-port-law a) (⊎_elim (port-by-law a) (port-mark-law a)) (sorts r.place y))
        (⊎_elim
        (λ (a : Sort q.place false true true). ⊎_elim (by-port-law a) (⊎_elim (by-by-law a) (by-mark-law a)) (sorts r.place y))
        (λ (a : Sort q.place false true false). ⊎_elim (mark-port-law a) (⊎_elim (mark-by-law a) (mark-mark-law a)) (sorts r.place y)))
        (sorts q.place x)
