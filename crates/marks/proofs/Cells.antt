-- The cells of an element: which stamps lie among the cells that are asked.
-- Assumes nothing.
use Prim.Native.Nat.{◌*◌, ◌+◌, ◌-◌, ◌<◌, ◌≤◌, ℕ}
use borrow.Author.Tests.{eq-eqb, eqb-true, le-leb, leb-true, lt-ltb, ltb-true}
use lib.Dec.{eqb, leb, ltb}
use mathlib.Core.Bool.{Bool, ◌&&◌, false, false≢true, true}
use mathlib.Core.Path.{◌≡◌}
use native.Mathlib.Omega.{arith}
use Rattle.names.proofs.Tests.{and_left, and_right, both, both_ways}
use Rattle.marks.specs.Cells.{gone_cell, mark_cell, owner_cell, port_cell, within}

pub within-is : (a n c : ℕ) (b : Bool) → (b ≡ true → (a ≤ c) × (c < a + n)) → (a ≤ c → c < a + n → b ≡ true) → within a n c ≡ b
unfolding within
within-is a n c b f g =
    both_ways {a = (leb a c && ltb c (a + n))} {b = b}
    (λ e. g (leb-true a c (and_left (leb a c) _ e)) (ltb-true c (a + n) (and_right (leb a c) _ e)))
    (λ e. both (le-leb a c (f e).0) (lt-ltb c (a + n) (f e).1))

-- what follows: e and k are a target's number and its record's depth, o an owner's number; those of the record that asks have a prime
module _ (e k e' k' : ℕ) (h : k ≤ 4) (h' : k' ≤ 4) where
  -- a mark asks
  pub mark-mark : within (12 * e') (7 + k') (mark_cell e k) ≡ eqb e e'
  unfolding mark_cell
  mark-mark =
      within-is (12 * e') (7 + k') (12 * e + (5 - k)) (eqb e e')
      (λ t. let q : e ≡ e' = eqb-true e e' t in (omega arith, omega arith)) (λ x y. eq-eqb e e' (omega arith))

  pub port-mark : within (12 * e') (7 + k') (port_cell e k) ≡ leb k k' && eqb e e'
  unfolding port_cell
  port-mark =
      within-is (12 * e') (7 + k') (12 * e + (6 + k)) (leb k k' && eqb e e')
      (λ t.
      let q : e ≡ e' = eqb-true e e' (and_right (leb k k') _ t) in
      let l : k ≤ k' = leb-true k k' (and_left (leb k k') _ t) in
      (omega arith, omega arith))
      (λ x y. both (le-leb k k' (omega arith)) (eq-eqb e e' (omega arith)))

  -- a port asks
  pub mark-port : within (12 * e') (6 - k') (mark_cell e k) ≡ leb k' k && eqb e e'
  unfolding mark_cell
  mark-port =
      within-is (12 * e') (6 - k') (12 * e + (5 - k)) (leb k' k && eqb e e')
      (λ t.
      let q : e ≡ e' = eqb-true e e' (and_right (leb k' k) _ t) in
      let l : k' ≤ k = leb-true k' k (and_left (leb k' k) _ t) in
      (omega arith, omega arith))
      (λ x y. both (le-leb k' k (omega arith)) (eq-eqb e e' (omega arith)))

  pub port-port : within (12 * e') (6 - k') (port_cell e k) ≡ false
  unfolding port_cell
  port-port =
      within-is (12 * e') (6 - k') (12 * e + (6 + k)) false
      (λ t. absurd (false≢true t)) (λ x y. absurd (omega arith))

  pub mark-port₂ : within (port_cell e' k') 1 (mark_cell e k) ≡ false
  unfolding mark_cell port_cell
  mark-port₂ =
      within-is (12 * e' + (6 + k')) 1 (12 * e + (5 - k)) false
      (λ t. absurd (false≢true t)) (λ x y. absurd (omega arith))

  pub port-port₂ : within (port_cell e' k') 1 (port_cell e k) ≡ eqb k k' && eqb e e'
  unfolding port_cell
  port-port₂ =
      within-is (12 * e' + (6 + k')) 1 (12 * e + (6 + k)) (eqb k k' && eqb e e')
      (λ t.
      let q : e ≡ e' = eqb-true e e' (and_right (eqb k k') _ t) in
      let l : k ≡ k' = eqb-true k k' (and_left (eqb k k') _ t) in
      (omega arith, omega arith))
      (λ x y. both (eq-eqb k k' (omega arith)) (eq-eqb e e' (omega arith)))

module _ (o e k : ℕ) (h : k ≤ 4) where
  -- an owner's stamp
  pub owner-mark : within (12 * e) (7 + k) (owner_cell o) ≡ eqb e o
  unfolding owner_cell
  owner-mark =
      within-is (12 * e) (7 + k) (12 * o) (eqb e o)
      (λ t. let q : e ≡ o = eqb-true e o t in (omega arith, omega arith)) (λ x y. eq-eqb e o (omega arith))

  pub owner-port : within (12 * e) (6 - k) (owner_cell o) ≡ eqb e o
  unfolding owner_cell
  owner-port =
      within-is (12 * e) (6 - k) (12 * o) (eqb e o)
      (λ t. let q : e ≡ o = eqb-true e o t in (omega arith, omega arith)) (λ x y. eq-eqb e o (omega arith))

  pub owner-port₂ : within (port_cell e k) 1 (owner_cell o) ≡ false
  unfolding owner_cell port_cell
  owner-port₂ =
      within-is (12 * e + (6 + k)) 1 (12 * o) false
      (λ t. absurd (false≢true t)) (λ x y. absurd (omega arith))

  -- an owner asks
  pub mark-owner : within (12 * o + 1) 10 (mark_cell e k) ≡ eqb e o
  unfolding mark_cell
  mark-owner =
      within-is (12 * o + 1) 10 (12 * e + (5 - k)) (eqb e o)
      (λ t. let q : e ≡ o = eqb-true e o t in (omega arith, omega arith)) (λ x y. eq-eqb e o (omega arith))

  pub port-owner : within (12 * o + 1) 10 (port_cell e k) ≡ eqb e o
  unfolding port_cell
  port-owner =
      within-is (12 * o + 1) 10 (12 * e + (6 + k)) (eqb e o)
      (λ t. let q : e ≡ o = eqb-true e o t in (omega arith, omega arith)) (λ x y. eq-eqb e o (omega arith))

-- a deletion's or replacement's own cell is asked by none
module _ (e : ℕ) where
  pub gone-mark : (e' k' : ℕ) → k' ≤ 4 → within (12 * e') (7 + k') (gone_cell e) ≡ false
  unfolding gone_cell
  gone-mark e' k' h = within-is (12 * e') (7 + k') (12 * e + 11) false (λ t. absurd (false≢true t)) (λ x y. absurd (omega arith))

  pub gone-port : (e' k' : ℕ) → k' ≤ 4 → within (12 * e') (6 - k') (gone_cell e) ≡ false
  unfolding gone_cell
  gone-port e' k' h = within-is (12 * e') (6 - k') (12 * e + 11) false (λ t. absurd (false≢true t)) (λ x y. absurd (omega arith))

  pub gone-port₂ : (e' k' : ℕ) → k' ≤ 4 → within (port_cell e' k') 1 (gone_cell e) ≡ false
  unfolding gone_cell port_cell
  gone-port₂ e' k' h = within-is (12 * e' + (6 + k')) 1 (12 * e + 11) false (λ t. absurd (false≢true t)) (λ x y. absurd (omega arith))

  pub gone-owner : (o : ℕ) → within (12 * o + 1) 10 (gone_cell e) ≡ false
  unfolding gone_cell
  gone-owner o = within-is (12 * o + 1) 10 (12 * e + 11) false (λ t. absurd (false≢true t)) (λ x y. absurd (omega arith))

pub owner-owner : (o o' : ℕ) → within (12 * o' + 1) 10 (owner_cell o) ≡ false
unfolding owner_cell
owner-owner o o' =
    within-is (12 * o' + 1) 10 (12 * o) false
    (λ t. absurd (false≢true t)) (λ x y. absurd (omega arith))

pub nothing-within : (c : ℕ) → within 0 0 c ≡ false
nothing-within c = within-is 0 0 c false (λ t. absurd (false≢true t)) (λ x y. absurd (omega arith))
