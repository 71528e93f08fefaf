-- Numbers and depths say of two marks or ports what their targets, owners and paths say.
-- Assumes nothing.
use Rattle.std.specs.Prelude.{None, Some}
use Prim.Native.Nat.{suc, ℕ}
use borrow.Author.Tests.{eq-eqb, eqb-true, le-leb, leb-true, lt-leb, ne_eqb}
use lib.Dec.{eqb, leb}
use lib.ListN.{length}
use mathlib.Core.Bool.{Bool, ◌&&◌, false, true, and-false}
use mathlib.Core.List.{List, [], ◌++◌, ◌∷◌}
use mathlib.Core.Logic.{inr}
use mathlib.Core.Path.{◌∙◌, ◌≡◌, ap, refl, sym}
use native.Mathlib.Omega.{arith}
use Rattle.names.specs.Lists.{In, begins, same}
use Rattle.names.proofs.Tests.{both_ways}
use Rattle.recipe.specs.Reading.{fault₅}
use Rattle.recipe.specs.Records.{Recipe, is_replaced_by}
use Rattle.tree.specs.Faults.{fault₇, fault₈}
use Rattle.tree.specs.Numbers.{number}
use Rattle.tree.specs.Tree.{Node, node, same_node, tree_elements}
use Rattle.tree.proofs.Instances.{depth}
use Rattle.tree.proofs.Nodes.{node-same, same-node}
use Rattle.tree.proofs.Numbering.{number-inj}
use Rattle.marks.specs.Cells.{aim_number}
use Rattle.marks.specs.Marks.{aim, aims_at, from, is_at_or_below, owner, same_aim, tree_pointers}
use Rattle.marks.proofs.Marks.{aim-in, aim-some, owner-in, pointer-placed}
use Rattle.marks.proofs.Stamps.{Related}

-- ---- two paths that lead to one
leb-suc : (a b : ℕ) → leb (suc a) (suc b) ≡ leb a b
leb-suc a b =
    both_ways {a = (leb (suc a) (suc b))} {b = (leb a b)}
    (λ e. let l = leb-true (suc a) (suc b) e in le-leb a b (omega arith)) (λ e. let l = leb-true a b e in le-leb (suc a) (suc b) (omega arith))

eqb-suc : (a b : ℕ) → eqb (suc a) (suc b) ≡ eqb a b
eqb-suc a b =
    both_ways {a = (eqb (suc a) (suc b))} {b = (eqb a b)}
    (λ e. let l = eqb-true (suc a) (suc b) e in eq-eqb a b (omega arith)) (λ e. let l = eqb-true a b e in eq-eqb (suc a) (suc b) (omega arith))

begins-depth : (p q a b : List ℕ) → p ++ a ≡ q ++ b → begins p q ≡ leb (length p) (length q)
begins-depth [] q a b e = sym (le-leb 0 (length q) (omega arith))
begins-depth (x ∷ p) [] a b e = sym (lt-leb (suc (length p)) 0 (omega arith))
begins-depth (x ∷ p) (y ∷ q) a b e =
    let h : x ≡ y = cc in
    let t : p ++ a ≡ q ++ b = cc in
    rw (eq-eqb x y h, leb-suc (length p) (length q)) (begins-depth p q a b t)

same-depth : (p q a b : List ℕ) → p ++ a ≡ q ++ b → same p q ≡ eqb (length p) (length q)
same-depth [] [] a b e = refl
same-depth [] (y ∷ q) a b e = sym (ne_eqb 0 (suc (length q)) (λ z. omega arith))
same-depth (x ∷ p) [] a b e = sym (ne_eqb (suc (length p)) 0 (λ z. omega arith))
same-depth (x ∷ p) (y ∷ q) a b e =
    let h : x ≡ y = cc in
    let t : p ++ a ≡ q ++ b = cc in
    rw (eq-eqb x y h, eqb-suc (length p) (length q)) (same-depth p q a b t)

and-cong : (a b c d : Bool) → c ≡ d → (c ≡ true → a ≡ b) → a && c ≡ b && d
and-cong a b true d e f = rw (f refl, ← e)
and-cong a b false d e f = rw (← e) (and-false a ∙ sym (and-false b))

-- the number of the target that there is
pub aimed-is : (s : Recipe) (r x : Node) → aim s r ≡ Some x → aim_number s r ≡ number s x
unfolding aim_number
aimed-is s r x e = rw (e, aim_number)

module _ (s : Recipe) (h₅ : fault₅ s ≡ None) (h₇ : fault₇ s ≡ None) (h₈ : fault₈ s ≡ None) where
  pub node-number : (x y : Node) → In x (tree_elements s) → In y (tree_elements s) → same_node x y ≡ eqb (number s x) (number s y)
  node-number x y i j =
      both_ways {a = (same_node x y)} {b = (eqb (number s x) (number s y))}
      (λ e. eq-eqb (number s x) (number s y) (ap (number s) (same-node x y e)))
      (λ e. rw (number-inj s h₇ x y i j (eqb-true (number s x) (number s y) e)) (node-same y))

  pub eqb_swap : (a b : ℕ) → eqb a b ≡ eqb b a
  eqb_swap a b =
      both_ways {a = (eqb a b)} {b = (eqb b a)} (λ e. eq-eqb b a (sym (eqb-true a b e))) (λ e. eq-eqb a b (sym (eqb-true b a e)))

  module _ (q r : Node) (a : In q (tree_pointers s)) (b : In r (tree_pointers s)) where
    target-same : same_aim s q r ≡ eqb (aim_number s q) (aim_number s r)
    unfolding same_aim aims_at
    target-same =
        let x = aim-some s h₈ q a in
        let y = aim-some s h₈ r b in
        let X = from q.path x.0 in
        let Y = from r.path y.0 in
        rw (y.1, x.1, aimed-is s q X x.1, aimed-is s r Y y.1) (node-number Y X (aim-in s h₇ r Y b y.1) (aim-in s h₇ q X a x.1) ∙ eqb_swap (number s Y) (number s X))

    -- with one target, the two paths lead to one
    paths-meet : same_aim s q r ≡ true → (t u : List ℕ) × (q.path ++ t ≡ r.path ++ u)
    unfolding same_aim aims_at from node
    paths-meet e =
        let x = aim-some s h₈ q a in
        let y = aim-some s h₈ r b in
        let X = from q.path x.0 in
        let Y = from r.path y.0 in
        let z : Y ≡ X = same-node Y X (rw (y.1, x.1) at e) in
        (x.0.path, y.0.path, ap (λ (n : Node). n.path) (sym z))

    owner-same : is_replaced_by s q.place ≡ true → aims_at s r (owner s q) ≡ eqb (aim_number s r) (number s (owner s q))
    unfolding aims_at
    owner-same e =
        let y = aim-some s h₈ r b in
        let Y = from r.path y.0 in
        rw (y.1, aimed-is s r Y y.1) (node-number (owner s q) Y (owner-in s h₅ q a (inr e)) (aim-in s h₇ r Y b y.1) ∙ eqb_swap (number s (owner s q)) (number s Y))

  module _ (q r : Node) (a : In q (tree_pointers s)) (b : In r (tree_pointers s)) where
    pub related : Related s q r
    unfolding is_at_or_below
    related = record {
      deep = depth s h₇ q.path (pointer-placed s q a).instance;
      deep' = depth s h₇ r.path (pointer-placed s r b).instance;
      target = target-same q r a b;
      own = owner-same q r a b;
      own' = owner-same r q b a;
      one = and-cong (same q.path r.path) (eqb (length q.path) (length r.path)) (same_aim s q r) (eqb (aim_number s q) (aim_number s r)) (target-same q r a b)
          (λ e. let m = paths-meet q r a b e in same-depth q.path r.path m.0 m.1 m.2);
      down = and-cong (begins r.path q.path) (leb (length r.path) (length q.path)) (same_aim s q r) (eqb (aim_number s q) (aim_number s r)) (target-same q r a b)
          (λ e. let m = paths-meet q r a b e in begins-depth r.path q.path m.1 m.0 (sym m.2));
      up = and-cong (begins q.path r.path) (leb (length q.path) (length r.path)) (same_aim s r q) (eqb (aim_number s q) (aim_number s r)) (target-same r q b a ∙ eqb_swap (aim_number s r) (aim_number s q))
          (λ e. let m = paths-meet r q b a e in begins-depth q.path r.path m.1 m.0 (sym m.2));
    }
