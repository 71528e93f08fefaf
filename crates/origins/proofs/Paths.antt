-- The way up from an instance to main: each step puts one submodel record in front of those that are there; so the origin of an element.
-- Assumes nothing.
use mathlib.Core.Path.{◌≡◌, refl, sym, ap, ◌∙◌}
use Prim.Native.Nat.{ℕ, ◌+◌, ◌*◌, ◌-◌, ◌≤◌, ◌<◌}
use native.Mathlib.Omega.{arith}
use mathlib.Core.List.{List, [], ◌∷◌, ◌++◌, append_assoc, append-nil}
use lib.ListN.{length, get_or, set, replicate, length-append, length-replicate, replicate-append-replicate}
use lib.Seq.{set_at}
use Rattle.names.specs.Lists.{padded}
use Rattle.names.proofs.Lists.{get_or-in}
use Rattle.names.proofs.Tests.{three}
use Rattle.recipe.specs.Records.{Recipe}
use Rattle.tree.specs.Planted.{InstanceRows, Planted}
use Rattle.tree.specs.Tree.{instances, most_depth, tree_elements}
use Rattle.compose.specs.Composed.{Composed}
use Rattle.tree.proofs.Instances.{depth}
use Rattle.flat_names.proofs.Filling.{main-path}
use Rattle.composer.specs.Writing.{element_at}
use Rattle.composer.proofs.ByNumber.{instance-low, path-is, record_is}
use Rattle.origins.specs.Origins.{walked_to}

no_length : (xs : List ℕ) → length xs ≡ 0 → xs ≡ []
no_length [] e = refl
no_length (x ∷ xs) e = absurd (omega arith)

-- what the loop keeps, at instance j of depth k: what is behind j on the path of i is in its place, and zeros around it
pub record PathLoop (s : Recipe) (i : ℕ) (path : List ℕ) (j k : ℕ) : Type 0 where
  pub behind : List ℕ
  pub inside : j < length (instances s)
  pub deep : k ≡ length (get_or (instances s) j [])
  pub whole : get_or (instances s) i [] ≡ get_or (instances s) j [] ++ behind
  pub filled : path ≡ replicate k 0 ++ (behind ++ replicate (4 - length (get_or (instances s) i [])) 0)

module _ {s : Recipe} {t inst : List ℕ} {n : ℕ} (P : Planted s t inst n) where
  rows : InstanceRows s inst (length (instances s))
  rows = rw P.rows.count at P.rows

  pub row_inside : {j : ℕ} → j < length (instances s) → 6 * j + 6 ≤ length inst
  row_inside l = omega (arith, rows.room)

  module _ {i : ℕ} (low : i < length (instances s)) where
    path-short : length (get_or (instances s) i []) ≤ 4
    path-short = depth s P.row₇ (get_or (instances s) i []) (get_or-in (instances s) i [] low)

    pub path-start : {k : ℕ} → k ≡ get_or inst (6 * i + 1) 0 → PathLoop s i (replicate 4 0) i k
    path-start {k} e =
        let p = get_or (instances s) i [] in
        let d : k ≡ length p = e ∙ rows.depth i low in
        let four : 4 ≡ k + (4 - length p) = omega (arith, path-short) in
        record {
          behind = [];
          inside = low;
          deep = d;
          whole = sym (append-nil p);
          filled = ap (λ (n : ℕ). replicate {A = ℕ} n 0) four ∙ sym (replicate-append-replicate k (4 - length p) 0);
        }

    module _ {path : List ℕ} {j k : ℕ} (g : PathLoop s i path j k) where
      -- no path is longer
      pub loop-depth : k ≤ 4
      loop-depth = omega (arith, g.deep, path-short, ap length g.whole, length-append (get_or (instances s) j []) g.behind)

      pub path-end : k ≤ 0 → path ≡ padded most_depth (get_or (instances s) i [])
      unfolding padded most_depth
      path-end h =
          let z : k ≡ 0 = omega arith in
          let e : get_or (instances s) i [] ≡ g.behind = g.whole ∙ ap (λ (p : List ℕ). p ++ g.behind) (no_length (get_or (instances s) j []) (sym g.deep ∙ z)) in
          g.filled ∙ rw z (ap (λ (p : List ℕ). p ++ replicate (4 - length (get_or (instances s) i [])) 0) (sym e))

      module _ (some : 0 < k) where
        -- main is at no depth
        not-main : 0 < j
        not-main = three 0 j (λ l. l) (λ z. absurd (omega (arith, g.deep, ap (λ (n : ℕ). length (get_or (instances s) n [])) z, ap length (main-path s)))) (λ l. absurd (omega arith))

        -- the instance around is an earlier one
        pub up-low : {u : ℕ} → u ≡ get_or inst (6 * j + 4) 0 → u < j
        up-low u-is = omega (arith, u-is, rows.below j g.inside not-main)

        module _ {m u : ℕ} (m-is : m ≡ get_or inst (6 * j + 3) 0) (u-is : u ≡ get_or inst (6 * j + 4) 0) where
          pub path-turn : PathLoop s i (set path (k - 1) m) u (k - 1)
          path-turn =
              let above : get_or (instances s) j [] ≡ get_or (instances s) u [] ++ (m ∷ []) = rows.above j g.inside not-main ∙ sym (rw (m-is, u-is)) in
              let zeros : List ℕ = replicate (4 - length (get_or (instances s) i [])) 0 in
              let one : replicate {A = ℕ} k 0 ≡ replicate (k - 1) 0 ++ (0 ∷ []) =
              ap (λ (n : ℕ). replicate {A = ℕ} n 0) (let e : k ≡ k - 1 + 1 = omega arith in e) ∙ sym (replicate-append-replicate (k - 1) 1 0) in
              record {
                behind = m ∷ g.behind;
                inside = omega (arith, up-low u-is, g.inside);
                deep = omega (arith, g.deep, ap length above, length-append (get_or (instances s) u []) (m ∷ []));
                whole = g.whole ∙ ap (λ (p : List ℕ). p ++ g.behind) above ∙ append_assoc (get_or (instances s) u []) (m ∷ []) g.behind;
                filled = ap (λ (p : List ℕ). set p (k - 1) m)
                    (g.filled ∙ ap (λ (p : List ℕ). p ++ (g.behind ++ zeros)) one ∙ append_assoc (replicate (k - 1) 0) (0 ∷ []) (g.behind ++ zeros))
                    ∙ set_at (replicate (k - 1) 0) 0 (g.behind ++ zeros) m (k - 1) (length-replicate (k - 1) 0);
              }

-- ---- the element of number e
module _ {s : Recipe} {t inst el : List ℕ} {insts elems : ℕ} (C : Composed s t inst el insts elems) {e : ℕ} (low : e < length (tree_elements s)) {i : ℕ} (i-is : i ≡ get_or el (5 * e + 1) 0) where
  pub its_instance : i < length (instances s)
  its_instance = instance-low C.targeted.planted.row₇ C.elements e low i-is

  pub origin-walked : {q d : ℕ} {path : List ℕ} → q ≡ get_or el (5 * e + 0) 0 → d ≡ get_or inst (6 * i + 1) 0 → path ≡ padded most_depth (get_or (instances s) i [])
      → record { number = 0; place = 0; depth = d; submodel = path; element = q } ≡ walked_to (element_at s e)
  unfolding walked_to
  origin-walked q-is d-is p-is =
      let h₇ = C.targeted.planted.row₇ in
      let is = path-is h₇ C.elements e low i-is in
      rw (d-is ∙ (rows C.targeted.planted).depth i its_instance ∙ ap length is, p-is ∙ ap (padded most_depth) is, record_is h₇ C.elements e low q-is)
