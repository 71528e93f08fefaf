-- Row 7, and the tables that the walk from main leaves.
-- Assumes nothing.
use Prim.Native.Nat.{◌*◌, ◌+◌, ◌-◌, ◌<◌, ◌≤◌, suc, zero, ℕ}
use borrow.Author.Tests.{lt-ltb, ltb-false, ltb-true}
use lib.Dec.{ltb}
use lib.ListN.{get_or-append, drop, get_or, length, length-append, length-map}
use lib.Seq.{get_or-append-add, sets, sets-eq}
use mathlib.Core.Bool.{Bool, ◌||◌, false, or-false, true}
use mathlib.Core.List.{List, [], ◌++◌, ◌∷◌, append_assoc, append-nil, map}
use mathlib.Core.Logic.{inl}
use mathlib.Core.Path.{◌∙◌, ◌≡◌, ap, refl, sym}
use native.Mathlib.Nat.{add-zero}
use native.Mathlib.Numerals.{add-one}
use native.Mathlib.Omega.{arith}
use Rattle.names.specs.Lists.{In, any, joined}
use Rattle.names.proofs.Lists.{any-in, any_some, append_left, append_right}
use Rattle.names.proofs.Tests.{both_ways, by_cases, or_left, or_right}
use Rattle.recipe.specs.Definitions.{definitions, elements, main, model_of, submodels}
use Rattle.recipe.specs.Reading.{at_start}
use Rattle.recipe.specs.Records.{Recipe, places}
use Rattle.recipe.proofs.Definitions.{in-submodels}
use Rattle.shadow.specs.Shadow.{Cell, Kept, Shadowed}
use Rattle.shadow.specs.Columns.{Measured}
use Rattle.shadow.proofs.Cells.{shadowed-over}
use Rattle.shadow.proofs.Columns.{measured-over}
use Rattle.tree.specs.Faults.{fault₇, is_too_large, most_instances, most_elements}
use Rattle.tree.specs.Numbers.{ahead, first_at, first_below, total, weight_in}
use Rattle.tree.specs.Planted.{Planted, ThreadRequires, Threaded}
use Rattle.tree.specs.Tree.{Submodels, definition_at, definition_below, instances, most_depth, nodes, paths_below, tree_elements}
use Rattle.tree.specs.Walk.{Covered, Grown, OffsetRight, deep_in, insts_in, over, rows_in, rows_over}
use Rattle.tree.proofs.Instances.{below-append, below-submodels, paths-suffice, submodels-below}
use Rattle.tree.proofs.Walks.{ahead-split, insts_at, not-deep, over-not, rows_long, rows_at, rows_under, total-append, weight_at}
use Rattle.tree.proofs.Numbering.{Shallow, joined-append, map-append, number_below, numbers, run_length, total-cong, weight-enough}

joined-total : {A : Type 0} (f : ℕ → List A) (ms : List ℕ) → length (joined (map f ms)) ≡ total (λ m. length (f m)) ms
joined-total f [] = refl
joined-total f (m ∷ ms) = omega (arith, length-append (f m) (joined (map f ms)), joined-total f ms)

map_at : {A B : Type 0} (f : A → B) (l : List A) (i : ℕ) (a : A) (b : B) → i < length l → get_or (map f l) i b ≡ f (get_or l i a)
map_at f [] i a b h = absurd (omega arith)
map_at f (x ∷ l) zero a b h = refl
map_at f (x ∷ l) (suc i) a b h = map_at f l i a b (omega arith)

module _ (s : Recipe) where
  -- ---- depth
  deep-path : (n d : ℕ) (path : List ℕ) → Submodels s d path → n < length path → deep_in n s d ≡ true
  unfolding deep_in
  deep-path zero d [] h l = absurd (omega arith)
  deep-path zero d (m ∷ path) h l = any-in (λ k. true) (submodels s d) m h.0 refl
  deep-path (suc n) d [] h l = absurd (omega arith)
  deep-path (suc n) d (m ∷ path) h l =
      any-in (λ k. deep_in n s (model_of s k)) (submodels s d) m h.0 (deep-path n (model_of s m) path h.1 (omega arith))

  path-deep : (n d : ℕ) → deep_in n s d ≡ true → (path : List ℕ) × Submodels s d path × (length path ≡ suc n)
  unfolding deep_in
  path-deep zero d e = let a = any_some (λ k. true) (submodels s d) e in (a.0 ∷ [], (a.1, tt), refl)
  path-deep (suc n) d e =
      let a = any_some (λ k. deep_in n s (model_of s k)) (submodels s d) e in
      let b = path-deep n (model_of s a.0) a.2 in
      (a.0 ∷ b.0, (a.1, b.1), ap suc b.2)

  any-deep : (n d : ℕ) → any (λ path. ltb n (length path)) (paths_below (suc n) s d) ≡ deep_in n s d
  any-deep n d =
      both_ways {a = (any (λ path. ltb n (length path)) (paths_below (suc n) s d))} {b = (deep_in n s d)}
      (λ e. let a = any_some (λ path. ltb n (length path)) (paths_below (suc n) s d) e in
      deep-path n d a.0 (below-submodels s (suc n) d a.0 a.1) (ltb-true n (length a.0) a.2))
      (λ e. let b = path-deep n d e in
      let l : length b.0 ≡ suc n = b.2 in
      any-in (λ path. ltb n (length path)) (paths_below (suc n) s d) b.0 (submodels-below s (suc n) d b.0 b.1 (omega arith)) (lt-ltb n (length b.0) (omega arith)))

  -- ---- counts
  -- the paths through the submodel m
  abbrev paths_at : ℕ → ℕ → List (List ℕ)
  paths_at n m = map (λ path. m ∷ path) (paths_below n s (model_of s m))

  paths-total : (n : ℕ) (xs : List ℕ) → ((d : ℕ) → length (paths_below n s d) ≡ insts_in n s d) → length (joined (map (paths_at n) xs)) ≡ total (insts_at s n) xs
  paths-total n xs h =
      joined-total (paths_at n) xs
      ∙ total-cong (λ m. length (paths_at n m)) (insts_at s n) xs (λ m i. length-map (paths_below n s (model_of s m)) (λ path. m ∷ path) ∙ h (model_of s m))

  insts-are : (n d : ℕ) → length (paths_below n s d) ≡ insts_in n s d
  unfolding paths_below insts_in
  insts-are zero d = refl
  insts-are (suc n) d = omega (arith, paths-total n (submodels s d) (insts-are n))

  shallow-paths : (n d : ℕ) → Shallow s n d → (path : List ℕ) → Submodels s d path → length path ≤ n
  shallow-paths n d h [] p = omega arith
  shallow-paths zero d h (m ∷ path) p = absurd (h m p.0)
  shallow-paths (suc n) d h (m ∷ path) p = let l = shallow-paths n (model_of s m) (h m p.0) path p.1 in omega arith

  -- to look deeper finds no more
  paths-enough : (n k d : ℕ) → Shallow s n d → n ≤ k → paths_below k s d ≡ paths_below n s d
  paths-enough n k d h l = paths-suffice s n k d (shallow-paths n d h) l

  shallow-more : (n d : ℕ) → Shallow s n d → Shallow s (suc n) d
  shallow-more zero d h = λ m i. absurd (h m i)
  shallow-more (suc n) d h = λ m i. shallow-more n (model_of s m) (h m i)

  tree-length : Shallow s 5 main → length (tree_elements s) ≡ weight_in 5 s main
  unfolding tree_elements nodes instances most_depth definition_at elements
  tree-length h =
      sym (length-map (tree_elements s) (λ x. 0 + number_below s main x))
      ∙ ap length (numbers s 5 0 main h (omega arith)) ∙ run_length 0 (weight_in 5 s main)

  tree-weight : Shallow s 4 main → length (tree_elements s) ≡ weight_in 4 s main
  tree-weight h = tree-length (shallow-more 4 main h) ∙ weight-enough s 4 5 main h (omega arith)

  -- row 7, by the walk's counts
  pub too_large : is_too_large s ≡ over 4 s main 0 0
  unfolding is_too_large over instances most_depth
  too_large =
      let D : any (λ path. ltb 4 (length path)) (instances s) ≡ deep_in 4 s main = any-deep 4 main in
      by_cases (deep_in 4 s main)
      (λ e.
      or_left _ _ (or_right (ltb most_instances (length (instances s))) (any (λ path. ltb 4 (length path)) (instances s)) (D ∙ e))
      ∙ sym (or_right (ltb most_instances (0 + insts_in 4 s main) || ltb most_elements (0 + weight_in 4 s main)) (deep_in 4 s main) e))
      (λ e.
      let h : Shallow s 4 main = not-deep s 4 main e in
      let a : length (instances s) ≡ 0 + insts_in 4 s main = ap length (paths-enough 4 5 main h (omega arith)) ∙ insts-are 4 main ∙ omega arith in
      let w : length (tree_elements s) ≡ 0 + weight_in 4 s main = tree-weight h ∙ omega arith in
      ap (λ (z : ℕ). ltb most_instances z || any (λ path. ltb 4 (length path)) (instances s) || ltb most_elements (length (tree_elements s))) a
      ∙ ap (λ (b : Bool). ltb most_instances (0 + insts_in 4 s main) || b || ltb most_elements (length (tree_elements s))) (D ∙ e)
      ∙ ap (λ (z : ℕ). ltb most_instances (0 + insts_in 4 s main) || false || ltb most_elements z) w
      ∙ ap (λ (b : Bool). b || ltb most_elements (0 + weight_in 4 s main)) (or-false (ltb most_instances (0 + insts_in 4 s main)))
      ∙ sym (ap (λ (b : Bool). ltb most_instances (0 + insts_in 4 s main) || ltb most_elements (0 + weight_in 4 s main) || b) e ∙ or-false (ltb most_instances (0 + insts_in 4 s main) || ltb most_elements (0 + weight_in 4 s main))))

  -- ---- the rows are those of the instances
  pub first-append : (d : ℕ) (p q : List ℕ) → first_below s d (p ++ q) ≡ first_below s d p + first_below s (definition_below s d p) q
  unfolding first_below definition_below
  first-append d [] q = omega arith
  first-append d (m ∷ p) q = omega (arith, first-append (model_of s m) p q)

  -- the paths through m, behind those through xs
  paths-at : (n m j : ℕ) (xs ys : List ℕ) → j < insts_at s n m
      → get_or (joined (map (paths_at n) (xs ++ m ∷ ys))) (total (insts_at s n) xs + j) [] ≡ m ∷ get_or (paths_below n s (model_of s m)) j []
  paths-at n m j xs ys h =
      let A = joined (map (paths_at n) xs) in
      let B = joined (map (paths_at n) ys) in
      let L : length A ≡ total (insts_at s n) xs = paths-total n xs (insts-are n) in
      let P : joined (map (paths_at n) (xs ++ m ∷ ys)) ≡ A ++ (paths_at n m ++ B) =
      ap joined (map-append (paths_at n) xs (m ∷ ys)) ∙ joined-append (map (paths_at n) xs) (map (paths_at n) (m ∷ ys)) in
      ap (λ (l : List (List ℕ)). get_or l (total (insts_at s n) xs + j) []) P
      ∙ ap (λ (z : ℕ). get_or (A ++ (paths_at n m ++ B)) (z + j) []) (sym L)
      ∙ get_or-append-add A (paths_at n m ++ B) j []
      ∙ get_or-append (paths_at n m) B [] j (omega (arith, length-map (paths_below n s (model_of s m)) (λ path. m ∷ path), insts-are n (model_of s m)))
      ∙ map_at (λ path. m ∷ path) (paths_below n s (model_of s m)) j [] [] (omega (arith, insts-are n (model_of s m)))

  -- an instance's row, by column
  abbrev six : ℕ → ℕ → ℕ → ℕ → ℕ → ℕ → ℕ
  six d k e m u c = get_or (d ∷ k ∷ e ∷ m ∷ u ∷ 0 ∷ []) c 0

  -- look gives an instance's path by its number
  module _ (look : ℕ → List ℕ) where
    -- the six numbers are those of the instance i at the path
    record InstanceRow (i : ℕ) (path : List ℕ) (f : ℕ → ℕ) : Type 0 where
      pub model : f 0 ≡ definition_below s main path
      pub depth : f 1 ≡ length path
      pub start : f 2 ≡ first_below s main path
      pub above : 0 < i → (f 4 < i) × (path ≡ look (f 4) ++ (f 3 ∷ []))

    row_same : {i j : ℕ} (p q : List ℕ) (f g : ℕ → ℕ) → i ≡ j → p ≡ q → ((c : ℕ) → c < 5 → f c ≡ g c) → InstanceRow i p f → InstanceRow j q g
    row_same p q f g a b h r =
        rw (sym a, sym b) record {
          model = sym (h 0 (omega arith)) ∙ r.model;
          depth = sym (h 1 (omega arith)) ∙ r.depth;
          start = sym (h 2 (omega arith)) ∙ r.start;
          above = rw (sym (h 3 (omega arith)), sym (h 4 (omega arith))) r.above;
        }

    -- c rows, those of the instances from i on
    abbrev InstanceRowsFrom : ℕ → ℕ → List ℕ → Type 0
    InstanceRowsFrom i c R = (j : ℕ) → j < c → InstanceRow (i + j) (look (i + j)) (λ k. get_or R (6 * j + k) 0)

    one-row : (i : ℕ) (p l : List ℕ) → look (i + 0) ≡ p → InstanceRow i p (λ c. get_or l c 0) → InstanceRowsFrom i 1 l
    one-row i p l q r zero h =
        row_same p (look (i + 0)) (λ c. get_or l c 0) (λ c. get_or l (6 * 0 + c) 0) (sym (add-zero i)) (sym q) (λ c b. ap (λ (y : ℕ). get_or l y 0) (omega arith)) r
    one-row i p l q r (suc j) h = absurd (omega arith)

    rows_join : (i a b : ℕ) (A B : List ℕ) → length A ≡ 6 * a → InstanceRowsFrom i a A → InstanceRowsFrom (i + a) b B → InstanceRowsFrom i (a + b) (A ++ B)
    rows_join i a b A B l p q j h =
        by_cases (ltb j a)
        (λ z.
        let v : j < a = ltb-true j a z in
        row_same _ _ (λ c. get_or A (6 * j + c) 0) (λ c. get_or (A ++ B) (6 * j + c) 0) refl refl (λ c k. sym (get_or-append A B 0 (6 * j + c) (omega arith))) (p j v))
        (λ z.
        let v : a ≤ j = ltb-false j a z in
        let w : i + a + (j - a) ≡ i + j = omega arith in
        row_same (look (i + a + (j - a))) (look (i + j)) (λ c. get_or B (6 * (j - a) + c) 0) (λ c. get_or (A ++ B) (6 * j + c) 0) w (ap look w)
        (λ c k.
        let y : length A + (6 * (j - a) + c) ≡ 6 * j + c = omega arith in
        sym (get_or-append-add A B (6 * (j - a) + c) 0) ∙ ap (λ (x : ℕ). get_or (A ++ B) x 0) y)
        (q (j - a) (omega arith)))

    -- those of subtrees, one after another
    over-rows : (f : ℕ → ℕ → ℕ → List ℕ) (w c : ℕ → ℕ) (e i : ℕ) (ms : List ℕ) → ((m x j : ℕ) → length (f m x j) ≡ 6 * c m)
        → ((xs ys : List ℕ) (m : ℕ) → ms ≡ xs ++ m ∷ ys → InstanceRowsFrom (i + total c xs) (c m) (f m (e + total w xs) (i + total c xs)))
        → InstanceRowsFrom i (total c ms) (rows_over f w c e i ms)
    over-rows f w c e i [] l h = λ j z. absurd (omega arith)
    over-rows f w c e i (m ∷ ms) l h =
        let first : InstanceRowsFrom i (c m) (f m e i) = rw (add-zero i, add-zero e) at (h [] ms m refl) in
        rows_join i (c m) (total c ms) (f m e i) (rows_over f w c (e + w m) (i + c m) ms) (l m e i) first
        (over-rows f w c (e + w m) (i + c m) ms l
        (λ xs ys k q.
        let a : i + c m + total c xs ≡ i + total c (m ∷ xs) = omega arith in
        let b : e + w m + total w xs ≡ e + total w (m ∷ xs) = omega arith in
        rw (a, b) (h (m ∷ xs) ys k (ap (λ (l : List ℕ). m ∷ l) q))))

    -- the submodel q of the instance i
    sub_row : (n d k e i m u q : ℕ) (pre xs ys : List ℕ) → InstanceRow i pre (six d k e m u) → look i ≡ pre → submodels s d ≡ xs ++ q ∷ ys → Shallow s (suc n) d → n ≤ 5
        → InstanceRow (suc i + total (insts_at s n) xs) (pre ++ q ∷ []) (six (model_of s q) (suc k) (e + length (elements s d) + total (weight_at s n) xs) q i)
    unfolding definition_below first_below
    sub_row n d k e i m u q pre xs ys r o t h l = record {
      model = sym (below-append s main pre (q ∷ []));
      depth = omega (arith, length-append pre (q ∷ []), r.depth);
      start = omega (
        arith,
        first-append main pre (q ∷ []),
        r.start,
        ap (λ (z : ℕ). ahead s z q) r.model,
        ahead-split s n d q xs ys t (λ x y. h x (rw t (append_left xs (q ∷ ys) x y))) l,
      );
      above = λ z. (omega arith, ap (λ (y : List ℕ). y ++ q ∷ []) (sym o));
    }

    -- the tree below the instance i
    below_rows : (n d k e i m u : ℕ) (pre : List ℕ) → Shallow s n d → n ≤ 5 → InstanceRow i pre (six d k e m u)
        → ((j : ℕ) → j < insts_in n s d → look (i + j) ≡ pre ++ get_or (paths_below n s d) j []) → InstanceRowsFrom i (insts_in n s d) (rows_in n s d k e i m u)
    unfolding rows_in insts_in paths_below
    below_rows zero d k e i m u pre h l r looks = one-row i pre (d ∷ k ∷ e ∷ m ∷ u ∷ 0 ∷ []) (looks 0 (omega arith) ∙ append-nil pre) r
    below_rows (suc n) d k e i m u pre h l r looks =
        let o : look (i + 0) ≡ pre = looks 0 (omega arith) ∙ append-nil pre in
        let S = submodels s d in
        let C = insts_at s n in
        let piece : (xs ys : List ℕ) (q : ℕ) → S ≡ xs ++ q ∷ ys
        → InstanceRowsFrom (suc i + total C xs) (C q) (rows_at s n (suc k) i q (e + length (elements s d) + total (weight_at s n) xs) (suc i + total C xs)) =
        λ xs ys q t.
        below_rows n (model_of s q) (suc k) (e + length (elements s d) + total (weight_at s n) xs) (suc i + total C xs) q i (pre ++ q ∷ [])
        (h q (rw t (append_right xs (q ∷ ys) q (inl refl)))) (omega arith)
        (sub_row n d k e i m u q pre xs ys r (ap look (sym (add-zero i)) ∙ o) t h (omega arith))
        (λ j y.
        let T : total C S ≡ total C xs + (C q + total C ys) = ap (total C) t ∙ total-append C xs (q ∷ ys) in
        let a : suc i + total C xs + j ≡ i + suc (total C xs + j) = omega arith in
        ap look a
        ∙ looks (suc (total C xs + j)) (omega arith)
        ∙ ap (λ (z : List ℕ). pre ++ get_or (joined (map (paths_at n) z)) (total C xs + j) []) t
        ∙ ap (λ (z : List ℕ). pre ++ z) (paths-at n q j xs ys y)
        ∙ sym (append_assoc pre (q ∷ []) (get_or (paths_below n s (model_of s q)) j []))) in
        let under : InstanceRowsFrom (suc i) (total C S) (rows_under s n d k e i S) =
        over-rows (rows_at s n (suc k) i) (weight_at s n) C (e + length (elements s d)) (suc i) S (λ q x j. rows_long s n (model_of s q) (suc k) x j q i) piece in
        rows_join i 1 (total C S) (d ∷ k ∷ e ∷ m ∷ u ∷ 0 ∷ []) (rows_under s n d k e i S) refl (one-row i pre (d ∷ k ∷ e ∷ m ∷ u ∷ 0 ∷ []) o r) (rw add-one under)

  -- the tables after a walk from main that goes through
  module _ (inst₀ : List ℕ) {t inst t' inst' : List ℕ} {j x : ℕ} (g : Grown s 4 main 0 0 t inst t' inst' j x) (fits : over 4 s main 0 0 ≡ false) (long : 384 ≤ length inst₀)
      (start : inst ≡ sets inst₀ 0 (main ∷ 0 ∷ 0 ∷ 0 ∷ 0 ∷ 0 ∷ [])) where
    shallow : Shallow s 4 main
    shallow = not-deep s 4 main (over-not s 4 main 0 0 fits).flat

    few : j ≤ 64
    unfolding most_instances
    few = omega (arith, g.insts, (over-not s 4 main 0 0 fits).few)

    paths-are : instances s ≡ paths_below 4 s main
    unfolding instances most_depth
    paths-are = paths-enough 4 5 main shallow (omega arith)

    count-is : j ≡ length (instances s)
    count-is = g.insts ∙ omega (arith, ap length paths-are, insts-are 4 main)

    abbrev look : ℕ → List ℕ
    look i = get_or (instances s) i []

    rows_are : inst' ≡ sets inst₀ 0 (rows_in 4 s main 0 0 0 0 0)
    unfolding most_depth
    rows_are = g.rows inst₀ 0 0 start

    row_at : (i : ℕ) → i < j → InstanceRow look i (look i) (λ c. get_or inst' (6 * i + c) 0)
    unfolding definition_below first_below
    row_at i h =
        let R = rows_in 4 s main 0 0 0 0 0 in
        let I = g.insts in
        let F = few in
        let L : length R ≡ 6 * insts_in 4 s main = rows_long s 4 main 0 0 0 0 0 in
        let z : 0 + i ≡ i = omega arith in
        let top : InstanceRow look 0 [] (six main 0 0 0 0) = record { model = refl; depth = refl; start = refl; above = λ y. absurd (omega arith) } in
        let rows = below_rows look 4 main 0 0 0 0 0 [] shallow (omega arith) top
        (λ y k. ap look (omega arith) ∙ ap (λ (l : List (List ℕ)). get_or l y []) paths-are) in
        row_same look (look (0 + i)) (look i) (λ c. get_or R (6 * i + c) 0) (λ c. get_or inst' (6 * i + c) 0) z (ap look z)
        (λ c k.
        sym (ap (λ (y : List ℕ). get_or y (6 * i + c) 0) (rows_are ∙ sets-eq R inst₀ 0 (omega arith))
        ∙ get_or-append R (drop (0 + length R) inst₀) 0 (6 * i + c) (omega arith)))
        (rows i (omega arith))

    pub elements-are : x ≡ length (tree_elements s)
    elements-are = omega (arith, g.elems, tree-weight shallow)

    covered-right : (n d : ℕ) (path : List ℕ) → Covered n s d t' → Shallow s n d → Submodels s d path → (m : ℕ) → In m (submodels s (definition_below s d path)) → OffsetRight s t' m
    unfolding Covered definition_below
    covered-right zero d [] c h p m i = absurd (h m i)
    covered-right zero d (k ∷ path) c h p m i = absurd (h k p.0)
    covered-right (suc n) d [] c h p m i = (c m i).0
    covered-right (suc n) d (k ∷ path) c h p m i = covered-right n (model_of s k) path (c k p.0).1 (h k p.0) p.1 m i

    offset_at : (path : List ℕ) → In path (instances s) → (m : ℕ) → In m (submodels s (definition_at s path)) → OffsetRight s t' m
    unfolding definition_at instances
    offset_at path i m k = covered-right 4 main path g.covers shallow (below-submodels s _ main path i) m k

    -- what is left: the cells 8 are cleared, and the instances threaded
    module _ (long' : length inst' ≡ length inst₀) {t₂ : List ℕ} (cleared : Cell (places s) 8 (λ d. 0) t₂ × Kept s (8 ∷ []) t' t₂) where
      pub thread-requires : Shadowed s t' → In main (definitions s) → ThreadRequires s t₂ inst' j
      unfolding definition_at
      thread-requires c h = record {
        shadowed = shadowed-over cleared.1 c;
        some = h;
        count = count-is;
        few = few;
        room = omega (arith, few, long');
        model = λ i l. (row_at i l).model;
        clear = cleared.0;
      }

      pub all-planted : {t₀ t₃ inst₃ : List ℕ} → Measured s t₀ → Kept s (7 ∷ []) t₀ t' → is_too_large s ≡ false → Threaded s t₂ inst' t₃ inst₃ j → Planted s t₃ inst₃ j
      unfolding definition_at first_at fault₇ at_start
      all-planted M k e T = record {
        measured = measured-over T.kept refl refl refl (measured-over cleared.1 refl refl refl (measured-over k refl refl refl M));
        row₇ = rw e;
        rows = record {
          count = count-is;
          few = few;
          room = omega (arith, few, long', T.long);
          model = λ i l. T.others i 0 (omega arith) ∙ (row_at i l).model;
          depth = λ i l. T.others i 1 (omega arith) ∙ (row_at i l).depth;
          start = λ i l. T.others i 2 (omega arith) ∙ (row_at i l).start;
          below = λ i l z. rw (T.others i 4 (omega arith)) ((row_at i l).above z).0;
          above = λ i l z. rw (T.others i 4 (omega arith), T.others i 3 (omega arith)) ((row_at i l).above z).1;
          same = T.same;
        };
        offsets = λ path i m h.
            let p = (in-submodels s (definition_at s path) m h).placed in
            T.kept.as-was m 7 p (omega arith) refl ∙ cleared.1.as-was m 7 p (omega arith) refl ∙ offset_at path i m h;
        firsts = T.firsts;
      }
