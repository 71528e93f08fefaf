-- The elements of the tree, in tree order, have the numbers 0, 1, 2 and so on.
-- Assumes nothing.
use Rattle.std.specs.Prelude.{None}
use Prim.Native.Nat.{◌+◌, ◌<◌, ◌≤◌, suc, zero, ℕ}
use lib.ListN.{length, length-map}
use mathlib.Core.List.{List, [], ◌++◌, ◌∷◌, append_assoc, append-nil, map}
use mathlib.Core.Logic.{inl, inr}
use mathlib.Core.Path.{◌∙◌, ◌≡◌, ap, refl, sym}
use native.Mathlib.Nat.{add-suc, add-zero, suc-add, zero-add}
use native.Mathlib.Omega.{arith}
use Rattle.names.specs.Lists.{In, joined}
use Rattle.names.proofs.Lists.{map_same}
use Rattle.names.proofs.ListOrder.{Rising, rising-in}
use Rattle.recipe.specs.Definitions.{elements, main, model_of, submodels}
use Rattle.recipe.specs.Records.{Recipe}
use Rattle.shadow.specs.Columns.{order, up_to}
use Rattle.shadow.proofs.Counting.{elements-rise, submodels-rise, up_to-head, up_to-tail}
use Rattle.tree.specs.Faults.{fault₇, most_elements}
use Rattle.tree.specs.Numbers.{ahead, first_at, first_below, number, run, total, weight, weight_in}
use Rattle.tree.specs.Tree.{Node, Submodels, definition_at, definition_below, instances, most_depth, node, nodes, paths_below, tree_elements}
use Rattle.tree.proofs.Instances.{at-most-four, elements-most}

-- ---- runs of numbers
pub run-append : (k a b : ℕ) → run k (a + b) ≡ run k a ++ run (k + a) b
run-append k zero b = rw (zero-add, add-zero)
run-append k (suc a) b = rw (suc-add, run-append (suc k) a b, add-suc, suc-add)

pub run_length : (k w : ℕ) → length (run k w) ≡ w
run_length k zero = refl
run_length k (suc w) = ap suc (run_length (suc k) w)

module _ {A B : Type 0} where
  pub map-append : (f : A → B) (xs ys : List A) → map f (xs ++ ys) ≡ map f xs ++ map f ys
  map-append f [] ys = refl
  map-append f (x ∷ xs) ys = ap (λ (l : List B). f x ∷ l) (map-append f xs ys)

pub total-cong : (f g : ℕ → ℕ) (xs : List ℕ) → ((a : ℕ) → In a xs → f a ≡ g a) → total f xs ≡ total g xs
total-cong f g [] h = refl
total-cong f g (x ∷ xs) h = rw (h x (inl refl), total-cong f g xs (λ a i. h a (inr i)))

-- one run for each of a rising list, each where those before it end, make one run
runs : (f : ℕ → ℕ) (k p : ℕ) (xs : List ℕ) → Rising p xs → joined (map (λ m. run (k + up_to f m xs) (f m)) xs) ≡ run k (total f xs)
runs f k p [] h = refl
runs f k p (x ∷ xs) h =
    let tail : map (λ m. run (k + up_to f m (x ∷ xs)) (f m)) xs ≡ map (λ m. run (k + f x + up_to f m xs) (f m)) xs =
    map_same (λ m. run (k + up_to f m (x ∷ xs)) (f m)) (λ m. run (k + f x + up_to f m xs) (f m)) xs
    (λ m i. ap (λ (j : ℕ). run j (f m)) (omega (arith, up_to-tail f m x xs (rising-in (suc x) xs m h.1 i)))) in
    let head : run (k + up_to f x (x ∷ xs)) (f x) ≡ run k (f x) = ap (λ (j : ℕ). run j (f x)) (omega (arith, up_to-head f x xs)) in
    ap (λ (l : List ℕ). l ++ joined (map (λ m. run (k + up_to f m (x ∷ xs)) (f m)) xs)) head
    ∙ ap (λ (l : List (List ℕ)). run k (f x) ++ joined l) tail
    ∙ ap (λ (l : List ℕ). run k (f x) ++ l) (runs f (k + f x) (suc x) xs h.1)
    ∙ sym (run-append k (f x) (total f xs))

ones : (k p : ℕ) (xs : List ℕ) → Rising p xs → map (λ e. k + up_to (λ j. 1) e xs) xs ≡ run k (length xs)
ones k p [] h = refl
ones k p (x ∷ xs) h =
    let tail : map (λ e. k + up_to (λ j. 1) e (x ∷ xs)) xs ≡ map (λ e. suc k + up_to (λ j. 1) e xs) xs =
    map_same (λ e. k + up_to (λ j. 1) e (x ∷ xs)) (λ e. suc k + up_to (λ j. 1) e xs) xs
    (λ e i. omega (arith, up_to-tail (λ j. 1) e x xs (rising-in (suc x) xs e h.1 i))) in
    let head : k + up_to (λ j. 1) x (x ∷ xs) ≡ k = omega (arith, up_to-head (λ j. 1) x xs) in
    ap (λ (j : ℕ). j ∷ map (λ e. k + up_to (λ j. 1) e (x ∷ xs)) xs) head
    ∙ ap (λ (l : List ℕ). k ∷ l) (tail ∙ ones (suc k) (suc x) xs h.1)

-- ---- joined lists, piece by piece
pub joined-append : {A : Type 0} (ls ks : List (List A)) → joined (ls ++ ks) ≡ joined ls ++ joined ks
joined-append [] ks = refl
joined-append (l ∷ ls) ks = rw (joined-append ls ks) (sym (append_assoc l (joined ls) (joined ks)))

module _ {A B C : Type 0} (g : B → C) (F : A → List B) where
  over-append : (xs ys : List A) → map g (joined (map F (xs ++ ys))) ≡ map g (joined (map F xs)) ++ map g (joined (map F ys))
  over-append xs ys = rw (map-append F xs ys, joined-append (map F xs) (map F ys), map-append g (joined (map F xs)) (joined (map F ys)))

  pieces : (sub : ℕ → List A) (h : ℕ → List C) (ms : List ℕ) → ((m : ℕ) → In m ms → map g (joined (map F (sub m))) ≡ h m)
      → map g (joined (map F (joined (map sub ms)))) ≡ joined (map h ms)
  pieces sub h [] e = refl
  pieces sub h (m ∷ ms) e = rw (over-append (sub m) (joined (map sub ms)), e m (inl refl), pieces sub h ms (λ k i. e k (inr i)))

  shift : {D : Type 0} (c : D → A) (g' : B → C) (F' : D → List B) (ps : List D) → ((p : D) → map g (F (c p)) ≡ map g' (F' p))
      → map g (joined (map F (map c ps))) ≡ map g' (joined (map F' ps))
  shift c g' F' [] e = refl
  shift c g' F' (p ∷ ps) e =
      rw (map-append g (F (c p)) (joined (map F (map c ps))), map-append g' (F' p) (joined (map F' ps)), e p, shift c g' F' ps e)

map-map-eq : {A B C : Type 0} (g g' : B → C) (a b : A → B) (xs : List A) → ((x : A) → g (a x) ≡ g' (b x)) → map g (map a xs) ≡ map g' (map b xs)
map-map-eq g g' a b [] h = refl
map-map-eq g g' a b (x ∷ xs) h = rw (h x, map-map-eq g g' a b xs h)

map-map-to : {A B C : Type 0} (g : B → C) (a : A → B) (b : A → C) (xs : List A) → ((x : A) → g (a x) ≡ b x) → map g (map a xs) ≡ map b xs
map-map-to g a b [] h = refl
map-map-to g a b (x ∷ xs) h = rw (h x, map-map-to g a b xs h)

-- ---- the tree
module _ (s : Recipe) where
  -- no path of submodels from d has more than n
  abbrev pub Shallow : ℕ → ℕ → Type 0
  Shallow zero d = (m : ℕ) → In m (submodels s d) → ⊥
  Shallow (suc n) d = (m : ℕ) → In m (submodels s d) → Shallow n (model_of s m)

  pub shallow : (n d : ℕ) → ((p : List ℕ) → Submodels s d p → length p ≤ n) → Shallow n d
  shallow zero d h = λ m i. let l = h (m ∷ []) (i, tt) in omega arith
  shallow (suc n) d h = λ m i. shallow n (model_of s m) (λ p k. let l = h (m ∷ p) (i, k) in omega arith)

  none-total : (f : ℕ → ℕ) (xs : List ℕ) → ((m : ℕ) → In m xs → ⊥) → total f xs ≡ 0
  none-total f [] h = refl
  none-total f (x ∷ xs) h = absurd (h x (inl refl))

  -- to look deeper finds no more
  pub weight-enough : (n k d : ℕ) → Shallow n d → n ≤ k → weight_in k s d ≡ weight_in n s d
  unfolding weight_in
  weight-enough zero zero d h l = refl
  weight-enough zero (suc k) d h l = omega (arith, none-total (λ m. weight_in k s (model_of s m)) (submodels s d) h)
  weight-enough (suc n) zero d h l = absurd (omega arith)
  weight-enough (suc n) (suc k) d h l =
      ap (λ (j : ℕ). length (elements s d) + j)
      (total-cong (λ m. weight_in k s (model_of s m)) (λ m. weight_in n s (model_of s m)) (submodels s d) (λ m i. weight-enough n k (model_of s m) (h m i) (omega arith)))

  pub weight_is : (n d : ℕ) → Shallow n d → n ≤ 5 → weight s d ≡ weight_in n s d
  unfolding weight most_depth
  weight_is n d h l = weight-enough n 5 d h l

  -- the elements of one instance, and of the tree below an instance of d
  abbrev elements_at : ℕ → List ℕ → List Node
  elements_at d path = map (node path) (elements s (definition_below s d path))

  abbrev pub tree_below : ℕ → ℕ → List Node
  tree_below n d = joined (map (elements_at d) (paths_below n s d))

  abbrev pub number_below : ℕ → Node → ℕ
  number_below d x = first_below s d x.path + order s (definition_below s d x.path) x.place

  own-numbers : (k d : ℕ) → map (λ x. k + number_below d x) (elements_at d []) ≡ run k (length (elements s d))
  unfolding first_below definition_below order node
  own-numbers k d =
      map-map-to (λ x. k + number_below d x) (node []) (λ e. k + up_to (λ j. 1) e (elements s d)) (elements s d) (λ e. omega arith)
      ∙ ones k 0 (elements s d) (elements-rise s d)

  below-numbers : (k d m : ℕ) (ps : List (List ℕ)) → map (λ x. k + number_below d x) (joined (map (elements_at d) (map (λ p. m ∷ p) ps)))
      ≡ map (λ x. k + ahead s d m + number_below (model_of s m) x) (joined (map (elements_at (model_of s m)) ps))
  unfolding first_below definition_below node
  below-numbers k d m ps =
      shift (λ x. k + number_below d x) (elements_at d) (λ p. m ∷ p) (λ x. k + ahead s d m + number_below (model_of s m) x) (elements_at (model_of s m)) ps
      (λ p. map-map-eq (λ x. k + number_below d x) (λ x. k + ahead s d m + number_below (model_of s m) x) (node (m ∷ p)) (node p)
      (elements s (definition_below s (model_of s m) p)) (λ e. omega arith))

  -- the elements of the tree below, in tree order, have their numbers in order
  pub numbers : (n k d : ℕ) → Shallow n d → n ≤ 5 → map (λ x. k + number_below d x) (tree_below n d) ≡ run k (weight_in n s d)
  unfolding paths_below weight_in ahead
  numbers zero k d h l =
      map-append (λ x. k + number_below d x) (elements_at d []) [] ∙ append-nil _ ∙ own-numbers k d
  numbers (suc n) k d h l =
      let w : ℕ → ℕ = λ m. weight s (model_of s m) in
      let a : ℕ = length (elements s d) in
      let sub : ℕ → List (List ℕ) = λ m. map (λ path. m ∷ path) (paths_below n s (model_of s m)) in
      let piece : (m : ℕ) → In m (submodels s d) → map (λ x. k + number_below d x) (joined (map (elements_at d) (sub m))) ≡ run (k + a + up_to w m (submodels s d)) (w m) =
      λ m i.
      below-numbers k d m (paths_below n s (model_of s m))
      ∙ numbers n (k + ahead s d m) (model_of s m) (h m i) (omega arith)
      ∙ ap (λ (j : ℕ). run (k + ahead s d m) j) (sym (weight_is n (model_of s m) (h m i) (omega arith)))
      ∙ ap (λ (j : ℕ). run j (w m)) (omega arith) in
      map-append (λ x. k + number_below d x) (elements_at d []) (joined (map (elements_at d) (joined (map sub (submodels s d)))))
      ∙ ap (λ (y : List ℕ). y ++ map (λ x. k + number_below d x) (joined (map (elements_at d) (joined (map sub (submodels s d)))))) (own-numbers k d)
      ∙ ap (λ (y : List ℕ). run k a ++ y)
      (pieces (λ x. k + number_below d x) (elements_at d) sub (λ m. run (k + a + up_to w m (submodels s d)) (w m)) (submodels s d) piece
      ∙ runs w (k + a) 0 (submodels s d) (submodels-rise s d)
      ∙ ap (run (k + a)) (total-cong w (λ m. weight_in n s (model_of s m)) (submodels s d) (λ m i. weight_is n (model_of s m) (h m i) (omega arith))))
      ∙ sym (run-append k a (total (λ m. weight_in n s (model_of s m)) (submodels s d)))

-- ---- what follows from numbers in order
module _ {A : Type 0} (f : A → ℕ) where
  run-bounds : (l : List A) (k w : ℕ) (x : A) → map f l ≡ run k w → In x l → (k ≤ f x) × (f x < k + w)
  run-bounds [] k w x e i = absurd i
  run-bounds (a ∷ l) k zero x e i = absurd (let z : ◌≡◌ {A = ℕ} 0 1 = cc in omega arith)
  run-bounds (a ∷ l) k (suc w) x e (inl p) =
      let q : f a ≡ k = cc in
      let r : f x ≡ f a = ap f p in (omega arith, omega arith)
  run-bounds (a ∷ l) k (suc w) x e (inr i) =
      let t : map f l ≡ run (suc k) w = cc in
      let b = run-bounds l (suc k) w x t i in (omega arith, omega arith)

  run-inj : (l : List A) (k w : ℕ) (x y : A) → map f l ≡ run k w → In x l → In y l → f x ≡ f y → x ≡ y
  run-inj [] k w x y e i j q = absurd i
  run-inj (a ∷ l) k zero x y e i j q = absurd (let z : ◌≡◌ {A = ℕ} 0 1 = cc in omega arith)
  run-inj (a ∷ l) k (suc w) x y e (inl p) (inl p') q = p ∙ sym p'
  run-inj (a ∷ l) k (suc w) x y e (inl p) (inr j) q =
      let h : f a ≡ k = cc in
      let t : map f l ≡ run (suc k) w = cc in
      let b = run-bounds l (suc k) w y t j in
      let r : f x ≡ f a = ap f p in absurd (omega arith)
  run-inj (a ∷ l) k (suc w) x y e (inr i) (inl p) q =
      let h : f a ≡ k = cc in
      let t : map f l ≡ run (suc k) w = cc in
      let b = run-bounds l (suc k) w x t i in
      let r : f y ≡ f a = ap f p in absurd (omega arith)
  run-inj (a ∷ l) k (suc w) x y e (inr i) (inr j) q =
      let t : map f l ≡ run (suc k) w = cc in
      run-inj l (suc k) w x y t i j q

module _ (s : Recipe) (h₇ : fault₇ s ≡ None) where
  pub shallow-main : Shallow s 5 main
  shallow-main = shallow s 5 main (λ p h. let l = at-most-four s h₇ p h in omega arith)

  -- "tree order": the elements of the tree are numbered in it
  pub tree-numbers : map (number s) (tree_elements s) ≡ run 0 (weight s main)
  unfolding tree_elements nodes instances most_depth number first_at definition_at elements weight
  tree-numbers =
      map_same (number s) (λ x. 0 + number_below s main x) (tree_elements s) (λ x i. omega arith)
      ∙ numbers s 5 0 main shallow-main (omega arith)

  pub number-inj : (x y : Node) → In x (tree_elements s) → In y (tree_elements s) → number s x ≡ number s y → x ≡ y
  number-inj x y i j e = run-inj (number s) (tree_elements s) 0 (weight s main) x y tree-numbers i j e

  -- row 7: each number is below 1,024
  pub weight-few : weight s main ≤ 1024
  unfolding most_elements
  weight-few =
      let l : length (map (number s) (tree_elements s)) ≡ length (tree_elements s) = length-map (tree_elements s) (number s) in
      let r : length (map (number s) (tree_elements s)) ≡ length (run 0 (weight s main)) = ap length tree-numbers in
      omega (arith, elements-most s h₇, run_length 0 (weight s main))

  pub number-few : (x : Node) → In x (tree_elements s) → number s x < 1024
  number-few x i = let b = run-bounds (number s) (tree_elements s) 0 (weight s main) x tree-numbers i in omega (arith, weight-few)
