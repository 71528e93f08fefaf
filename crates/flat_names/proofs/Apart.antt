-- Two submodels of one definition have prefixes neither of which begins the other, and so two elements of the tree have two flat names.
-- Assumes nothing.
use mathlib.Core.Path.{◌≡◌, refl, sym, ◌∙◌}
use Prim.Native.Nat.{ℕ, zero, suc}
use mathlib.Core.Bool.{false, true≢false}
use mathlib.Core.List.{List, [], ◌∷◌, ◌++◌, map, append_assoc, append_cancel_left, head-eq_of_cons-eq, tail-eq_of_cons-eq}
use lib.ListN.{replicate}
use borrow.Author.Tests.{eq-eqb}
use Rattle.names.specs.Lists.{In, begins, last_or, joined}
use Rattle.recipe.specs.Records.{Recipe, name}
use Rattle.recipe.specs.Definitions.{elements, submodels, model_of}
use Rattle.tree.proofs.Targets.{Walk}
use Rattle.flat_names.specs.Prefixes.{prefix}

-- equal heads: a list begins another where its tail begins the other's
begins-tail : (x y : ℕ) (xs ys : List ℕ) → x ≡ y → begins (x ∷ xs) (y ∷ ys) ≡ false → begins xs ys ≡ false
begins-tail x y xs ys h e = rw (eq-eqb x y h) at e

module _ (u : ℕ) where
  -- k times u, and then anything, is no name that does not end with u and that does not begin with k times u
  runs : (k y : ℕ) (ys a b : List ℕ) → (last_or y ys ≡ u → ⊥) → begins (replicate k u) (y ∷ ys) ≡ false
      → replicate k u ++ a ≡ y ∷ ys ++ b → ⊥
  runs zero y ys a b h n e = true≢false n
  runs (suc k) y [] a b h n e = h (sym (head-eq_of_cons-eq e))
  runs (suc k) y (z ∷ zs) a b h n e =
      runs k z zs a b h (begins-tail u y (replicate k u) (z ∷ zs) (head-eq_of_cons-eq e) n) (tail-eq_of_cons-eq e)

  -- two names that do not end with u, each with some u's behind it that begin no other name: what follows them tells them apart
  pub same_name : (c d : ℕ) (n m : List ℕ) (j k : ℕ) (a b : List ℕ) → (last_or c n ≡ u → ⊥) → (last_or d m ≡ u → ⊥)
      → begins (n ++ replicate j u) m ≡ false → begins (m ++ replicate k u) n ≡ false
      → (n ++ replicate j u) ++ a ≡ (m ++ replicate k u) ++ b → n ≡ m
  same_name c d [] [] j k a b h g n m e = refl
  same_name c d [] (y ∷ ys) j k a b h g n m e = absurd (runs j y ys a (replicate k u ++ b) g n (e ∙ append_assoc (y ∷ ys) (replicate k u) b))
  same_name c d (x ∷ xs) [] j k a b h g n m e = absurd (runs k x xs b (replicate j u ++ a) h m (sym e ∙ append_assoc (x ∷ xs) (replicate j u) a))
  same_name c d (x ∷ xs) (y ∷ ys) j k a b h g n m e =
      let p : x ≡ y = head-eq_of_cons-eq e in
      let q : xs ≡ ys =
      same_name x y xs ys j k a b h g
      (begins-tail x y (xs ++ replicate j u) ys p n)
      (begins-tail y x (ys ++ replicate k u) xs (sym p) m)
      (tail-eq_of_cons-eq e) in
      cc

-- what the rule for prefixes gives of each definition
pub record Apart (s : Recipe) : Type 0 where
  pub elements-apart : (d e f : ℕ) → In e (elements s d) → In f (elements s d) → name s e ≡ name s f → e ≡ f
  pub submodels-apart : (d m n : ℕ) (a b : List ℕ) → In m (submodels s d) → In n (submodels s d) → prefix s m ++ a ≡ prefix s n ++ b → m ≡ n
  pub mixed-apart : (d e m : ℕ) (a : List ℕ) → In e (elements s d) → In m (submodels s d) → name s e ≡ prefix s m ++ a → ⊥

module _ (s : Recipe) (apart : Apart s) where
  abbrev pub name_of : List ℕ → ℕ → List ℕ
  name_of path e = joined (map (prefix s) path) ++ name s e

  split : (m : ℕ) (path : List ℕ) (e : ℕ) → name_of (m ∷ path) e ≡ prefix s m ++ name_of path e
  split m path e = append_assoc (prefix s m) (joined (map (prefix s) path)) (name s e)

  -- one flat name, one element of the tree
  pub one_name : (d : ℕ) (p q : List ℕ) (e f : ℕ) → Walk s d p e → Walk s d q f → name_of p e ≡ name_of q f → (p ≡ q) × (e ≡ f)
  one_name d [] [] e f v w h = (refl, apart.elements-apart d e f v w h)
  one_name d [] (m ∷ q) e f v w h = absurd (apart.mixed-apart d e m (name_of q f) v w.0 (h ∙ split m q f))
  one_name d (m ∷ p) [] e f v w h = absurd (apart.mixed-apart d f m (name_of p e) w v.0 (sym h ∙ split m p e))
  one_name d (m ∷ p) (n ∷ q) e f v w h =
      let h' : prefix s m ++ name_of p e ≡ prefix s n ++ name_of q f = sym (split m p e) ∙ (h ∙ split n q f) in
      let r : m ≡ n = apart.submodels-apart d m n (name_of p e) (name_of q f) v.0 w.0 h' in
      let rest = one_name (model_of s m) p q e f v.1 (rw (← r) at w.1) (append_cancel_left (prefix s m) _ _ (rw (← r) at h')) in
      let t : p ≡ q = rest.0 in
      (cc, rest.1)
