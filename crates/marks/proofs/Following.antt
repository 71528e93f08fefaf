-- A `for` over the instances of the definition that the record at p stands in: W is said of the records before p, and of this one in the instances before the next.
-- Assumes nothing.
use Rattle.std.specs.Prelude.{None, Some}
use Prim.Native.Nat.{◌+◌, ◌<◌, ℕ}
use lib.ListN.{get_or}
use lib.Dec.{eqb}
use mathlib.Core.Bool.{Bool, ◌&&◌, false, true}
use mathlib.Core.List.{List}
use mathlib.Core.Logic.{◌⊎◌}
use mathlib.Core.Path.{◌≡◌, refl, subst}
use Rattle.names.specs.Lists.{In, any}
use Rattle.recipe.specs.Definitions.{holder}
use Rattle.recipe.specs.Records.{Recipe, is_model, next, places}
use Rattle.tree.specs.declared.InstancesOf.{InstancesOf}
use Rattle.tree.specs.Steps.{StepFits, StepsTo, cell_of, next_of}
use Rattle.tree.specs.Tree.{Node, node, nodes}
use Rattle.tree.proofs.Steps.{Follows, follow-end, follow-fits, follow-start, follow-step}
use Rattle.targets.specs.Targeted.{Targeted}
use Rattle.marks.proofs.Threads.{Along, Done, Holds, begin, finish, found-one, path, seek-end, seek-start, seek-turn, this-in, turn}

pub record Following (s : Recipe) (inst : List ℕ) (p : ℕ) (W : (Node → Type 0) → Type 0) (a : InstancesOf) : Type 0 where
  pub follows : Follows inst a
  pub along : Along s p W (cell_of a.next)

-- a search: of this record f is false in those instances
abbrev pub Seeks : Recipe → List ℕ → (ℕ → Bool) → ℕ → (Node → Bool) → InstancesOf → Type 0
Seeks s inst test p f a = Following s inst p (λ D. (q : Node) → In q (nodes s test) → q.place ≡ p → D q → f q ≡ false) a

-- what `InstancesOf::record` gives
abbrev Made : List ℕ → List ℕ → ℕ → InstancesOf → Type 0
Made t inst p a = (a.rows.now ≡ inst) × (a.next ≡ next_of (get_or t (get_or t (p + 0) 0 + 8) 0))

module _ {s : Recipe} {t inst : List ℕ} {insts : ℕ} (T : Targeted s t inst insts) (p : ℕ) (here : In p (places s)) where
  -- what the loop requires
  pub follows-fits : {made a : InstancesOf} → Made t inst p made → a ≡ made → StepFits a
  follows-fits m e = follow-fits T.planted p here (follow-start m e)

  -- a step gives an instance of the definition
  pub follows-holds : {W : (Node → Type 0) → Type 0} {a b : InstancesOf} {i : ℕ} → Following s inst p W a → StepsTo a (Some i) b → Holds s (holder s p) i
  follows-holds g e = let z = follow-step g.follows e in rw z.number (g.along.0.holds z.some)

  -- ---- W is carried on
  module _ (test : ℕ → Bool) (W : (Node → Type 0) → Type 0)
      (same : (D E : Node → Type 0) → ((q : Node) → In q (nodes s test) → E q → D q) → ((q : Node) → In q (nodes s test) → D q → E q) → W D → W E) where
    pub follow-first : {made a : InstancesOf} → Made t inst p made → a ≡ made → W (λ q. q.place < p) → Following s inst p W a
    follow-first m e w = let o = follow-start m e in record { follows = o.0; along = rw o.1 (begin T test W same p here refl refl w) }

    -- from the statement U, that holds before the turn
    pub follow-on : {U : (Node → Type 0) → Type 0} {a b : InstancesOf} {i : ℕ} → Following s inst p U a → StepsTo a (Some i) b
        → (U (Done s p i) → W (λ q. Done s p i q ⊎ (q ≡ node (path s i) p))) → Following s inst p W b
    follow-on {U} g e f =
        let z = follow-step g.follows e in
        record {
          follows = z.follows;
          along = turn T test W same p here U g.along z.some z.on (subst (λ (k : ℕ). U (Done s p k) → W (λ q. Done s p k q ⊎ (q ≡ node (path s k) p))) z.number f);
        }

    pub follow-last : {a b : InstancesOf} → Following s inst p W a → StepsTo a None b → W (λ q. q.place < next s p)
    follow-last g e = finish T test W same p here g.along (follow-end e)

  -- ---- the search goes on
  module _ (test : ℕ → Bool) (f : Node → Bool) where
    pub seeks-first : {made a : InstancesOf} → Made t inst p made → a ≡ made → Seeks s inst test p f a
    seeks-first m e = let o = follow-start m e in record { follows = o.0; along = rw o.1 (seek-start T test p here f refl refl) }

    pub seeks-on : {a b : InstancesOf} (i : ℕ) → Seeks s inst test p f a → StepsTo a (Some i) b → f (node (path s i) p) ≡ false → Seeks s inst test p f b
    seeks-on i g e h =
        let z = follow-step g.follows e in
        record { follows = z.follows; along = seek-turn T test p here f g.along z.some z.on (subst (λ (k : ℕ). f (node (path s k) p) ≡ false) z.number h) }

    -- it has found one
    pub seeks-hit : {a b : InstancesOf} (i : ℕ) → is_model s p ≡ false → test p ≡ true → Seeks s inst test p f a → StepsTo a (Some i) b → f (node (path s i) p) ≡ true
        → any (λ r. eqb r.place p && f r) (nodes s test) ≡ true
    unfolding node
    seeks-hit i n k g e h = found-one s test p f (node (path s i) p) (this-in s test p i here n k (follows-holds g e)) refl h

    pub seeks-last : {a b : InstancesOf} → Seeks s inst test p f a → StepsTo a None b → any (λ r. eqb r.place p && f r) (nodes s test) ≡ false
    seeks-last g e = seek-end T test p here f g.along (follow-end e)
