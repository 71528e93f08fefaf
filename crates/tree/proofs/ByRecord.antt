-- The nodes of one record are those of the instances of its definition.
-- Assumes nothing.
use Prim.Native.Nat.{ℕ}
use borrow.Author.Tests.{eq-eqb, eqb-true}
use lib.Dec.{eqb}
use mathlib.Core.Bool.{Bool, ◌&&◌, false, not, true}
use mathlib.Core.List.{List}
use mathlib.Core.Path.{◌∙◌, ◌≡◌, ap, refl, sym}
use Rattle.names.specs.Lists.{In, any}
use Rattle.names.proofs.Lists.{any-in, keep-in, any_none, any_some}
use Rattle.names.proofs.Tests.{and_left, and_right, both, both_ways, by_cases, not-both}
use Rattle.recipe.specs.Definitions.{holder, records_of}
use Rattle.recipe.specs.Records.{Recipe, is_model, places}
use Rattle.tree.specs.Tree.{Node, definition_at, instances, node, nodes}
use Rattle.tree.proofs.Nodes.{in-nodes, node-holder, nodes-in}

module _ (s : Recipe) (t : ℕ → Bool) where
  in-definition : (d p : ℕ) → In p (places s) → is_model s p ≡ false → holder s p ≡ d → In p (records_of s d)
  unfolding records_of
  in-definition d p i m h =
      keep-in (λ q. not (is_model s q) && eqb (holder s q) d) (places s) p i (both (ap not m) (eq-eqb (holder s p) d h))

  pub node_in : (p : ℕ) (path : List ℕ) → In p (places s) → is_model s p ≡ false → t p ≡ true → In path (instances s)
      → definition_at s path ≡ holder s p → In (node path p) (nodes s t)
  unfolding node
  node_in p path i m k j h =
      nodes-in s t (node path p) (record { instance = j; inside = in-definition (definition_at s path) p i m (sym h); passes = k })

  -- to look at all nodes of a record is to look at the instances of its definition
  pub by-record : (p : ℕ) → In p (places s) → is_model s p ≡ false → t p ≡ true → (f : Node → Bool)
      → any (λ r. eqb r.place p && f r) (nodes s t) ≡ any (λ path. eqb (definition_at s path) (holder s p) && f (node path p)) (instances s)
  unfolding node
  by-record p i m k f =
      both_ways {a = any (λ r. eqb r.place p && f r) (nodes s t)} {b = any (λ path. eqb (definition_at s path) (holder s p) && f (node path p)) (instances s)}
      (λ e.
      let r = any_some (λ x. eqb x.place p && f x) (nodes s t) e in
      let h = in-nodes s t r.0 r.1 in
      let same : r.0.place ≡ p = eqb-true r.0.place p (and_left (eqb r.0.place p) _ r.2) in
      let it : r.0 ≡ node r.0.path p = λ z. record { path = r.0.path; place = same z } in
      any-in (λ path. eqb (definition_at s path) (holder s p) && f (node path p)) (instances s) r.0.path h.instance
      (both (eq-eqb (definition_at s r.0.path) (holder s p) (sym (node-holder s h) ∙ ap (holder s) same)) (sym (ap f it) ∙ and_right (eqb r.0.place p) _ r.2)))
      (λ e.
      let w = any_some (λ path. eqb (definition_at s path) (holder s p) && f (node path p)) (instances s) e in
      let d = eqb-true (definition_at s w.0) (holder s p) (and_left (eqb (definition_at s w.0) (holder s p)) _ w.2) in
      any-in (λ r. eqb r.place p && f r) (nodes s t) (node w.0 p) (node_in p w.0 i m k w.1 d)
      (both (eq-eqb p p refl) (and_right (eqb (definition_at s w.0) (holder s p)) _ w.2)))

  -- a record that fails the test has none
  pub by-none : (p : ℕ) → t p ≡ false → (f : Node → Bool) → any (λ r. eqb r.place p && f r) (nodes s t) ≡ false
  by-none p k f =
      any_none (λ r. eqb r.place p && f r) (nodes s t)
      (λ r i. by_cases (eqb r.place p)
      (λ e. not-both (in-nodes s t r i).passes (rw (eqb-true r.place p e) k))
      (λ e. rw e))
