-- What is in a definition: its records, its holder, and what a look-up by name finds.
-- Assumes nothing.
use Rattle.std.specs.Prelude.{Some}
use mathlib.Core.Path.{◌≡◌, refl}
use mathlib.Core.Logic.{inl, ⊎_elim}
use Prim.Native.Nat.{ℕ, zero, suc, ◌+◌, ◌≤◌, ◌<◌}
use native.Mathlib.Omega.{arith}
use mathlib.Core.Bool.{Bool, true, false, not, ◌&&◌}
use mathlib.Core.List.{List}
use lib.ListN.{length, take, drop, length-take}
use lib.Dec.{eqb, leb}
use borrow.Author.Tests.{eqb-true, leb-true, leb-false, le-leb}
use Rattle.names.specs.Lists.{In, keep, same}
use Rattle.names.specs.Names.{text, field_at, is_blank, non_zero}
use Rattle.names.proofs.Tests.{by_cases, by-option, and_right, not_none}
use Rattle.names.proofs.Lists.{in-keep, keep-in, some_first, last-in, same_true, while-length}
use Rattle.names.proofs.ListOrder.{Rising, keep-rising, last-greatest}
use Rattle.recipe.specs.Records.{Recipe, places, places_from, is_readable, is_model, is_element, is_port, is_submodel, field, first_field, name, model_field}
use Rattle.recipe.specs.Definitions.{main, definitions, holder, records_of, elements, submodels, ports, named, definition_named, element_named, submodel_named, port_named, model_of, element_in}
use Rattle.recipe.proofs.Reading.{first-model, places-rise}

module _ (s : Recipe) where
  -- a name is no longer than its field
  pub name-short : (p : ℕ) → length (name s p) ≤ s.width
  unfolding name text first_field field field_at
  name-short p =
      let f : List ℕ = take s.width (drop (p + 1 + 0) s.bytes) in
      omega (arith, while-length non_zero f, length-take s.width (drop (p + 1 + 0) s.bytes))

  -- ---- what a definition holds
  pub in-records : (d p : ℕ) → In p (records_of s d) → In p (places s) × (holder s p ≡ d)
  unfolding records_of
  in-records d p i =
      let r = in-keep (λ p'. not (is_model s p') && eqb (holder s p') d) (places s) p i in
      (r.0, eqb-true (holder s p) d (and_right (not (is_model s p)) (eqb (holder s p) d) r.1))

  -- a record of a definition, of some kind
  pub record Held (t : ℕ → Bool) (d p : ℕ) : Type 0 where
    pub inside : In p (records_of s d)
    pub placed : In p (places s)
    pub held : holder s p ≡ d
    pub passes : t p ≡ true

  held_in : (t : ℕ → Bool) (d p : ℕ) → In p (keep t (records_of s d)) → Held t d p
  held_in t d p i =
      let r = in-keep t (records_of s d) p i in
      let q = in-records d p r.0 in
      record { inside = r.0; placed = q.0; held = q.1; passes = r.1 }

  pub in-elements : (d e : ℕ) → In e (elements s d) → Held (is_element s) d e
  unfolding elements
  in-elements d e i = held_in (is_element s) d e i

  pub in-submodels : (d m : ℕ) → In m (submodels s d) → Held (is_submodel s) d m
  unfolding submodels
  in-submodels d m i = held_in (is_submodel s) d m i

  pub in-ports : (d q : ℕ) → In q (ports s d) → Held (is_port s) d q
  unfolding ports
  in-ports d q i = held_in (is_port s) d q i

  -- ---- look-ups
  pub named_in : (n ps : List ℕ) (p : ℕ) → named s n ps ≡ Some p → In p ps × (name s p ≡ n)
  unfolding named
  named_in n ps p e =
      let f = some_first (λ q. same (name s q) n) ps p e in
      (f.0, same_true (name s p) n f.1)

  pub element-named : (d : ℕ) (n : List ℕ) (e : ℕ) → element_named s d n ≡ Some e → In e (elements s d) × (name s e ≡ n)
  unfolding element_named
  element-named d n e h = named_in n (elements s d) e h

  pub submodel-named : (d : ℕ) (n : List ℕ) (m : ℕ) → submodel_named s d n ≡ Some m → In m (submodels s d) × (name s m ≡ n)
  unfolding submodel_named
  submodel-named d n m h = named_in n (submodels s d) m h

  pub port-named : (d : ℕ) (n : List ℕ) (q : ℕ) → port_named s d n ≡ Some q → In q (ports s d) × (name s q ≡ n)
  unfolding port_named
  port-named d n q h = named_in n (ports s d) q h

  pub definition-named : (n : List ℕ) (d : ℕ) → definition_named s n ≡ Some d → In d (definitions s) × (name s d ≡ n)
  unfolding definition_named
  definition-named n d h = named_in n (definitions s) d h

  -- the element that a filled field names is one of the same definition
  pub element-in : (e : ℕ) (f : List ℕ) (q : ℕ) → element_in s e f ≡ Some q
      → (is_blank f ≡ false) × (element_named s (holder s e) (text f) ≡ Some q) × In q (elements s (holder s e))
  unfolding element_in
  element-in e f q h =
      by_cases (is_blank f)
      (λ k. not_none (rw (k, element_in) at h))
      (λ k. let g : element_named s (holder s e) (text f) ≡ Some q = rw (k, element_in) at h in
      (k, g, (element-named (holder s e) (text f) q g).0))

  -- ---- main, and the holder of each record, is a definition
  first-place : (n : ℕ) (p : ℕ) → In p (places_from n s 0) → In main (keep (is_model s) (places_from n s 0))
  unfolding places_from main
  first-place zero p i = absurd i
  first-place (suc n) p i =
      by_cases (is_readable s 0)
      (λ e. rw (e, places_from) (rw (first-model s e, keep) (inl refl)))
      (λ e. absurd (rw (e, places_from) at i))

  pub main-in : (p : ℕ) → In p (places s) → In main (definitions s)
  unfolding definitions places
  main-in p i = first-place (length s.bytes) p i

  pub holder_in : (p : ℕ) → In p (places s) → In (holder s p) (definitions s)
  unfolding holder
  holder_in p i =
      ⊎_elim (λ (q : holder s p ≡ main). rw q (main-in p i))
      (λ (j : In (holder s p) (keep (λ d. leb d p) (definitions s))). (in-keep (λ d. leb d p) (definitions s) (holder s p) j).0)
      (last-in main (keep (λ d. leb d p) (definitions s)))

  -- the holder is the last definition at or before the record
  pub definitions-rise : Rising 0 (definitions s)
  unfolding definitions
  definitions-rise = keep-rising (is_model s) 0 (places s) (places-rise s)

  pub holder-is : (p d : ℕ) → In d (definitions s) → d ≤ p → ((e : ℕ) → In e (definitions s) → d < e → e ≤ p → ⊥) → holder s p ≡ d
  unfolding holder
  holder-is p d i l h =
      let t : ℕ → Bool = λ e. leb e p in
      last-greatest 0 main (keep t (definitions s)) d (keep-rising t 0 (definitions s) definitions-rise)
      (keep-in t (definitions s) d i (le-leb d p l))
      (λ e j.
      let k = in-keep t (definitions s) e j in
      by_cases (leb e d) (λ u. leb-true e d u) (λ u. absurd (h e k.0 (leb-false e d u) (leb-true e p k.1))))

  -- a submodel's model is a definition
  pub model_in : (d m : ℕ) → In m (submodels s d) → In (model_of s m) (definitions s)
  unfolding model_of
  model_in d m i =
      by-option (definition_named s (text (model_field s m)))
      (λ p. rw p (main-in m (in-submodels d m i).placed))
      (λ e p. rw p (definition-named (text (model_field s m)) e p).0)
