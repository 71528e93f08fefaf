-- One look at the names of a definition: a loop over its records in which each name raises the count of underscores or leaves it.
-- Assumes nothing.
use mathlib.Core.Path.{◌≡◌, refl, sym, ap, ◌∙◌}
use mathlib.Core.Logic.{⊎_elim}
use Prim.Native.Nat.{ℕ, ◌+◌, ◌-◌, ◌≤◌, ◌<◌, max}
use native.Mathlib.Omega.{arith}
use mathlib.Core.Bool.{Bool, true, false, not, ◌||◌}
use mathlib.Core.List.{List, [], ◌∷◌, map}
use lib.ListN.{length, get_or, take, drop, length-drop, length-take}
use lib.Seq.{take-take, drop-drop, take-add, drop_at, length-take-le, get_or-take, get_or-drop}
use lib.Dec.{eqb}
use borrow.Author.Tests.{eqb-true, eq-eqb}
use Rattle.names.specs.Lists.{In, keep, same, every}
use Rattle.names.specs.Names.{text, non_zero, field_at}
use Rattle.names.proofs.Tests.{by_cases, not-both, or_cases}
use Rattle.names.proofs.Lists.{take_while, same_true, eq-same}
use Rattle.recipe.specs.Records.{Recipe, kind, places, stop, next, record_length, is_model, is_element, is_submodel, field, first_field, name}
use Rattle.recipe.specs.Definitions.{definitions, holder, records_of, submodels, model_of, is_declared}
use Rattle.recipe.proofs.Definitions.{in-submodels, name-short, holder_in, model_in}
use Rattle.recipe.proofs.Going.{class_low}
use Rattle.recipe.proofs.Reading.{readable, readable-fits, next_more}
use Rattle.recipe.proofs.RecordLengths.{length-submodel}
use Rattle.recipe.proofs.Rows.{submodel-name}
use Rattle.recipe.proofs.Spans.{Rest, rest-start, Met, met, met-fits, rest_end, rest-stop, rest_more, rest-skip, definition-place, definition-fits}
use Rattle.shadow.specs.Columns.{Numbered, Linked}
use Rattle.flat_names.specs.Prefixes.{declared_names}
use Rattle.flat_names.specs.Underscores.{run_first, run_behind, raised, raises, last_try, Stem}
use Rattle.flat_names.proofs.Underscores.{text-nonzero, counted, behind-field, behind-other, raised_is, last_more, tried-more}

-- a part of a part
drop-take : (n k : ℕ) (l : List ℕ) → n ≤ length l → drop n (take (n + k) l) ≡ take k (drop n l)
drop-take n k l h = ap (drop n) (take-add n k l) ∙ drop_at (take n l) (take k (drop n l)) n (length-take-le n l h)

module _ (s : Recipe) where
  -- ---- names, by their fields
  first-is : (p : ℕ) → first_field s p ≡ take s.width (drop (p + 1) s.bytes)
  unfolding first_field field field_at
  first-is p = let z : p + 1 + 0 ≡ p + 1 = omega arith in ap (λ (k : ℕ). take s.width (drop k s.bytes)) z

  -- the length of a name, as the code cuts its field
  pub name-cut : (p : ℕ) {f t : List ℕ} → f ≡ field_at s.width s.bytes (p + 1) → t ≡ text f → length t ≡ length (name s p)
  unfolding name field_at
  name-cut p g e = ap length (e ∙ ap text (g ∙ sym (first-is p)))

  -- the first n bytes of a field
  first-part : (p n : ℕ) → n ≤ s.width → field_at n s.bytes (p + 1) ≡ take n (first_field s p)
  unfolding field_at
  first-part p n l = sym (take-take n s.width (drop (p + 1) s.bytes) l) ∙ ap (take n) (sym (first-is p))

  own_name : (m : ℕ) → take (length (name s m)) (first_field s m) ≡ name s m
  unfolding name text
  own_name m = take_while non_zero (first_field s m)

  -- the bytes of the name in the recipe
  pub name-bytes : (m n : ℕ) → n ≡ length (name s m) → take n (drop (m + 1) s.bytes) ≡ name s m
  name-bytes m n e =
      let l : n ≤ s.width = omega (arith, name-short s m) in
      sym (take-take n s.width (drop (m + 1) s.bytes) l) ∙ (ap (take n) (sym (first-is m)) ∙ rw e (own_name m))

  nonzero-name : (m : ℕ) → every non_zero (name s m) ≡ true
  unfolding name
  nonzero-name m = text-nonzero (first_field s m)

  -- the first of some bytes
  first_byte : (a k : ℕ) → 1 ≤ k → get_or (take k (drop a s.bytes)) 0 0 ≡ get_or s.bytes a 0
  first_byte a k l =
      let z : a + 0 ≡ a = omega arith in
      get_or-take k (drop a s.bytes) 0 0 (omega arith) ∙ (get_or-drop a s.bytes 0 0 ∙ ap (λ (j : ℕ). get_or s.bytes j 0) z)

  -- ---- the run behind the name of m in that of p: the n bytes of both are compared
  module _ (p m n : ℕ) (e : n ≡ length (name s m)) {b : Bool} (t : b ≡ same (field_at n s.bytes (p + 1)) (field_at n s.bytes (m + 1))) where
    compared : b ≡ same (take (length (name s m)) (first_field s p)) (name s m)
    compared =
        let l : n ≤ s.width = omega (arith, name-short s m) in
        t ∙ rw (first-part p n l, first-part m n l, e, own_name m)

    pub run-other : b ≡ false → 0 ≡ run_behind (name s m) (name s p)
    unfolding name
    run-other h = behind-other (name s m) (first_field s p) (λ q. not-both (eq-same q) (sym compared ∙ h))

    pub run-here : b ≡ true → p + 1 + s.width ≤ length s.bytes → (k : ℕ) → k ≡ run_first (take (s.width - n) (drop (p + 1 + n) s.bytes))
        → k ≡ run_behind (name s m) (name s p)
    unfolding name
    run-here h r k c =
        let l : n ≤ s.width = omega (arith, name-short s m) in
        let z : n + (s.width - n) ≡ s.width = omega arith in
        let d = drop (p + 1) s.bytes in
        let cut : take (s.width - n) (drop (p + 1 + n) s.bytes) ≡ drop (length (name s m)) (first_field s p) =
        ap (take (s.width - n)) (sym (drop-drop n (p + 1) s.bytes))
        ∙ (sym (drop-take n (s.width - n) d (omega (arith, length-drop (p + 1) s.bytes)))
        ∙ (ap (λ (j : ℕ). drop n (take j d)) z ∙ rw (first-is p, e))) in
        c ∙ (ap run_first cut ∙ behind-field (name s m) (first_field s p) (nonzero-name m) (same_true _ _ (sym compared ∙ h)))

  -- its first byte, or that behind as many, tells that there is none
  pub run_none : (p m n : ℕ) → Stem s m n → p + 1 + s.width ≤ length s.bytes
      → not (eqb (get_or s.bytes (p + 1) 0) (get_or s.bytes (m + 1) 0)) || not (eqb (get_or s.bytes (p + 1 + n) 0) 95) ≡ true
      → 0 ≡ run_behind (name s m) (name s p)
  unfolding field_at
  run_none p m n x r h =
      let some = x.some in
      let a = field_at n s.bytes (p + 1) in
      let b = field_at n s.bytes (m + 1) in
      let behind = take (s.width - n) (drop (p + 1 + n) s.bytes) in
      by_cases (same a b)
      (λ t.
      let first : get_or s.bytes (p + 1) 0 ≡ get_or s.bytes (m + 1) 0 = sym (first_byte (p + 1) n some) ∙ (ap (λ (z : List ℕ). get_or z 0 0) (same_true a b t) ∙ first_byte (m + 1) n some) in
      run-here p m n x.long refl t r 0
      (counted behind 0 (λ j q. absurd (omega arith))
      (λ q f.
      let there : get_or s.bytes (p + 1 + n) 0 ≡ 95 = sym (first_byte (p + 1 + n) (s.width - n) (omega (arith, length-take (s.width - n) (drop (p + 1 + n) s.bytes)))) ∙ f in
      not-both h (rw (eq-eqb (get_or s.bytes (p + 1) 0) (get_or s.bytes (m + 1) 0) first, eq-eqb (get_or s.bytes (p + 1 + n) 0) 95 there) refl))
      (omega arith)))
      (λ t. run-other p m n x.long refl t)

  -- ---- kinds
  declared-is : (p : ℕ) {b : Bool} → eqb (get_or s.bytes p 0) 2 || eqb (get_or s.bytes p 0) 4 ≡ b → is_declared s p ≡ b
  unfolding is_declared is_element is_submodel kind
  declared-is p e = e

  submodel-room : (m : ℕ) → In m (places s) → is_submodel s m ≡ true → m + 1 + s.width + s.width ≤ length s.bytes
  unfolding is_submodel next
  submodel-room m i e = omega (arith, readable-fits s m (readable s m i), length-submodel s.width (eqb-true (kind s m) 4 e))

  declared-room : 1 ≤ s.width → (p : ℕ) → In p (places s) → is_declared s p ≡ true → p + 1 + s.width < length s.bytes
  unfolding is_declared
  declared-room w p i e =
      ⊎_elim (λ (h : is_element s p ≡ true). class_low s p i h) (λ (h : is_submodel s p ≡ true). omega (arith, submodel-room p i h))
      (or_cases (is_element s p) (is_submodel s p) e)

-- ---- what a look at the names of d has at p: the count u, where it began with u₀
pub record RaiseLoop (s : Recipe) (d m u₀ p u : ℕ) : Type 0 where
  pub left : List ℕ
  pub goes : Rest s (is_declared s) d p left
  pub some : 1 ≤ u
  -- the names that are left raise it to what all of them raise u₀ to
  pub ends : last_try (name s m) (map (name s) left) u ≡ last_try (name s m) (declared_names s d) u₀
  -- and it is tried in this look, as is each count that they raise it to
  pub tried : (k : ℕ) → In k (u ∷ raises (name s m) (map (name s) left) u) → In k (u₀ ∷ raises (name s m) (declared_names s d) u₀)

-- at a record of the definition
pub record Own (s : Recipe) (d m u₀ p u : ℕ) : Type 0 where
  pub wide : 1 ≤ s.width
  pub whole : stop s ≡ length s.bytes
  pub look : RaiseLoop s d m u₀ p u
  pub low : p < length s.bytes
  pub held : holder s p ≡ d

module _ (s : Recipe) (whole : stop s ≡ length s.bytes) (d m u₀ : ℕ) (i : In d (definitions s)) where
  model-kind : kind s d ≡ 1
  unfolding is_model
  model-kind = eqb-true (kind s d) 1 (definition-place s d i).1

  start-next : (n : ℕ) → n ≡ record_length s.width 1 → d + n ≡ next s d
  unfolding next
  start-next n l = ap (λ (k : ℕ). d + k) (l ∙ ap (record_length s.width) (sym model-kind))

  pub start-room : (n : ℕ) → n ≡ record_length s.width 1 → d + n ≤ length s.bytes
  start-room n l = rw (start-next n l) (definition-fits s d i)

  pub look-start : 1 ≤ u₀ → (n : ℕ) → n ≡ record_length s.width 1 → RaiseLoop s d m u₀ (d + n) u₀
  unfolding declared_names
  look-start some n l =
      record {
        left = keep (is_declared s) (records_of s d);
        goes = rw (start-next n l) (rest-start s (is_declared s) d whole i);
        some = some;
        ends = refl;
        tried = λ k j. j;
      }

-- ---- as the loop asks it, with the shadow
module _ {s : Recipe} {t : List ℕ} {d m u₀ p u : ℕ} (x : Numbered s t) (i : In d (definitions s)) (g : RaiseLoop s d m u₀ p u) where
  none_left : g.left ≡ [] → u ≡ last_try (name s m) (declared_names s d) u₀
  unfolding raises
  none_left e = rw e at g.ends

  pub at-end : length s.bytes ≤ p → u ≡ last_try (name s m) (declared_names s d) u₀
  at-end l = none_left (rest_end s (is_declared s) d x.shadowed.whole g.goes l)

  module _ (l : p < length s.bytes) {h : ℕ} (e : h ≡ get_or t (p + 0) 0) where
    here : Met s (is_declared s) d x.shadowed.whole p g.left
    here = met s (is_declared s) d x.shadowed.whole g.goes l

    held_by : h ≡ holder s p
    held_by = e ∙ x.held p here.reached.place

    pub at_other : (h ≡ d → ⊥) → u ≡ last_try (name s m) (declared_names s d) u₀
    at_other other = none_left (rest-stop s (is_declared s) d x.shadowed.whole i here (λ q. other (held_by ∙ q)))

    pub at_own : h ≡ d → Own s d m u₀ p u
    at_own q = record { wide = omega (arith, x.shadowed.wide); whole = x.shadowed.whole; look = g; low = l; held = sym held_by ∙ q }

module _ {s : Recipe} {d m u₀ p u : ℕ} (o : Own s d m u₀ p u) where
  own-met : Met s (is_declared s) d o.whole p o.look.left
  own-met = met s (is_declared s) d o.whole o.look.goes o.low

  pub own-declared : eqb (get_or s.bytes p 0) 2 || eqb (get_or s.bytes p 0) 4 ≡ true → p + 1 + s.width < length s.bytes
  own-declared k = declared-room s o.wide p own-met.reached.place (declared-is s p k)

  module _ {n : ℕ} (len : n ≡ record_length s.width (get_or s.bytes p 0)) where
    own-next : p + n ≡ next s p
    unfolding next kind
    own-next = ap (λ (k : ℕ). p + k) len

    pub own-fits : p + n ≤ length s.bytes
    own-fits = rw own-next (met-fits s (is_declared s) d o.whole own-met)

    pub own-less : p < p + n
    own-less = rw own-next (next_more s p)

    -- no element nor submodel
    pub own-skip : eqb (get_or s.bytes p 0) 2 || eqb (get_or s.bytes p 0) 4 ≡ false → RaiseLoop s d m u₀ (p + n) u
    own-skip k =
        let g = o.look in
        record {
          left = g.left;
          goes = rw own-next (rest-skip s (is_declared s) d o.whole own-met o.held (declared-is s p k));
          some = g.some;
          ends = g.ends;
          tried = g.tried;
        }

    -- an element or submodel, with its run
    pub own-more : eqb (get_or s.bytes p 0) 2 || eqb (get_or s.bytes p 0) 4 ≡ true → {r c : ℕ} → r ≡ run_behind (name s m) (name s p) → c ≡ max u (r + 1)
        → RaiseLoop s d m u₀ (p + n) c
    own-more k {r} {c} e f =
        let g = o.look in
        let more = rest_more s (is_declared s) d o.whole own-met o.held (declared-is s p k) in
        let some = g.some in
        let is : c ≡ raised (name s m) (name s p) u = omega (arith, raised_is (name s m) u (name s p) some) in
        let names = map (name s) more.0 in
        record {
          left = more.0;
          goes = rw own-next more.1.1;
          some = omega arith;
          ends = rw is (last_more (name s m) u (name s p) names ∙ rw more.1.0 at g.ends);
          tried = λ j q. g.tried j (rw more.1.0 (tried-more (name s m) u (name s p) names j (rw is at q)));
        }

-- ---- both definitions: the one that holds m, and its model
pub record Both (s : Recipe) (m d e : ℕ) : Type 0 where
  pub outer : d ≡ holder s m
  pub inner : e ≡ model_of s m
  pub outer-in : In d (definitions s)
  pub inner-in : In e (definitions s)

module _ {s : Recipe} {t : List ℕ} (x : Linked s t) (m : ℕ) (i : In m (submodels s (holder s m))) where
  placed : In m (places s)
  placed = (in-submodels s (holder s m) m i).placed

  pub own_room : m + 1 + s.width ≤ length s.bytes
  own_room = omega (arith, submodel-room s m placed (in-submodels s (holder s m) m i).passes)

  pub stem : {n : ℕ} → n ≡ length (name s m) → Stem s m n
  stem {n} e = record { inside = own_room; long = e; some = omega (arith, submodel-name s x.row₃ (holder s m) m i); fits = omega (arith, name-short s m) }

  -- by the shadow
  pub both-in : {d e : ℕ} → d ≡ get_or t (m + 0) 0 → e ≡ get_or t (m + 3) 0 → Both s m d e
  both-in {d} {e} f g =
      let outer : d ≡ holder s m = f ∙ x.numbered.held m placed in
      let inner : e ≡ model_of s m = g ∙ x.models m placed (in-submodels s (holder s m) m i).passes in
      record { outer = outer; inner = inner; outer-in = rw outer (holder_in s m placed); inner-in = rw inner (model_in s (holder s m) m i) }
