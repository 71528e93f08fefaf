-- Row 19's pass: what a kind 8 is to the submodel that it names, and what a turn at a record does to the cells.
-- Assumes nothing.
use Rattle.std.specs.Prelude.{None, Option, Some, is_some, unwrap_or}
use Prim.Native.Nat.{ℕ, ◌+◌, ◌≤◌, ◌<◌}
use native.Mathlib.Omega.{arith}
use mathlib.Core.Path.{◌≡◌, refl, sym, ap, ◌∙◌}
use mathlib.Core.Bool.{true, false, not, ◌&&◌}
use mathlib.Core.List.{List, [], ◌∷◌}
use lib.ListN.{length, get_or, set}
use lib.Dec.{eqb, ltb}
use borrow.Author.Tests.{eq-eqb, eqb-true, eqb-false, ne_eqb, lt-ltb, ltb-true}
use Rattle.names.specs.Lists.{In, among}
use Rattle.names.specs.Names.{text}
use Rattle.names.proofs.Tests.{by_cases, by-option, both, and_left, and_right, or_right, not-both, three}
use Rattle.names.proofs.Lists.{among_one, any-in, any_none, eq-same, first-is, first-none, none_first, same_true}
use Rattle.recipe.specs.Records.{Recipe, kind, places, record_length, is_model, is_element, is_submodel, is_factors, first_field, name}
use Rattle.recipe.specs.Definitions.{holder, is_declared, submodels, scaled_by, scales, factors_of}
use Rattle.recipe.specs.Reading.{fault₄, gave_factors, is_factors_fault, fault₁₉}
use Rattle.recipe.proofs.Definitions.{submodel-named, in-submodels}
use Rattle.recipe.proofs.Reading.{readable, first-model}
use Rattle.recipe.proofs.Rows.{one-record}
use Rattle.recipe.proofs.Going.{Going, Here, going_start, going_on, going-hit, going_end, here, on-more}
use Rattle.shadow.specs.Shadow.{Shadowed}
use Rattle.shadow.specs.Columns.{Linked, Paired, Unpaired}
use Rattle.shadow.proofs.Cells.{Walking, walk_start, walk-one, walk-place, walk_end, before-next, cell-kept, cell_set, kept-all, kept_set, row_room}
use Rattle.shadow.proofs.Columns.{linked-beside}
use Rattle.factor_pairs.specs.Pairing.{PairedTo}

-- ---- what a kind 8 is to the submodel that it names
module _ (s : Recipe) where
  -- it is the kind 8 of that submodel, in one definition, by its name
  record Scales (m f : ℕ) : Type 0 where
    kinded : is_factors s f ≡ true
    held : holder s f ≡ holder s m
    named : text (first_field s f) ≡ name s m

  scales-parts : {m f : ℕ} → scales s m f ≡ true → Scales m f
  unfolding scales
  scales-parts {m} {f} h =
      let l = and_left (is_factors s f && eqb (holder s f) (holder s m)) _ h in
      record {
        kinded = and_left (is_factors s f) _ l;
        held = eqb-true (holder s f) (holder s m) (and_right (is_factors s f) _ l);
        named = same_true (text (first_field s f)) (name s m) (and_right (is_factors s f && eqb (holder s f) (holder s m)) _ h);
      }

  scales-all : {m f : ℕ} → Scales m f → scales s m f ≡ true
  unfolding scales
  scales-all {m} {f} h = both (both h.kinded (eq-eqb (holder s f) (holder s m) h.held)) (eq-same h.named)

  module _ (p : ℕ) {m : ℕ} (e : scaled_by s p ≡ Some m) where
    pub scaled-in : In m (submodels s (holder s p))
    unfolding scaled_by
    scaled-in = (submodel-named s (holder s p) (text (first_field s p)) m e).0

    pub scaled-placed : In m (places s)
    scaled-placed = (in-submodels s (holder s p) m scaled-in).placed

    pub scaled-submodel : is_submodel s m ≡ true
    scaled-submodel = (in-submodels s (holder s p) m scaled-in).passes

    scaled-parts : is_factors s p ≡ true → Scales m p
    unfolding scaled_by
    scaled-parts k = record {
      kinded = k;
      held = sym (in-submodels s (holder s p) m scaled-in).held;
      named = sym (submodel-named s (holder s p) (text (first_field s p)) m e).1;
    }

  -- main is no submodel and no kind 8
  not_first : {k : ℕ} (p : ℕ) → In p (places s) → kind s p ≡ k → (k ≡ 1 → ⊥) → p ≡ 0 → ⊥
  unfolding is_model
  not_first p i e n z = n (sym e ∙ rw z (eqb-true (kind s 0) 1 (first-model s (readable s 0 (rw z at i)))))

  -- cell 4 of a kind 8: 0 just where it names no submodel
  module _ (p : ℕ) {m : ℕ} (e : m ≡ unwrap_or (scaled_by s p) 0) where
    pub scaled-none : m ≡ 0 → scaled_by s p ≡ None
    unfolding is_submodel
    scaled-none z =
        by-option (scaled_by s p) (λ o. o)
        (λ q o.
        absurd (not_first q (scaled-placed p o) (eqb-true (kind s q) 4 (scaled-submodel p o)) (λ y. omega arith) (sym (e ∙ rw o) ∙ z)))

    pub scaled-some : (m ≡ 0 → ⊥) → scaled_by s p ≡ Some m
    scaled-some n = by-option (scaled_by s p) (λ o. absurd (n (e ∙ rw o))) (λ q o. o ∙ ap Some (sym (e ∙ rw o)))

  -- ---- row 19, of the record at p
  pub fault-other : (p : ℕ) → is_factors s p ≡ false → is_factors_fault s p ≡ false
  unfolding is_factors_fault
  fault-other p k = rw k

  module _ (p : ℕ) (k : is_factors s p ≡ true) where
    pub fault-undeclared : scaled_by s p ≡ None → is_factors_fault s p ≡ true
    unfolding is_factors_fault
    fault-undeclared n = rw (k, n)

    -- another kind 8 gives the same submodel its factors
    pub fault-twice : (m f : ℕ) → In f (places s) → f < p → scales s m f ≡ true → scales s m p ≡ true → is_factors_fault s p ≡ true
    unfolding is_factors_fault gave_factors
    fault-twice m f i l a b =
        let u = scales-parts a in
        let v = scales-parts b in
        let g : gave_factors s p f ≡ true =
        both (both (both u.kinded (lt-ltb f p l)) (eq-eqb (holder s f) (holder s p) (u.held ∙ sym v.held))) (eq-same (u.named ∙ sym v.named)) in
        both k (or_right (not (is_some (scaled_by s p))) _ (any-in (gave_factors s p) (places s) f i g))

    pub fault-none : {m : ℕ} → scaled_by s p ≡ Some m → ((f : ℕ) → In f (places s) → f < p → scales s m f ≡ false) → is_factors_fault s p ≡ false
    unfolding is_factors_fault gave_factors
    fault-none {m} e h =
        let v = scaled-parts p e k in
        rw (k, e)
        (any_none (gave_factors s p) (places s)
        (λ f i.
        by_cases (gave_factors s p f)
        (λ g.
        let a = and_left (is_factors s f && ltb f p && eqb (holder s f) (holder s p)) _ g in
        let b = and_left (is_factors s f && ltb f p) _ a in
        let u : Scales m f = record {
          kinded = and_left (is_factors s f) _ b;
          held = eqb-true (holder s f) (holder s p) (and_right (is_factors s f && ltb f p) _ a) ∙ v.held;
          named = same_true (text (first_field s f)) (text (first_field s p)) (and_right (is_factors s f && ltb f p && eqb (holder s f) (holder s p)) _ g) ∙ v.named;
        } in
        not-both (scales-all u) (h f i (ltb-true f p (and_right (is_factors s f) _ b))))
        (λ g. g)))

  -- a kind 8 is that of one submodel, where row 4 does not apply
  one-scaled : fault₄ s ≡ None → {m n p : ℕ} → In m (places s) → is_submodel s m ≡ true → In n (places s) → is_submodel s n ≡ true → Scales m p → Scales n p → m ≡ n
  unfolding is_declared
  one-scaled h₄ {m} {n} i a j b u v =
      one-record s h₄ (holder s m) m n
      (record { placed = i; held = refl; is = or_right (is_element s m) (is_submodel s m) a })
      (record { placed = j; held = sym v.held ∙ u.held; is = or_right (is_element s n) (is_submodel s n) b })
      (sym u.named ∙ v.named)

-- ---- the pass over the records
pub record PairLoop (s : Recipe) (t₀ t : List ℕ) (p : ℕ) : Type 0 where
  pub walking : Walking s (5 ∷ []) t₀ t p
  pub going : Going s (is_factors_fault s) p
  pub pairs : PairedTo s t₀ t p

module _ {s : Recipe} {t₀ : List ℕ} (L : Linked s t₀) where
  sh : Shadowed s t₀
  sh = L.numbered.shadowed

  pub pair-start : Unpaired s t₀ → PairLoop s t₀ t₀ 0
  pair-start U = record {
    walking = walk_start s (5 ∷ []) t₀;
    going = going_start s (is_factors_fault s);
    pairs = record { others = λ q i n. refl; free = λ m i k z f j l. absurd (omega arith); given = λ m i k n. absurd (n (U m i k)) };
  }

  module _ {t : List ℕ} {p : ℕ} (g : PairLoop s t₀ t p) (l : p < length s.bytes) where
    pub pair_place : In p (places s)
    pair_place = walk-place sh g.walking l

    at : Here s (is_factors_fault s) p
    at = here s (is_factors_fault s) p sh.whole g.going l

    -- a record of another kind
    pub pair-skip : (get_or s.bytes p 0 ≡ 8 → ⊥) → PairLoop s t₀ t (p + record_length s.width (get_or s.bytes p 0))
    unfolding scales is_factors kind
    pair-skip n =
        let k = ne_eqb (get_or s.bytes p 0) 8 n in
        record {
          walking = walk-one sh g.walking l refl (kept-all s (5 ∷ []) t);
          going = going_on at (fault-other s p k) refl;
          pairs = record {
            others = g.pairs.others;
            free = λ m i j z f x u. before-next s p f pair_place x refl u (λ y. g.pairs.free m i j z f x y) (λ y. rw (y, k));
            given = λ m i j z. let h = g.pairs.given m i j z in record { placed = h.placed; earlier = omega (arith, h.earlier); is = h.is };
          };
        }

    -- a kind 8, and the submodel m that cell 4 has
    module _ (k₈ : get_or s.bytes p 0 ≡ 8) {m : ℕ} (e₄ : m ≡ get_or t (p + 4) 0) where
      k : is_factors s p ≡ true
      unfolding is_factors kind
      k = eq-eqb (get_or s.bytes p 0) 8 k₈

      m-is : m ≡ unwrap_or (scaled_by s p) 0
      m-is = e₄ ∙ g.walking.kept.as-was p 4 pair_place (omega arith) refl ∙ L.scaled p pair_place k

      pair-hit : is_factors_fault s p ≡ true → fault₁₉ s ≡ Some p
      unfolding fault₁₉
      pair-hit f = going-hit at f

      -- there is none
      pub pair-undeclared : m ≡ 0 → fault₁₉ s ≡ Some p
      pair-undeclared z = pair-hit (fault-undeclared s p k (scaled-none s p m-is z))

      module _ (some : m ≡ 0 → ⊥) where
        e : scaled_by s p ≡ Some m
        e = scaled-some s p m-is some

        pub pair-room : m + 13 ≤ length t
        pair-room = omega (arith, row_room sh m (scaled-placed s p e), g.walking.kept.long)

        module _ {c : ℕ} (q : c ≡ get_or t (m + 5) 0) where
          -- it has its factors already
          pub pair-twice : (c ≡ 0 → ⊥) → fault₁₉ s ≡ Some p
          pair-twice n =
              let h = g.pairs.given m (scaled-placed s p e) (scaled-submodel s p e) (λ z. n (q ∙ z)) in
              pair-hit (fault-twice s p k m (get_or t (m + 5) 0) h.placed h.earlier h.is (scales-all s (scaled-parts s p e k)))

          off : (x : ℕ) → In x (places s) → (m ≡ x → ⊥) → get_or (set t (m + 5) p) (x + 5) 0 ≡ get_or t (x + 5) 0
          off x i h = cell-kept sh t m 5 p x 5 (scaled-placed s p e) i (omega arith) (omega arith) (λ y. absurd (h y))

          on : get_or (set t (m + 5) p) (m + 5) 0 ≡ p
          on = cell_set sh t m 5 p (scaled-placed s p e) (omega arith) g.walking.kept.long

          not-its : (x : ℕ) → In x (places s) → is_submodel s x ≡ true → (m ≡ x → ⊥) → scales s x p ≡ false
          not-its x i j h =
              by_cases (scales s x p)
              (λ b. absurd (h (one-scaled s L.row₄ (scaled-placed s p e) (scaled-submodel s p e) i j (scaled-parts s p e k) (scales-parts s b))))
              (λ b. b)

          pub pair_one : c ≡ 0 → PairLoop s t₀ (set t (m + 5) p) (p + record_length s.width (get_or s.bytes p 0))
          unfolding is_factors is_submodel
          pair_one z = record {
            walking = walk-one sh g.walking l refl (kept_set m 5 p sh (kept-all s (5 ∷ []) t) (scaled-placed s p e) (omega arith) refl);
            going = going_on at (fault-none s p k e (λ f i u. g.pairs.free m (scaled-placed s p e) (scaled-submodel s p e) (sym q ∙ z) f i u)) refl;
            pairs = record {
              others = λ x i h. off x i (λ y. h (rw (sym y) (eqb-true (kind s m) 4 (scaled-submodel s p e)))) ∙ g.pairs.others x i h;
              free = λ x i j y f a u.
                  by_cases (eqb m x)
                  (λ b. absurd (not_first s p pair_place (eqb-true (kind s p) 8 k) (λ v. omega arith) (sym on ∙ ap (λ (i : ℕ). get_or (set t (m + 5) p) (i + 5) 0) (eqb-true m x b) ∙ y)))
                  (λ b.
                  before-next s p f pair_place a refl u
                  (λ v. g.pairs.free x i j (sym (off x i (eqb-false m x b)) ∙ y) f a v)
                  (λ v. rw v (not-its x i j (eqb-false m x b))));
              given = λ x i j y.
                  by_cases (eqb m x)
                  (λ b.
                  rw (← eqb-true m x b, on)
                  (record { placed = pair_place; earlier = omega (arith, on-more s.width (get_or s.bytes p 0) refl); is = scales-all s (scaled-parts s p e k) }))
                  (λ b.
                  let h = g.pairs.given x i j (λ v. y (off x i (eqb-false m x b) ∙ v)) in
                  rw (off x i (eqb-false m x b)) (record { placed = h.placed; earlier = omega (arith, h.earlier); is = h.is }));
            };
          }

  -- ---- at the end
  module _ {t : List ℕ} {p : ℕ} (g : PairLoop s t₀ t p) (l : length s.bytes ≤ p) where
    pub pair-none : fault₁₉ s ≡ None
    unfolding fault₁₉
    pair-none = going_end g.going l

    pub pair-linked : Linked s t
    pair-linked = linked-beside g.walking.kept refl (λ q k i u. g.walking.kept.as-was q k i (omega arith) (not_five k u)) g.pairs.others L
      where
        not_five : (k : ℕ) → k < 5 → among k (5 ∷ []) ≡ false
        not_five k u = among_one k 5 ∙ ne_eqb k 5 (λ z. omega arith)

    -- two kind 8 records of one submodel: the later one is refused
    twice : (m a c : ℕ) → In a (places s) → In c (places s) → a < c → scales s m a ≡ true → scales s m c ≡ true → ⊥
    unfolding fault₁₉
    twice m a c i j u x y =
        not-both (fault-twice s c (scales-parts s y).kinded m a i u x y) (none_first (is_factors_fault s) (places s) c pair-none j)

    one-kind : (m a c : ℕ) → In a (places s) → In c (places s) → scales s m a ≡ true → scales s m c ≡ true → a ≡ c
    one-kind m a c i j x y = three a c (λ u. absurd (twice m a c i j u x y)) (λ u. u) (λ u. absurd (twice m c a j i u y x))

    pub pair-paired : Paired s t
    unfolding factors_of
    pair-paired = record {
      row₁₉ = pair-none;
      factors = λ m i k.
          by_cases (eqb (get_or t (m + 5) 0) 0)
          (λ b.
          let z = eqb-true (get_or t (m + 5) 0) 0 b in
          z ∙ sym (ap (λ (o : Option ℕ). unwrap_or o 0) (first-none (scales s m) (places s) (λ f j. g.pairs.free m i k z f j (walk_end sh g.walking l f j)))))
          (λ b.
          let h = g.pairs.given m i k (eqb-false (get_or t (m + 5) 0) 0 b) in
          sym (ap (λ (o : Option ℕ). unwrap_or o 0)
          (first-is (scales s m) (places s) (get_or t (m + 5) 0) h.placed h.is (λ f j u. one-kind m f (get_or t (m + 5) 0) j h.placed u h.is))));
    }
