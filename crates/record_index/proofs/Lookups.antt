-- What a look-up in the index finds: the definition, port, element or submodel of a name.
-- Assumes nothing.
use Rattle.std.specs.Prelude.{None, Option, Some, option_map}
use mathlib.Core.Path.{◌≡◌, refl, sym, ap, ◌∙◌}
use mathlib.Core.Bool.{Bool, true, false, not, ◌&&◌, ◌||◌}
use mathlib.Core.List.{List, ◌∷◌}
use Prim.Native.Nat.{ℕ, ◌+◌, ◌*◌, ◌≤◌}
use native.Mathlib.Omega.{arith}
use lib.ListN.{length, get_or, drop, length-drop}
use lib.Seq.{length-take-le}
use lib.Dec.{eqb}
use borrow.Author.Tests.{eqb-true, eq-eqb}
use Rattle.names.specs.Lists.{In, keep, first, same}
use Rattle.names.specs.Names.{text, field_at}
use Rattle.names.specs.Scans.{scan}
use Rattle.names.proofs.Tests.{by_cases, both, and_left, and_right}
use Rattle.names.proofs.Lists.{in-keep, keep-in, none_first, some_first, first-none, first-is, same_true, eq-same, first-keep}
use Rattle.names.proofs.Scans.{scan-same}
use Rattle.recipe.specs.declared.Kind.{Kind}
use Rattle.recipe.specs.declared.Kind.TheVariants.{Model, Element, Port, Submodel, Deletion, Replacement, ReplacedBy, Factors}
use Rattle.recipe.specs.Records.{Recipe, kind_byte, kind, places, is_model, is_element, is_port, is_submodel, first_field, name}
use Rattle.recipe.specs.Definitions.{definitions, holder, records_of, elements, submodels, ports, named, definition_named, element_named, submodel_named, port_named}
use Rattle.recipe.proofs.Rows.{first-name}
use Rattle.recipe.specs.Reading.{fault₄}
use Rattle.name_index.specs.Positions.{count, entry}
use Rattle.record_index.specs.declared.Sought.{Sought}
use Rattle.record_index.specs.declared.RecordIndex.{RecordIndex}
use Rattle.record_index.specs.Indexed.{recipe_of}
use Rattle.record_index.specs.Entries.{tag_of, tag_at, key_of, is_of, record_named, SoughtIn}
use Rattle.record_index.proofs.Places.{first-numbered, first-same}
use Rattle.record_index.proofs.Keys.{nothing, same_keys, same-fields}
use Rattle.record_index.proofs.Repeats.{first-length, one_entry, R, numbered, entry-is}

-- ---- the space in which a record of kind k, of definition d, has its name
by-four : (P : ℕ → Type 0) → P 1 → P 2 → P 3 → P 4 → (k : Kind) → kind_byte k ≤ 4 → P (kind_byte k)
by-four P a b c d Model h = a
by-four P a b c d Element h = b
by-four P a b c d Port h = c
by-four P a b c d Submodel h = d
by-four P a b c d Deletion h = absurd (omega arith)
by-four P a b c d Replacement h = absurd (omega arith)
by-four P a b c d ReplacedBy h = absurd (omega arith)
by-four P a b c d Factors h = absurd (omega arith)

one-space : (p h d : ℕ) (k : Kind) → kind_byte k ≤ 4 → eqb (kind_byte k) 1 || eqb h d ≡ true → tag_of (kind_byte k) p h ≡ tag_of (kind_byte k) 0 d
unfolding tag_of
one-space p h d =
    by-four (λ k. eqb k 1 || eqb h d ≡ true → tag_of k p h ≡ tag_of k 0 d)
    (λ e. refl)
    (λ e. ap (λ (x : ℕ). 8 * x + 1) (eqb-true h d e))
    (λ e. ap (λ (x : ℕ). 8 * x + 2) (eqb-true h d e))
    (λ e. ap (λ (x : ℕ). 8 * x + 1) (eqb-true h d e))

space-one : (p h d : ℕ) (k : Kind) → kind_byte k ≤ 4 → tag_of (kind_byte k) p h ≡ tag_of (kind_byte k) 0 d → eqb (kind_byte k) 1 || eqb h d ≡ true
unfolding tag_of
space-one p h d =
    by-four (λ k. tag_of k p h ≡ tag_of k 0 d → eqb k 1 || eqb h d ≡ true)
    (λ e. refl)
    (λ e. let z : 8 * h + 1 ≡ 8 * d + 1 = e in eq-eqb h d (omega arith))
    (λ e. let z : 8 * h + 2 ≡ 8 * d + 2 = e in eq-eqb h d (omega arith))
    (λ e. let z : 8 * h + 1 ≡ 8 * d + 1 = e in eq-eqb h d (omega arith))

-- ---- the look-up, by what the index answers
module _ (x : RecordIndex) (once : fault₄ (recipe_of x) ≡ None) {q : Sought} (g : SoughtIn (recipe_of x) q) {b t k : ℕ} {f : List ℕ} (eb : b ≡ kind_byte q.kind) (et : t ≡ tag_of b 0 q.definition)
    (ef : f ≡ field_at x.source.now.width x.source.now.bytes.now q.name) (ek : k ≡ key_of t f) where
  -- what is sought, and the records among which it is
  abbrev asked : ℕ
  asked = kind_byte q.kind

  abbrev answered : Option ℕ
  answered = record_named (R x) asked q.definition (text (field_at x.source.now.width x.source.now.bytes.now q.name))

  abbrev among : List ℕ
  among = keep (is_of (R x) asked q.definition) (places (R x))

  -- a record's name is the one looked for just where its first field is
  same-named : (p : ℕ) → In p (places (R x)) → same (first_field (R x) p) f ≡ same (name (R x) p) (text f)
  unfolding name field_at
  same-named p i =
      let l : length f ≡ x.source.now.width = rw ef (length-take-le x.source.now.width (drop q.name x.source.now.bytes.now) (omega (arith, length-drop q.name x.source.now.bytes.now, g.room))) in
      sym (same-fields (first_field (R x) p) f (first-name (R x) x.formed p i) (rw ef g.reads) (first-length (R x) p i ∙ sym l))

  -- one of them has its name in the space t, and a record of that kind which has is one of them
  of-tag : (p : ℕ) → In p among → (kind (R x) p ≡ asked) × (tag_at (R x) p ≡ t)
  unfolding is_of tag_at
  of-tag p i =
      let e = (in-keep (is_of (R x) asked q.definition) (places (R x)) p i).1 in
      let z = eqb-true (kind (R x) p) asked (and_left (eqb (kind (R x) p) asked) _ e) in
      (z, rw (z, et, eb) (one-space p (holder (R x) p) q.definition q.kind g.most (and_right (eqb (kind (R x) p) asked) _ e)))

  tag-of : (p : ℕ) → In p (places (R x)) → kind (R x) p ≡ asked → tag_at (R x) p ≡ t → In p among
  unfolding is_of tag_at
  tag-of p i z e =
      keep-in (is_of (R x) asked q.definition) (places (R x)) p i
      (both (eq-eqb (kind (R x) p) asked z) (space-one p (holder (R x) p) q.definition q.kind g.most (rw (z, et, eb) at e)))

  none_here : ((p : ℕ) → In p among → same (name (R x) p) (text f) ≡ false) → None ≡ answered
  unfolding record_named named
  none_here h =
      rw (← ef) (sym (first-none (λ p. same (name (R x) p) (text f)) among h))

  -- the index gives the first record whose name is in the space, and whose first field is f
  abbrev hits : ℕ → Bool
  hits p = eqb (tag_at (R x) p) t && same (first_field (R x) p) f

  abbrev gives : Option ℕ
  gives = scan (λ i. same (entry x.names.records i) (k ∷ f)) (count x.names.records)

  entry-scan : first hits (places (R x)) ≡ option_map (numbered x) gives
  entry-scan =
      first-numbered hits (places (R x))
      ∙ rw (x.count, ek)
      (ap (option_map (numbered x))
      (scan-same (λ i. hits (numbered x i)) (λ i. same (entry x.names.records i) (key_of t f ∷ f)) (length (places (R x)))
      (λ i h.
      let p = numbered x i in
      sym (ap (λ (l : List ℕ). same l (key_of t f ∷ f)) (entry-is x i h) ∙ same_keys (tag_at (R x) p) t (first_field (R x) p) f))))

  pub sought-none : {o : Option ℕ} → o ≡ gives → o ≡ None → None ≡ answered
  sought-none u v =
      let e : None ≡ gives = sym v ∙ u in
      none_here
      (λ p i.
      let j = (in-keep (is_of (R x) asked q.definition) (places (R x)) p i).0 in
      let o = none_first hits (places (R x)) p (entry-scan ∙ ap (option_map (numbered x)) (sym e)) j in
      sym (same-named p j) ∙ (rw (eq-eqb (tag_at (R x) p) t (of-tag p i).1) at o))

  module _ {i : ℕ} {o : Option ℕ} (u : o ≡ gives) (v : o ≡ Some i) where
    e : Some i ≡ gives
    e = sym v ∙ u

    first-hit : first hits (places (R x)) ≡ Some (get_or x.at.now i 0)
    first-hit = entry-scan ∙ (ap (option_map (numbered x)) (sym e) ∙ ap (λ (l : List ℕ). Some (get_or l i 0)) (sym x.listed))

    found : In (get_or x.at.now i 0) (places (R x)) × (tag_at (R x) (get_or x.at.now i 0) ≡ t) × (name (R x) (get_or x.at.now i 0) ≡ text f)
    found =
        let p = get_or x.at.now i 0 in
        let r = some_first hits (places (R x)) p first-hit in
        let a = eqb-true (tag_at (R x) p) t (and_left (eqb (tag_at (R x) p) t) _ r.1) in
        (r.0, a, same_true (name (R x) p) (text f) (sym (same-named p r.0) ∙ and_right (eqb (tag_at (R x) p) t) (same (first_field (R x) p) f) r.1))

    pub sought-in : In (get_or x.at.now i 0) (places (R x))
    sought-in = found.0

    only : (p : ℕ) → In p among → same (name (R x) p) (text f) ≡ true → p ≡ get_or x.at.now i 0
    only p j z =
        one_entry (R x) once p (get_or x.at.now i 0) (in-keep (is_of (R x) asked q.definition) (places (R x)) p j).0 found.0 ((of-tag p j).1 ∙ sym found.1)
        (same_true (name (R x) p) (text f) z ∙ sym found.2)

    module _ {p : ℕ} (ep : p ≡ get_or x.at.now i 0) where
      pub sought-some : get_or x.source.now.bytes.now p 0 ≡ b → Some p ≡ answered
      unfolding kind record_named named
      sought-some h =
          rw (← ef, ep) (sym (first-is (λ p. same (name (R x) p) (text f)) among (get_or x.at.now i 0) (tag-of (get_or x.at.now i 0) found.0 (rw (ep, eb) at h) found.1) (eq-same found.2) only))

      pub sought-other : (get_or x.source.now.bytes.now p 0 ≡ b → ⊥) → None ≡ answered
      unfolding kind
      sought-other h =
          none_here
          (λ r j. by_cases (same (name (R x) r) (text f)) (λ u. absurd (h (rw (ep, eb) (sym (ap (kind (R x)) (only r j u)) ∙ (of-tag r j).0)))) (λ u. u))

-- ---- the look-ups of the definitions are those of a kind
shuffled : (a b c m : Bool) → (b ≡ true → m ≡ false) → (not m && a) && (b && c) ≡ (b && (false || a)) && c
shuffled a true c m h = rw (h refl)
shuffled a false c m h = nothing (not m && a)

always : (b c : Bool) → b && c ≡ (b && true) && c
always true c = refl
always false c = refl

module _ (s : Recipe) (d : ℕ) (n : List ℕ) where
  abbrev has : ℕ → Bool
  has p = same (name s p) n

  look : (k : ℕ) → eqb k 1 ≡ false → named s n (keep (λ p. eqb (kind s p) k) (records_of s d)) ≡ record_named s k d n
  unfolding record_named is_of named records_of is_model
  look k e =
      let r : ℕ → Bool = λ p. not (eqb (kind s p) 1) && eqb (holder s p) d in
      first-keep has (λ p. eqb (kind s p) k) (keep r (places s))
      ∙ (first-keep (λ p. eqb (kind s p) k && has p) r (places s)
      ∙ (first-same (λ p. r p && (eqb (kind s p) k && has p)) (λ p. (eqb (kind s p) k && (eqb k 1 || eqb (holder s p) d)) && has p) (places s)
      (λ p i. rw e (shuffled (eqb (holder s p) d) (eqb (kind s p) k) (has p) (eqb (kind s p) 1) (λ b. rw (eqb-true (kind s p) k b) e)))
      ∙ sym (first-keep has (λ p. eqb (kind s p) k && (eqb k 1 || eqb (holder s p) d)) (places s))))

  pub element-look : element_named s d n ≡ record_named s 2 d n
  unfolding element_named elements is_element
  element-look = look 2 refl

  pub submodel-look : submodel_named s d n ≡ record_named s 4 d n
  unfolding submodel_named submodels is_submodel
  submodel-look = look 4 refl

  pub port-look : port_named s d n ≡ record_named s 3 d n
  unfolding port_named ports is_port
  port-look = look 3 refl

  pub definition-look : definition_named s n ≡ record_named s 1 d n
  unfolding record_named is_of named definition_named definitions is_model
  definition-look =
      first-keep has (λ p. eqb (kind s p) 1) (places s)
      ∙ (first-same (λ p. eqb (kind s p) 1 && has p) (λ p. (eqb (kind s p) 1 && true) && has p) (places s) (λ p i. always (eqb (kind s p) 1) (has p))
      ∙ sym (first-keep has (λ p. eqb (kind s p) 1 && true) (places s)))
