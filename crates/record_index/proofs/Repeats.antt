-- Row 4 by record number: the first whose key and first field stand earlier too; where it refuses none, a key and a first field are those of one record.
-- Assumes nothing.
use Rattle.std.specs.Prelude.{Bool, None, Option, Some, option_map}
use mathlib.Core.Path.{◌≡◌, sym, ap, ◌∙◌}
use mathlib.Core.Bool.{true, false, ◌&&◌}
use mathlib.Core.List.{List, ◌∷◌}
use Prim.Native.Nat.{ℕ, ◌+◌, ◌<◌}
use native.Mathlib.Omega.{arith}
use lib.ListN.{length, get_or, drop, length-drop}
use lib.Seq.{length-take-le}
use lib.Dec.{ltb}
use borrow.Author.Tests.{ltb-true, lt-ltb, eq-eqb}
use Rattle.names.specs.Lists.{In, any, same}
use Rattle.names.specs.Names.{field_at}
use Rattle.names.specs.Scans.{scan}
use Rattle.names.proofs.Tests.{both_ways, both, and_left, and_right, not-both, three}
use Rattle.names.proofs.Lists.{any-in, any_some, not-any, none_first, eq-same, same-eq, get_or-in, in-get_or}
use Rattle.names.proofs.Scans.{scan-same, scan-some, some-scan, scan-below}
use Rattle.name_index.specs.declared.Layout.{Layout}
use Rattle.name_index.specs.Index.{keyed_name, is_repeat}
use Rattle.name_index.specs.Positions.{count, entry}
use Rattle.recipe.specs.Records.{Recipe, places, field, first_field, name}
use Rattle.recipe.specs.Reading.{fault₃, repeats, fault₄}
use Rattle.recipe.proofs.Rows.{first-name}
use Rattle.record_index.specs.declared.RecordIndex.{RecordIndex}
use Rattle.record_index.specs.Entries.{tag_at, key_of, key_at}
use Rattle.record_index.specs.Indexed.{recipe_of}
use Rattle.record_index.proofs.Places.{first-numbered, place-room, numbered-less, less-numbered}
use Rattle.record_index.proofs.Keys.{same-fields, same_keys, same-tags, sharing}

module _ (s : Recipe) where
  pub first-length : (p : ℕ) → In p (places s) → length (first_field s p) ≡ s.width
  unfolding first_field field field_at
  first-length p i =
      let m = place-room s p i in
      length-take-le s.width (drop (p + 1 + 0) s.bytes) (omega (arith, length-drop (p + 1 + 0) s.bytes))

  -- the key and the first field of two records, by their names
  pub same_entries : fault₃ s ≡ None → (q p : ℕ) → In q (places s) → In p (places s) → (q ≡ p → ⊥)
      → same (key_of (tag_at s q) (first_field s q) ∷ first_field s q) (key_of (tag_at s p) (first_field s p) ∷ first_field s p) ≡ sharing s q p && same (name s q) (name s p)
  unfolding name
  same_entries h q p i j n =
      same_keys (tag_at s q) (tag_at s p) (first_field s q) (first_field s p)
      ∙ rw (same-tags s q p i j n, same-fields (first_field s q) (first_field s p) (first-name s h q i) (first-name s h p j) (first-length q i ∙ sym (first-length p j)))

  -- row 4 refuses the later of two records with one space and one name
  clash : fault₄ s ≡ None → (q p : ℕ) → In q (places s) → In p (places s) → q < p → tag_at s q ≡ tag_at s p → name s q ≡ name s p → ⊥
  unfolding fault₄ repeats
  clash h q p i j l t e =
      let no : repeats s p q ≡ false = not-any (repeats s p) (places s) q (none_first (λ r. any (repeats s r) (places s)) (places s) p h j) i in
      let one : sharing s q p ≡ true = sym (same-tags s q p i j (λ u. omega arith)) ∙ eq-eqb (tag_at s q) (tag_at s p) t in
      let yes : repeats s p q ≡ true = both (both (lt-ltb q p l) (eq-same e)) one in
      not-both yes no

  pub one_entry : fault₄ s ≡ None → (q p : ℕ) → In q (places s) → In p (places s) → tag_at s q ≡ tag_at s p → name s q ≡ name s p → q ≡ p
  one_entry h q p i j t e = three q p (λ l. absurd (clash h q p i j l t e)) (λ l. l) (λ l. absurd (clash h p q j i l (sym t) (sym e)))

module _ (x : RecordIndex) where
  abbrev pub R : Recipe
  R = recipe_of x

  abbrev pub numbered : ℕ → ℕ
  numbered i = get_or (places R) i 0

  pub entry-is : (i : ℕ) → i < length (places R) → entry x.names.records i ≡ key_of (tag_at R (numbered i)) (first_field R (numbered i)) ∷ first_field R (numbered i)
  unfolding key_at
  entry-is i h =
      let r = x.names.records in
      ap (λ (l : Layout). keyed_name r.keys.now r.bytes.now l i) x.layout ∙ rw (x.entered.keyed i h, x.entered.copied i h)

  twins : (j i : ℕ) → j < i → i < length (places R) → same (entry x.names.records j) (entry x.names.records i) ≡ sharing R (numbered j) (numbered i) && same (name R (numbered j)) (name R (numbered i))
  twins j i h l =
      let m : j < length (places R) = omega arith in
      same-eq (entry-is j m) (entry-is i l)
      ∙ (same_entries R x.formed (numbered j) (numbered i) (get_or-in (places R) j 0 m) (get_or-in (places R) i 0 l)
      (λ e. let z = numbered-less R j i h l in omega arith))

  repeat-is : (i : ℕ) → i < length (places R) → any (repeats R (numbered i)) (places R) ≡ is_repeat (entry x.names.records) i
  unfolding repeats is_repeat
  repeat-is i h =
      let p = numbered i in
      both_ways
      (λ e.
      let r = any_some (repeats R p) (places R) e in
      let q = r.0 in
      let k = in-get_or (places R) q 0 r.1 in
      let lq = and_left (ltb q p && same (name R q) (name R p)) (sharing R q p) r.2 in
      let less : q < p = ltb-true q p (and_left (ltb q p) (same (name R q) (name R p)) lq) in
      let j : k.0 < i = less-numbered R k.0 i k.1.0 h (rw (← k.1.1) less) in
      some-scan (λ j'. same (entry x.names.records j') (entry x.names.records i)) i k.0 j
      (twins k.0 i j h ∙ rw (← k.1.1) (both (and_right (ltb q p && same (name R q) (name R p)) (sharing R q p) r.2) (and_right (ltb q p) (same (name R q) (name R p)) lq))))
      (λ e.
      let r = scan-some (λ j. same (entry x.names.records j) (entry x.names.records i)) i e in
      let q = numbered r.0 in
      let t = sym (twins r.0 i r.1 h) ∙ r.2 in
      any-in (repeats R p) (places R) q (get_or-in (places R) r.0 0 (omega (arith, r.1)))
      (both (both (lt-ltb q p (numbered-less R r.0 i r.1 h)) (and_right (sharing R q p) (same (name R q) (name R p)) t)) (and_left (sharing R q p) (same (name R q) (name R p)) t)))

  -- row 4: the record whose number the index gives
  fault-four : fault₄ R ≡ option_map numbered (scan (is_repeat (entry x.names.records)) (count x.names.records))
  unfolding fault₄
  fault-four =
      first-numbered (λ p. any (repeats R p) (places R)) (places R)
      ∙ rw x.count
      (ap (option_map numbered) (scan-same (λ i. any (repeats R (numbered i)) (places R)) (is_repeat (entry x.names.records)) (length (places R)) repeat-is))

  pub low : (f : ℕ → Bool) {i : ℕ} {o : Option ℕ} → o ≡ scan f (count x.names.records) → o ≡ Some i → i < length x.at.now
  low f {i} e z = let b = scan-below f (count x.names.records) i (sym e ∙ z) in omega (arith, x.count, ap length x.listed)

  pub fault-four-some : {i : ℕ} {o : Option ℕ} → o ≡ scan (is_repeat (entry x.names.records)) (count x.names.records) → o ≡ Some i → Some (get_or x.at.now i 0) ≡ fault₄ R
  fault-four-some {i} e z = sym (fault-four ∙ (ap (option_map numbered) (sym e ∙ z) ∙ ap (λ (l : List ℕ). Some (get_or l i 0)) (sym x.listed)))

  pub fault-four-none : {o : Option ℕ} → o ≡ scan (is_repeat (entry x.names.records)) (count x.names.records) → o ≡ None → None ≡ fault₄ R
  fault-four-none e z = sym (fault-four ∙ ap (option_map numbered) (sym e ∙ z))
