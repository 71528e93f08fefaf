-- The rows of a table by position, each fault of a row, and what the index of the names answers. Assumes nothing.
use Rattle.std.specs.Prelude.{None, Option, Some, is_some, option_map}
use mathlib.Core.Path.{◌≡◌, refl, sym, ap, ◌∙◌}
use mathlib.Core.Bool.{Bool, true, false, not, ◌&&◌, ◌||◌, or-true}
use mathlib.Core.List.{List, [], ◌∷◌, map}
use Prim.Native.Nat.{ℕ, zero, suc, ◌+◌, ◌*◌, ◌/◌, ◌%◌, ◌<◌, ◌≤◌}
use native.Mathlib.Omega.{arith}
use native.Mathlib.Nat.{suc-mul, zero-mul, mul-le-mul_right, mul-lt-mul_of_pos_right, div-mul-le_self, div-le_of_le-mul, mul_comm}
use lib.ListN.{length, get_or, take, drop}
use lib.Dec.{ltb, eqb}
use borrow.Author.Tests.{eq-eqb, ne_eqb, lt-ltb, le-ltb, ltb-true, ltb-false}
use Rattle.names.specs.Lists.{first, same}
use Rattle.names.specs.Scans.{scan, first_from, table}
use Rattle.names.specs.Names.{field_at, is_blank, is_name, is_name_or_blank}
use Rattle.std.specs.List.{AllWithin, HoldsAt, range_with_len}
use Rattle.std.specs.Option.{MatchOption}
use Rattle.name_index.specs.declared.Layout.{Layout}
use Rattle.name_index.specs.Hash.{hash_of}
use Rattle.name_index.specs.Index.{name_of, keyed_name, is_repeat, Hashed}
use Rattle.name_index.specs.Positions.{count, entry}
use Rattle.flat_table.specs.Classes.{is_class, parent_allowed, reference_allowed}
use Rattle.flat_table.specs.Table.{most_rows, rows_from, row_count, rows, row_kind, row_name, row_parent, row_reference, row_named, fault₁₄, is_malformed_row, is_repeated_row, fault₁₆, is_link_fault, is_parent_row, is_reference_row}
use Rattle.flat_table.specs.Rows.{Fields, RowAt}
use Rattle.flat_table.specs.declared.IndexedRows.{IndexedRows}
use Rattle.names.proofs.Tests.{by_cases, both_ways, and_left, and_right, is_some-map, some-map}
use Rattle.names.proofs.Lists.{any-first, same-eq}
use Rattle.names.proofs.Scans.{scan-below, scan-same, scan-some, some-scan}
use Rattle.names.proofs.Tables.{table-length, table_at}
use Rattle.name_index.proofs.Hashing.{scan-hashed, repeats-hashed}

-- ---- a whole record: the product of two variables is bounded here alone
pub row_at : {t : List ℕ} {l : Layout} {p : ℕ} → Fields l → p < length t / l.stride → RowAt t l (p * l.stride)
row_at {t} {l} {p} f h =
    let m : suc p * l.stride ≤ length t / l.stride * l.stride = mul-le-mul_right l.stride (omega arith) in
    let e = suc-mul p l.stride in
    record { fields = f; room = omega (arith, div-mul-le_self (length t) l.stride) }

-- ---- what a search of a list finds
module _ (f : ℕ → Bool) where
  none_found : (xs : List ℕ) → AllWithin (λ p. f p ≡ false) xs 0 (length xs) → None ≡ first f xs
  none_found [] h = refl
  none_found (x ∷ xs) h = rw (h 0 0 (omega arith) (omega arith), first) (none_found xs (λ k d l u. h (suc k) d (omega arith) (omega arith)))

  some_found : (xs : List ℕ) (i : ℕ) {x : ℕ} → f x ≡ true → i < length xs → get_or xs i 0 ≡ x → AllWithin (λ p. f p ≡ false) xs 0 i → Some x ≡ first f xs
  some_found [] i t l e h = absurd (omega arith)
  some_found (y ∷ ys) zero t l e h = let u : f y ≡ true = rw e t in rw (u, first) (ap Some (sym e))
  some_found (y ∷ ys) (suc i) t l e h = rw (h 0 0 (omega arith) (omega arith), first) (some_found ys i t (omega arith) e (λ k d u v. h (suc k) d (omega arith) (omega arith)))

  pub found-first : (xs : List ℕ) (o : Option ℕ)
      → MatchOption o (AllWithin (λ p. f p ≡ false) xs 0 (length xs)) (λ x. (f x ≡ true) × (i : ℕ) × (i < length xs) × HoldsAt (λ y. y ≡ x) xs i × AllWithin (λ p. f p ≡ false) xs 0 i)
      → o ≡ first f xs
  found-first xs None h = none_found xs h
  found-first xs (Some x) h = some_found xs h.1 h.0 h.2 (h.3 0) h.4

-- ---- rows by position
module _ (w s : ℕ) where
  first_rows : (f : ℕ → Bool) (n p : ℕ) → first f (rows_from w s n (p * s)) ≡ option_map (λ q. q * s) (first_from (λ q. f (q * s)) p n)
  unfolding rows_from first_from
  first_rows f zero p = refl
  first_rows f (suc n) p =
      by_cases (f (p * s))
      (λ e. rw (e, first))
      (λ e. rw (e, first) (ap (λ (k : ℕ). first f (rows_from w s n k)) (sym (suc-mul p s)) ∙ first_rows f n (suc p)))

  pub first-scan : (f : ℕ → Bool) (t : List ℕ) (n : ℕ) → n ≡ length t / s → first f (rows w s t) ≡ option_map (λ q. q * s) (scan (λ q. f (q * s)) n)
  unfolding rows row_count scan
  first-scan f t n e = rw (← e) (ap (λ (k : ℕ). first f (rows_from w s n k)) (sym (zero-mul s)) ∙ first_rows f n 0)

  -- the places of the records
  places-from : (a n : ℕ) → map (λ p. p * s) (range_with_len a n) ≡ rows_from w s n (a * s)
  unfolding rows_from
  places-from a zero = refl
  places-from a (suc n) = ap (λ (l : List ℕ). a * s ∷ l) (places-from (a + 1) n ∙ ap (rows_from w s n) (let e = suc-mul a s in omega arith))

  pub places-are : (t : List ℕ) {n : ℕ} → n ≡ length t / s → map (λ p. p * s) (range_with_len 0 n) ≡ rows w s t
  unfolding rows row_count
  places-are t {n} e = places-from 0 n ∙ (ap (rows_from w s n) (zero-mul s) ∙ ap (λ (k : ℕ). rows_from w s k 0) e)

less_product : (p q s : ℕ) → q * s < p * s → q < p
less_product p q s h =
    by_cases (ltb q p) (λ t. ltb-true q p t)
    (λ t. absurd (let k : p * s ≤ q * s = mul-le-mul_right s (ltb-false q p t) in omega arith))

module _ (t : List ℕ) (l : Layout) (n : ℕ) (f : Fields l) (count : n ≡ length t / l.stride) where
  name-is : (p : ℕ) → row_name l.width l.stride t (p * l.stride) ≡ name_of t l p
  unfolding row_name field_at name_of
  name-is p = ap (λ (k : ℕ). take l.width (drop (p * l.stride + k) t)) (sym f.one)

  pub named : (g : List ℕ) → row_named l.width l.stride t g ≡ option_map (λ q. q * l.stride) (scan (λ q. same (name_of t l q) g) n)
  unfolding row_named
  named g =
      first-scan l.width l.stride (λ p. same (row_name l.width l.stride t p) g) t n count
      ∙ ap (option_map (λ q. q * l.stride))
      (scan-same (λ q. same (row_name l.width l.stride t (q * l.stride)) g) (λ q. same (name_of t l q) g) n (λ q h. rw (name-is q)))

  repeated : (p : ℕ) → p < n → is_repeated_row l.width l.stride t (p * l.stride) ≡ is_repeat (name_of t l) p
  unfolding is_repeated_row is_repeat
  repeated p h =
      let s = l.stride in
      let R : ℕ → Bool = λ q. ltb q (p * s) && same (row_name l.width s t q) (row_name l.width s t (p * s)) in
      any-first R (rows l.width s t)
      ∙ (ap is_some (first-scan l.width s R t n count)
      ∙ (is_some-map (λ q. q * s) (scan (λ q. R (q * s)) n)
      ∙ both_ways
      (λ e.
      let x = scan-some (λ q. R (q * s)) n e in
      let a = and_left (ltb (x.0 * s) (p * s)) (same (row_name l.width s t (x.0 * s)) (row_name l.width s t (p * s))) x.2 in
      let b = and_right (ltb (x.0 * s) (p * s)) (same (row_name l.width s t (x.0 * s)) (row_name l.width s t (p * s))) x.2 in
      some-scan (λ q. same (name_of t l q) (name_of t l p)) p x.0 (less_product p x.0 s (ltb-true (x.0 * s) (p * s) a)) (sym (same-eq (name-is x.0) (name-is p)) ∙ b))
      (λ e.
      let x = scan-some (λ q. same (name_of t l q) (name_of t l p)) p e in
      let k : 0 < s = omega (arith, f.three) in
      let a = lt-ltb (x.0 * s) (p * s) (mul-lt-mul_of_pos_right x.1 k) in
      some-scan (λ q. R (q * s)) n x.0 (omega (arith, x.1)) (rw a (same-eq (name-is x.0) (name-is p) ∙ x.2)))))

  pub fault-16 : fault₁₆ l.width l.stride t ≡ option_map (λ q. q * l.stride) (scan (is_repeat (name_of t l)) n)
  unfolding fault₁₆
  fault-16 =
      first-scan l.width l.stride (is_repeated_row l.width l.stride t) t n count
      ∙ ap (option_map (λ q. q * l.stride))
      (scan-same (λ q. is_repeated_row l.width l.stride t (q * l.stride)) (is_repeat (name_of t l)) n repeated)

-- ---- row 17 of a field that links: g is the field as the code has it
module _ (w s : ℕ) (t f : List ℕ) (blank_allowed : Bool) (is_link : ℕ → Bool) (g : List ℕ) (eg : g ≡ f) {b : Bool} (eb : b ≡ is_blank g) where
  blank-is : is_blank f ≡ b
  blank-is = sym (eb ∙ ap is_blank eg)

  pub link-blank : {z : Bool} → b ≡ true → z ≡ blank_allowed → not z ≡ is_link_fault w s t f blank_allowed is_link
  unfolding is_link_fault
  link-blank h k = rw (k, blank-is ∙ h)

  pub link-missing : b ≡ false → row_named w s t g ≡ None → true ≡ is_link_fault w s t f blank_allowed is_link
  unfolding is_link_fault
  link-missing h k = rw (blank-is ∙ h, sym (ap (row_named w s t) eg) ∙ k)

  pub link-there : {z : Bool} (q : ℕ) → b ≡ false → row_named w s t g ≡ Some q → z ≡ is_link q → not z ≡ is_link_fault w s t f blank_allowed is_link
  unfolding is_link_fault
  link-there q h k m = rw (blank-is ∙ h, sym (ap (row_named w s t) eg) ∙ k, m)

-- an earlier record of a class that the parent may have
pub parent_row : (w s : ℕ) (t : List ℕ) (p q : ℕ) {c : ℕ} {z : Bool} → c ≡ row_kind w s t p → z ≡ parent_allowed c (Some (get_or t q 0)) → ltb q p && z ≡ is_parent_row w s t p q
unfolding is_parent_row row_kind
parent_row w s t p q k e = rw (e, k)

pub reference-row : (w s : ℕ) (t : List ℕ) (p q : ℕ) {c : ℕ} {z : Bool} → c ≡ row_kind w s t p → z ≡ reference_allowed c (Some (get_or t q 0)) → z ≡ is_reference_row w s t p q
unfolding is_reference_row row_kind
reference-row w s t p q k e = rw (e, k)

-- ---- row 14
module _ (w s : ℕ) (t : List ℕ) where
  pub uneven : (length t % s ≡ 0 → ⊥) → fault₁₄ w s t ≡ Some 0
  unfolding fault₁₄
  uneven n = rw (ne_eqb (length t % s) 0 n)

  pub over : length t % s ≡ 0 → 1024 * s < length t → fault₁₄ w s t ≡ Some 0
  unfolding fault₁₄ most_rows
  over e h = rw (eq-eqb (length t % s) 0 e, lt-ltb (1024 * s) (length t) h)

  pub whole : length t % s ≡ 0 → length t ≤ 1024 * s → fault₁₄ w s t ≡ None
  unfolding fault₁₄ most_rows
  whole e h = rw (eq-eqb (length t % s) 0 e, le-ltb (1024 * s) (length t) h)

  pub whole-short : fault₁₄ w s t ≡ None → length t ≤ 1024 * s
  unfolding fault₁₄ most_rows
  whole-short e =
      by_cases (ltb (1024 * s) (length t))
      (λ b. absurd (let m : Some 0 ≡ None = rw (b, or-true (not (eqb (length t % s) 0))) at e in cc))
      (λ b. ltb-false (1024 * s) (length t) b)

-- ---- row 15 of a record, from what its readers answer
pub row-malformed : (w s : ℕ) (t : List ℕ) (p : ℕ) {a b c d : Bool} → a ≡ is_class (row_kind w s t p) → b ≡ is_name (row_name w s t p)
    → c ≡ is_name_or_blank (row_parent w s t p) → d ≡ is_name_or_blank (row_reference w s t p) → not a || not b || not c || not d ≡ is_malformed_row w s t p
unfolding is_malformed_row
row-malformed w s t p ea eb ec ed = rw (ea, eb, ec, ed)

-- ---- the names' index: what it answers by hash and name it answers by name, and a position is a place
module _ (x : IndexedRows) where
  entries : entry x.names.records ≡ keyed_name x.names.records.keys.now x.rows.bytes.now x.rows.layout
  entries =
      let keys = x.names.records.keys.now in
      ap (λ (b : List ℕ). keyed_name keys b x.names.records.layout) x.bytes ∙ ap (λ (l : Layout). keyed_name keys x.rows.bytes.now l) x.layout

  by-name : {k : ℕ} (g : List ℕ) → k ≡ hash_of g
      → scan (λ p. same (entry x.names.records p) (k ∷ g)) (count x.names.records) ≡ scan (λ p. same (name_of x.rows.bytes.now x.rows.layout p) g) (length x.rows.bytes.now / x.rows.layout.stride)
  by-name g e =
      let n = count x.names.records in
      ap (λ (k : ℕ). scan (λ p. same (entry x.names.records p) (k ∷ g)) n) e
      ∙ (ap (λ (name : ℕ → List ℕ). scan (λ p. same (name p) (hash_of g ∷ g)) n) entries
      ∙ (scan-hashed x.names.records.keys.now x.rows.bytes.now x.rows.layout n x.hashed g
      ∙ ap (scan (λ p. same (name_of x.rows.bytes.now x.rows.layout p) g)) x.count))

  repeats : scan (is_repeat (entry x.names.records)) (count x.names.records) ≡ scan (is_repeat (name_of x.rows.bytes.now x.rows.layout)) (length x.rows.bytes.now / x.rows.layout.stride)
  repeats =
      let n = count x.names.records in
      ap (λ (name : ℕ → List ℕ). scan (is_repeat name) n) entries
      ∙ (repeats-hashed x.names.records.keys.now x.rows.bytes.now x.rows.layout n x.hashed ∙ ap (scan (is_repeat (name_of x.rows.bytes.now x.rows.layout))) x.count)

  pub found-row : {k : ℕ} (g : List ℕ) {o : Option ℕ} → k ≡ hash_of g → o ≡ scan (λ p. same (entry x.names.records p) (k ∷ g)) (count x.names.records)
      → option_map (λ q. q * x.rows.layout.stride) o ≡ row_named x.rows.layout.width x.rows.layout.stride x.rows.bytes.now g
  found-row g e z =
      let l = x.rows.layout in
      let t = x.rows.bytes.now in
      ap (option_map (λ q. q * l.stride)) (z ∙ by-name g e) ∙ sym (named t l (length t / l.stride) x.rows.fields refl g)

  pub repeated-row : {o : Option ℕ} → o ≡ scan (is_repeat (entry x.names.records)) (count x.names.records)
      → option_map (λ q. q * x.rows.layout.stride) o ≡ fault₁₆ x.rows.layout.width x.rows.layout.stride x.rows.bytes.now
  repeated-row z =
      let l = x.rows.layout in
      let t = x.rows.bytes.now in
      ap (option_map (λ q. q * l.stride)) (z ∙ repeats) ∙ sym (fault-16 t l (length t / l.stride) x.rows.fields refl)

  -- a record that the index answers is whole
  pub answered-row : (f : ℕ → Bool) {p : ℕ} {o : Option ℕ} → o ≡ scan f (count x.names.records) → o ≡ Some p → RowAt x.rows.bytes.now x.rows.layout (p * x.rows.layout.stride)
  answered-row f {p} z u = let b = scan-below f (count x.names.records) p (sym z ∙ u) in row_at x.rows.fields (omega (arith, x.count))

-- the record that a name leads to is whole, so that its kind byte stands in the table
pub named-inside : (t : List ℕ) {l : Layout} {q : ℕ} (g : List ℕ) {o : Option ℕ} → Fields l → o ≡ row_named l.width l.stride t g → o ≡ Some q → q < length t
named-inside t {l} {q} g f e z =
    let m = some-map (λ p. p * l.stride) (scan (λ p. same (name_of t l p) g) (length t / l.stride)) q (sym (named t l (length t / l.stride) f refl g) ∙ (sym e ∙ z)) in
    let r : RowAt t l q = rw m.2 (row_at f (scan-below (λ p. same (name_of t l p) g) (length t / l.stride) m.0 m.1)) in
    omega (arith, r.room, r.fields.three)

-- ---- the index that is built
pub few : (t : List ℕ) (s : ℕ) → length t ≤ 1024 * s → length t / s ≤ 1024
few t s h = div-le_of_le-mul s (rw (mul_comm s 1024) h)

-- the keys that were written are the hashes of the names
pub hashes : (t : List ℕ) (l : Layout) (n : ℕ) {keys : List ℕ} → keys ≡ table (λ p. hash_of (name_of t l p)) n → Hashed keys (name_of t l) (length keys)
hashes t l n e p h =
    let f : ℕ → ℕ = λ p. hash_of (name_of t l p) in
    ap (λ (y : List ℕ). get_or y p 0) e ∙ table_at f n p (omega (arith, ap length e, table-length f n))
