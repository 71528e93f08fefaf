-- Bytes written one after the other; the field of a flat name is its row, its name with the zeros behind it, and zeros.
-- Assumes nothing.
use mathlib.Core.Path.{◌≡◌, refl, sym, ap, ◌∙◌}
use Prim.Native.Nat.{ℕ, ◌+◌, ◌*◌, ◌-◌, ◌≤◌, ◌<◌}
use native.Mathlib.Omega.{arith}
use native.Mathlib.Nat.{mul-le-mul_left, mul-le-mul_right, suc-mul}
use mathlib.Core.List.{List, [], ◌++◌, append_assoc}
use lib.ListN.{length, get_or, take, drop, replicate, length-append, length-drop, length-replicate, replicate-append-replicate}
use lib.Seq.{paste, sets, sets-eq, length-take-le, take_all}
use borrow.Rule.Slice.PartMut.{put_mid}
use Rattle.std.proofs.lemmas.Slice.{put_mid-paste}
use Rattle.names.specs.Lists.{In, padded}
use Rattle.names.specs.Names.{field_at}
use Rattle.names.proofs.Names.{name-padding}
use Rattle.names.proofs.Stores.{sets-append}
use Rattle.names.proofs.Lists.{get_or-in}
use Rattle.flat_table.specs.Table.{flat_width}
use Rattle.recipe.specs.Records.{Recipe, field, first_field, name}
use Rattle.recipe.specs.Definitions.{main, elements}
use Rattle.recipe.proofs.Definitions.{in-elements, name-short}
use Rattle.recipe.proofs.Going.{class_low}
use Rattle.recipe.proofs.Rows.{first-name}
use Rattle.tree.specs.Tree.{instances, node, tree_elements, definition_at, Submodels}
use Rattle.tree.proofs.Nodes.{in_tree}
use Rattle.tree.proofs.Instances.{instance-path, at-most-four}
use Rattle.flat_names.specs.Prefixes.{flat_name}
use Rattle.flat_names.specs.Rows.{AllLengths, Naming, Prefixed, RowsTo, prefixes_of, row_width}
use Rattle.flat_names.proofs.Lengths.{prefixes-bytes}

-- ---- a part of a slice that is written over
pub pasted : (out s : List ℕ) (at n : ℕ) → at + n ≤ length out → n ≤ length s → paste out at s n ≡ sets out at (take n s)
pasted out s at n room h =
    let k : length (take n s) ≡ n = length-take-le n s h in
    sym (sets-eq (take n s) out at (omega arith) ∙ ap (λ (j : ℕ). take at out ++ take n s ++ drop (at + j) out) k)

-- n times x, in the k bytes from `at` on
pub filled : (out part : List ℕ) (x at k n : ℕ) → part ≡ replicate (length (take k (drop at out))) x → k ≡ n → at + n ≤ length out
    → put_mid at k out part ≡ sets out at (replicate n x)
filled out part x at k n e k-is room =
    let long : length (take k (drop at out)) ≡ n = length-take-le k (drop at out) (omega (arith, length-drop at out)) ∙ k-is in
    let whole : part ≡ replicate n x = e ∙ ap (λ (j : ℕ). replicate j x) long in
    let full : n ≡ length (replicate n x) = sym (length-replicate n x) in
    put_mid-paste at k out part (replicate n x) n whole (sym k-is) full
    ∙ (pasted out (replicate n x) at n room (omega arith) ∙ ap (sets out at) (take_all n (replicate n x) (omega arith)))

-- ---- three parts
pub parts : (out o₁ o₂ o₃ : List ℕ) (at : ℕ) (a b c : List ℕ) (l w : ℕ) → length a ≡ l → length b ≡ w
    → o₁ ≡ sets out at a → o₂ ≡ sets o₁ (at + l) b → o₃ ≡ sets o₂ (at + (l + w)) c → o₃ ≡ sets out at (a ++ b ++ c)
parts out o₁ o₂ o₃ at a b c l w la lb e₁ e₂ e₃ =
    let two : o₂ ≡ sets out at (a ++ b) =
    e₂ ∙ (ap (λ (o : List ℕ). sets o (at + l) b) e₁ ∙ (ap (λ (k : ℕ). sets (sets out at a) (at + k) b) (sym la) ∙ sym (sets-append a out at b))) in
    let on : at + (l + w) ≡ at + length (a ++ b) = omega (arith, length-append a b) in
    e₃ ∙ (ap (λ (o : List ℕ). sets o (at + (l + w)) c) two ∙ (ap (λ (k : ℕ). sets (sets out at (a ++ b)) k c) on ∙ sym (sets-append (a ++ b) out at c)))

-- ---- the field of a flat name
-- the prefixes, the name's field and zeros are the flat name's field
padded-parts : (w : ℕ) (p n : List ℕ) → length p ≤ 4 * w + 8 → length n ≤ w
    → p ++ padded w n ++ replicate (4 * w + 8 - length p) 0 ≡ padded (5 * w + 8) (p ++ n)
unfolding padded
padded-parts w p n hp hn =
    let a : List ℕ = replicate (w - length n) 0 in
    let b : List ℕ = replicate (4 * w + 8 - length p) 0 in
    let z : w - length n + (4 * w + 8 - length p) ≡ 5 * w + 8 - length (p ++ n) = rw length-append (omega arith) in
    append_assoc p (n ++ a) b
    ∙ (ap (λ (k : List ℕ). p ++ k) (append_assoc n a b)
    ∙ (sym (append_assoc p n (a ++ b))
    ∙ (ap (λ (k : List ℕ). p ++ n ++ k) (replicate-append-replicate (w - length n) (4 * w + 8 - length p) 0)
    ∙ ap (λ (k : ℕ). p ++ n ++ replicate k 0) z)))

-- ---- rows lie apart, and 64 of them have room
pub rows-below : (u i r : ℕ) → u < i → u * r + r ≤ i * r
rows-below u i r h = rw (← suc-mul) (mul-le-mul_right r h)

pub rows-room : (n w : ℕ) → n ≤ 64 → w ≤ 64 → n * row_width w ≤ 16896
rows-room n w h l = let a : n * (4 * w + 8) ≤ 64 * (4 * w + 8) = mul-le-mul_right (4 * w + 8) h in omega arith

pub row_inside : {s : Recipe} {pre len : List ℕ} {n i : ℕ} → RowsTo s pre len n → i < length (instances s)
    → (i < length len) × (i * row_width s.width + row_width s.width ≤ length pre)
row_inside {s} {pre} {len} {n} {i} t h =
    (omega (arith, t.lengths.counted), (let z : i * row_width s.width + row_width s.width ≤ length pre = omega (arith, t.room, rows-below i (length (instances s)) (row_width s.width) h) in z))

-- ---- a flat name, of the element at q in instance i
pub record NameAt (s : Recipe) (i q : ℕ) : Type 0 where
  pub short : length (prefixes_of s i) ≤ row_width s.width
  pub inside : q + 1 + s.width < length s.bytes
  pub reads : take s.width (drop (q + 1) s.bytes) ≡ padded s.width (name s q)
  pub named : flat_name s (node (get_or (instances s) i []) q) ≡ prefixes_of s i ++ name s q

field_room : (w at n : ℕ) → at + flat_width w ≤ n → at + (5 * w + 8) ≤ n
unfolding flat_width
field_room w at n h = h

-- what writing it needs: its row is inside and has room for the l bytes that are used, and so have the recipe for the name, and the output for the field
pub record NameRoom (s : Recipe) (pre out : List ℕ) (i q at l row : ℕ) : Type 0 where
  pub row-is : row ≡ row_width s.width
  pub row-inside : i * row + row ≤ length pre
  pub used : l ≤ row
  pub name-inside : q + 1 + s.width < length s.bytes
  pub field-inside : at + (5 * s.width + 8) ≤ length out

module _ (s : Recipe) (x : Naming s) where
  pub prefixes-short : (i : ℕ) → i < length (instances s) → length (prefixes_of s i) ≤ row_width s.width
  unfolding prefixes_of
  prefixes-short i h =
      let w = x.wide in
      let path = get_or (instances s) i [] in
      let p : Submodels s main path = instance-path s path (get_or-in (instances s) i [] h) in
      let four : (s.width + 2) * length path ≤ (s.width + 2) * 4 = mul-le-mul_left (s.width + 2) (at-most-four s x.small path p) in
      omega (arith, prefixes-bytes s (let t : 2 ≤ s.width = omega arith in t) x.formed main path p)

  pub element-low : (d q : ℕ) → In q (elements s d) → q + 1 + s.width < length s.bytes
  element-low d q i = let r = in-elements s d q i in class_low s q r.placed r.passes

  pub element-field : (d q : ℕ) → In q (elements s d) → take s.width (drop (q + 1) s.bytes) ≡ padded s.width (name s q)
  unfolding name first_field field field_at
  element-field d q i =
      let low = element-low d q i in
      let f = take s.width (drop (q + 1 + 0) s.bytes) in
      let l : length f ≡ s.width = length-take-le s.width (drop (q + 1 + 0) s.bytes) (omega (arith, length-drop (q + 1 + 0) s.bytes)) in
      let z : q + 1 ≡ q + 1 + 0 = omega arith in
      ap (λ (k : ℕ). take s.width (drop k s.bytes)) z ∙ name-padding s.width f (first-name s x.formed q (in-elements s d q i).placed) l

  pub name-at : (i q : ℕ) → i < length (instances s) → In (node (get_or (instances s) i []) q) (tree_elements s) → NameAt s i q
  unfolding node flat_name prefixes_of
  name-at i q h e =
      let path = get_or (instances s) i [] in
      let k : In q (elements s (definition_at s path)) = (in_tree s (node path q) e).1 in
      record {
        short = prefixes-short i h;
        inside = element-low (definition_at s path) q k;
        reads = element-field (definition_at s path) q k;
        named = refl;
      }

  -- its length is that of its prefixes, and its name's
  pub name-long : {len : List ℕ} {i l k : ℕ} (q : ℕ) → AllLengths s len → i < length (instances s) → In (node (get_or (instances s) i []) q) (tree_elements s)
      → l ≡ get_or len i 0 → k ≡ length (name s q) → l + k ≡ length (flat_name s (node (get_or (instances s) i []) q))
  name-long {len} {i} q t h e c n = omega (arith, ap length (name-at i q h e).named, length-append (prefixes_of s i) (name s q), t.each i h)

  row-short : (pre len : List ℕ) (i l : ℕ) → Prefixed s pre len → i < length (instances s) → l ≡ get_or len i 0 → l ≤ row_width s.width
  row-short pre len i l t h c = omega (arith, t.lengths.each i h, prefixes-short i h)

  pub name-room : {pre len out : List ℕ} {i q at l row : ℕ} → Prefixed s pre len → i < length (instances s) → In (node (get_or (instances s) i []) q) (tree_elements s)
      → at + flat_width s.width ≤ length out → l ≡ get_or len i 0 → row ≡ row_width s.width → NameRoom s pre out i q at l row
  name-room {pre} {len} {out} {i} {q} {at} {l} {row} t h e f c r =
      record {
        row-is = r;
        row-inside = rw r (row_inside t h).1;
        used = rw r (row-short pre len i l t h c);
        name-inside = (name-at i q h e).inside;
        field-inside = field_room s.width at (length out) f;
      }

  pub put-name : (pre len : List ℕ) (i q : ℕ) (out o₁ o₂ o₃ : List ℕ) (at l : ℕ) → Prefixed s pre len → i < length (instances s)
      → In (node (get_or (instances s) i []) q) (tree_elements s) → l ≡ get_or len i 0
      → o₁ ≡ sets out at (take l (drop (i * row_width s.width) pre))
      → o₂ ≡ sets o₁ (at + l) (take s.width (drop (q + 1) s.bytes))
      → o₃ ≡ sets o₂ (at + (l + s.width)) (replicate (row_width s.width - l) 0)
      → o₃ ≡ sets out at (padded (flat_width s.width) (flat_name s (node (get_or (instances s) i []) q)))
  unfolding flat_width padded
  put-name pre len i q out o₁ o₂ o₃ at l t h e c e₁ e₂ e₃ =
      let n = name-at i q h e in
      let p = prefixes_of s i in
      let k : l ≡ length p = c ∙ t.lengths.each i h in
      let f : List ℕ = padded s.width (name s q) in
      let b : List ℕ = replicate (row_width s.width - length p) 0 in
      let lf : length f ≡ s.width = rw (length-append, length-replicate) (omega (arith, name-short s q)) in
      parts out o₁ o₂ o₃ at p f b (length p) s.width refl lf
      (e₁ ∙ (ap (λ (j : ℕ). sets out at (take j (drop (i * row_width s.width) pre))) k ∙ ap (sets out at) (t.bytes i h)))
      (e₂ ∙ rw (k, n.reads))
      (e₃ ∙ rw k)
      ∙ ap (sets out at) (padded-parts s.width p (name s q) n.short (name-short s q) ∙ ap (padded (5 * s.width + 8)) (sym n.named))
