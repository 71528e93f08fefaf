-- The loop that fills the tables of the records: what it keeps, and one record more.
-- Assumes nothing.
use mathlib.Core.Path.{◌≡◌, refl, sym, ap, ◌∙◌}
use mathlib.Core.List.{List, []}
use Prim.Native.Nat.{ℕ, suc, ◌+◌, ◌*◌, ◌≤◌, ◌<◌}
use native.Mathlib.Omega.{arith}
use native.Mathlib.Nat.{suc-mul, mul-le-mul_right, mul-le-mul_left}
use lib.ListN.{length, get_or, take, drop, set, length-drop}
use lib.Seq.{ext_get_or, get_or-drop, get_or-take, length-sets, length-take-le, sets}
use Rattle.names.specs.Names.{field_at}
use Rattle.names.proofs.Tests.{three}
use Rattle.names.proofs.Stores.{stored-before, stored_at}
use Rattle.names.proofs.Tables.{Filled, filled-start, filled-one}
use Rattle.name_index.specs.Index.{name_of}
use Rattle.recipe.specs.Definitions.{holder}
use Rattle.recipe.specs.Records.{Recipe, kind, record_length, next, places, field, first_field}
use Rattle.recipe.proofs.Going.{none-past}
use Rattle.recipe.proofs.Reading.{readable}
use Rattle.recipe.proofs.Steps.{Over, At, over-step}
use Rattle.recipe.specs.Steps.{StepsTo}
use Rattle.recipe.specs.declared.Records.{Records}
use Rattle.std.specs.Prelude.{Some}
use Rattle.shadow.specs.Shadow.{Shadowed}
use Rattle.shadow.proofs.Cells.{step-next, kept-all, Walking, walk_start, walk-place, walk-one}
use Rattle.record_index.specs.Entries.{tag_of, tag_at, key_of, key_at, layout, Entered}
use Rattle.record_index.proofs.Places.{drop-next, drop-over, rest, rest_more, rest-start, next-least, place-room}

-- ---- the first fields
pub record Copying (s : Recipe) (out₀ out : List ℕ) (i : ℕ) : Type 0 where
  pub long : length out ≡ length out₀
  pub done : (j : ℕ) → j < i → name_of out (layout s.width) j ≡ first_field s (get_or (places s) j 0)

get_d_part : (w a : ℕ) (xs : List ℕ) (k : ℕ) → k < w → get_or (take w (drop a xs)) k 0 ≡ get_or xs (a + k) 0
get_d_part w a xs k l = get_or-take w (drop a xs) k 0 l ∙ get_or-drop a xs k 0

length_part : (w a : ℕ) (xs : List ℕ) → a + w ≤ length xs → length (take w (drop a xs)) ≡ w
length_part w a xs l = length-take-le w (drop a xs) (omega (arith, length-drop a xs))

-- two parts with the same bytes
same_parts : (w a b : ℕ) (xs ys : List ℕ) → a + w ≤ length xs → b + w ≤ length ys → ((k : ℕ) → k < w → get_or xs (a + k) 0 ≡ get_or ys (b + k) 0) → take w (drop a xs) ≡ take w (drop b ys)
same_parts w a b xs ys l m h =
    let z = length_part w a xs l in
    ext_get_or 0 (take w (drop a xs)) (take w (drop b ys)) (z ∙ sym (length_part w b ys m))
    (λ k u. let v : k < w = omega arith in get_d_part w a xs k v ∙ (h k v ∙ sym (get_d_part w b ys k v)))

copying-one : {s : Recipe} {out₀ out out' : List ℕ} {i : ℕ} (p : ℕ) → Copying s out₀ out i → p ≡ get_or (places s) i 0
    → p + 1 + s.width ≤ length s.bytes → i * s.width + s.width ≤ length out
    → out' ≡ sets out (i * s.width) (take s.width (drop (p + 1) s.bytes)) → Copying s out₀ out' (i + 1)
unfolding name_of first_field field field_at
copying-one {s} {out₀} {out} {out'} {i} p r e a b t =
    let w = s.width in
    let f = take w (drop (p + 1) s.bytes) in
    let lf : length f ≡ w = length_part w (p + 1) s.bytes a in
    let lo : length (sets out (i * w) f) ≡ length out = length-sets out (i * w) f in
    record {
      long = ap length t ∙ (lo ∙ r.long);
      done = λ j u.
          let m : suc j * w ≤ suc i * w = mul-le-mul_right w (omega arith) in
          let mj = suc-mul j w in
          let mi = suc-mul i w in
          rw t
          (three j i
          (λ z.
          let n : suc j * w ≤ i * w = mul-le-mul_right w z in
          same_parts w (j * w + 0) (j * w + 0) (sets out (i * w) f) out (omega arith) (omega arith) (λ k l. stored-before f out (i * w) (j * w + 0 + k) (omega arith))
          ∙ r.done j z)
          (λ z.
          rw (z, ← e)
          (same_parts w (i * w + 0) (p + 1 + 0) (sets out (i * w) f) s.bytes (omega arith) (omega arith)
          (λ k l.
          let o : i * w + 0 + k ≡ i * w + k = omega arith in
          let q : p + 1 + k ≡ p + 1 + 0 + k = omega arith in
          ap (λ (x : ℕ). get_or (sets out (i * w) f) x 0) o
          ∙ (stored_at f out (i * w) k (omega arith) (omega arith) ∙ (get_d_part w (p + 1) s.bytes k l ∙ ap (λ (x : ℕ). get_or s.bytes x 0) q)))))
          (λ z. absurd (omega arith)));
    }

-- ---- the keys
pub key-is : (s : Recipe) (p : ℕ) {d t k : ℕ} {f : List ℕ} → d ≡ holder s p → t ≡ tag_of (get_or s.bytes p 0) p d → f ≡ field_at s.width s.bytes (p + 1) → k ≡ key_of t f → k ≡ key_at s p
unfolding key_at tag_at kind first_field field
key-is s p a e g h = let z : p + 1 ≡ p + 1 + 0 = omega arith in rw (h, e, g, a, ← z)

-- ---- the three tables: the records from p on are left, and the first i are entered
pub record EntryLoop (s : Recipe) (t at₀ fields₀ keys₀ at fields keys : List ℕ) (i p : ℕ) : Type 0 where
  pub walk : Walking s [] t t p
  pub left : drop i (places s) ≡ rest s p
  pub room : i * (s.width + 1) ≤ p
  pub count : i ≤ length (places s)
  pub listing : Filled (λ j. get_or (places s) j 0) at₀ at i
  pub copying : Copying s fields₀ fields i
  pub keying : Filled (λ j. key_at s (get_or (places s) j 0)) keys₀ keys i

pub entering-start : (s : Recipe) (t at fields keys : List ℕ) → EntryLoop s t at fields keys at fields keys 0 0
entering-start s t at fields keys = record {
  walk = walk_start s [] t;
  left = rest-start s;
  room = omega arith;
  count = omega arith;
  listing = filled-start _ at;
  copying = record { long = refl; done = λ j h. absurd (omega arith) };
  keying = filled-start _ keys;
}

-- a step to the record at p, which is the first that is left
pub entering-step : {s : Recipe} {t at₀ fields₀ keys₀ at fields keys : List ℕ} {i p : ℕ} {a b : Records} → Over s a × EntryLoop s t at₀ fields₀ keys₀ at fields keys i a.at → StepsTo a (Some p) b
    → At s a p b × EntryLoop s t at₀ fields₀ keys₀ at fields keys i p
entering-step g e = let z = over-step g.0 e in (z, rw z.place at g.1)

module _ {s : Recipe} {t at₀ fields₀ keys₀ at fields keys : List ℕ} {i p : ℕ} (c : Shadowed s t) (g : EntryLoop s t at₀ fields₀ keys₀ at fields keys i p) where
  -- so many records fit
  pub entering-low : i < 1536
  entering-low =
      let k : i * 13 ≤ i * (s.width + 1) = mul-le-mul_left i (let m = c.wide in omega arith) in
      omega (arith, g.room, g.walk.within, c.short)

  -- the next field has room
  pub field_room : p < length s.bytes → (p + 1 + s.width ≤ length s.bytes) × (i * s.width + s.width ≤ 16384)
  field_room h =
      let m = place-room s p (walk-place c g.walk h) in
      let k : i * s.width ≤ i * (s.width + 1) = mul-le-mul_left i (omega arith) in
      (omega arith, omega (arith, g.room, c.short))

  module _ (a : 1536 ≤ length at₀) (b : 16384 ≤ length fields₀) (d : 1536 ≤ length keys₀) where
    pub entering-one : p < length s.bytes → {fields' : List ℕ} {k n : ℕ} → fields' ≡ sets fields (i * s.width) (take s.width (drop (p + 1) s.bytes)) → k ≡ key_at s p
        → n ≡ record_length s.width (get_or s.bytes p 0) → EntryLoop s t at₀ fields₀ keys₀ (set at i p) fields' (set keys i k) (i + 1) (p + n)
    entering-one h f e r =
        let read = readable s p (walk-place c g.walk h) in
        let low = entering-low in
        let fits = field_room h in
        let x = drop-next i (places s) p (rest s (next s p)) (g.left ∙ rest_more s p read) in
        let k = suc-mul i (s.width + 1) in
        let k2 : (i + 1) * (s.width + 1) ≡ suc i * (s.width + 1) = ap (λ (y : ℕ). y * (s.width + 1)) (omega arith) in
        record {
          walk = walk-one c g.walk h r (kept-all s [] t);
          left = x.2 ∙ ap (rest s) (sym (step-next s p r));
          room = omega (arith, g.room, next-least s p read, step-next s p r);
          count = omega (arith, x.0);
          listing = filled-one g.listing (omega (arith, g.listing.long)) (sym x.1);
          copying = copying-one p g.copying (sym x.1) fits.0 (omega (arith, fits.1, g.copying.long)) f;
          keying = filled-one g.keying (omega (arith, g.keying.long)) (e ∙ ap (key_at s) (sym x.1));
        }

    module _ (h : length s.bytes ≤ p) where
      pub entering-all : i ≡ length (places s)
      entering-all = omega (arith, g.count, drop-over i (places s) (g.left ∙ none-past s (length s.bytes) p h))

      pub entering-listed : take i at ≡ places s
      entering-listed =
          let k : length (take i at) ≡ i = length-take-le i at (omega (arith, entering-low, g.listing.long)) in
          ext_get_or 0 (take i at) (places s) (k ∙ entering-all) (λ j u. get_or-take i at j 0 (omega arith) ∙ g.listing.done j (omega arith))

      pub entering-end : Entered s fields keys
      entering-end =
          let all = entering-all in
          let low = entering-low in
          let w = s.width in
          let m : i * w ≤ i * (w + 1) = mul-le-mul_left i (omega arith) in
          let size : length (places s) * w ≡ i * w = ap (λ (x : ℕ). x * w) (sym all) in
          let room : i * w ≤ 16384 = omega (arith, g.room, g.walk.within, c.short) in
          record {
            few = omega arith;
            room = record { inside = omega arith; room = omega (arith, g.copying.long) };
            enough = omega (arith, g.keying.long);
            copied = λ j u. g.copying.done j (omega arith);
            keyed = λ j u. g.keying.done j (omega arith);
          }
