-- The entries of the companion: which elements have one, the bytes of each, and how they are written.
-- Assumes nothing.
use Rattle.std.specs.Prelude.{None, Option, Some}
use mathlib.Core.Path.{◌≡◌, refl, sym, ap, ◌∙◌}
use Prim.Native.Nat.{ℕ, ◌+◌, ◌*◌, ◌≤◌, ◌<◌}
use native.Mathlib.Omega.{arith}
use native.Mathlib.Numerals.{add-one}
use mathlib.Core.Bool.{false, not, true, ◌||◌}
use mathlib.Core.List.{List, [], ◌++◌, ◌∷◌, map, append-nil}
use lib.Dec.{eqb}
use lib.ListN.{length, get_or, set, take, drop, length-append, length-map}
use lib.Seq.{sets, sets-eq, length-sets, take_at, length-take-le}
use Rattle.names.specs.Lists.{In, joined, keep, padded}
use Rattle.names.proofs.Lists.{get_or-in, in-keep, joined_length, keep-length, keep-off, keep-on}
use Rattle.names.proofs.Stores.{sets-append}
use Rattle.flat_table.specs.Table.{flat_width}
use Rattle.recipe.specs.Reading.{fault₃, fault₅}
use Rattle.recipe.specs.Records.{Recipe, extent_field, time_field}
use Rattle.tree.specs.Faults.{fault₇}
use Rattle.tree.specs.Numbers.{run}
use Rattle.tree.specs.Tree.{Node, instances, most_depth, node, tree_elements}
use Rattle.tree.proofs.Nodes.{in_tree}
use Rattle.tree.proofs.Numbering.{joined-append, map-append, run-append}
use Rattle.marks.specs.Marks.{is_gone, survivors}
use Rattle.marks.proofs.Survivors.{survivor}
use Rattle.flat_names.specs.Prefixes.{flat_name}
use Rattle.flat_names.specs.Rows.{Naming}
use Rattle.flat_names.proofs.Filling.{naming}
use Rattle.flat_names.proofs.Puts.{rows-below}
use Rattle.compose.specs.Composed.{Composed}
use Rattle.composer.specs.Flat.{flat_field}
use Rattle.elements.proofs.Elements.{elements-few}
use Rattle.elements.specs.Gone.{Numbers}
use Rattle.references.specs.References.{ClassAt}
use Rattle.composer.specs.declared.Site.{Site}
use Rattle.composer.specs.Surviving.{surviving}
use Rattle.composer.specs.Writing.{SiteInTree, element_at, row_site, site_of}
use Rattle.composer.proofs.ByNumber.{element-in, element-number, instance-low, path-is, row_room, site-is}
use Rattle.composer.proofs.Handed.{fated}
use Rattle.composer.proofs.Lengths.{field-bytes, name-field}
use Rattle.composer.proofs.Surviving.{Staying, keep-map, stay-here, stay-on, stay-start, survivors-are}
use Rattle.composer.proofs.Writing.{WriteLoop, write-end, write-on, write-room, write-start}
use Rattle.factors.specs.Companion.{companion, companion_record, entry_length, factor_at, factor_fields, is_rated, rated}
use Rattle.factors.specs.Sites.{RowFor, SiteIs, Sited, factor_field, fields_to, stored_site}
use Rattle.factors.proofs.Paths.{factor-in, field_in}
use Rattle.factors.proofs.Sites.{site-tree}

-- ---- who has an entry
abbrev pub entries_left : Recipe → List ℕ → List Node
entries_left s left = keep (is_rated s) (map (element_at s) left)

module _ (s : Recipe) {left more : List ℕ} {e : ℕ} (y : left ≡ e ∷ more) where
  entries-on : is_rated s (element_at s e) ≡ true → entries_left s left ≡ element_at s e ∷ entries_left s more
  entries-on k = rw y (keep-on (is_rated s) (element_at s e) (map (element_at s) more) k)

  entries-off : is_rated s (element_at s e) ≡ false → entries_left s left ≡ entries_left s more
  entries-off k = rw y (keep-off (is_rated s) (element_at s e) (map (element_at s) more) k)

pub rated-tree : (s : Recipe) (x : Node) → In x (rated s) → In x (survivors s)
unfolding rated
rated-tree s x i = (in-keep (is_rated s) (survivors s) x i).0

pub rated-few : (s : Recipe) → fault₇ s ≡ None → length (rated s) ≤ 1024
unfolding rated survivors
rated-few s h₇ = omega (arith, keep-length (is_rated s) (survivors s), keep-length (λ x. not (is_gone s x)) (tree_elements s), elements-few s h₇)

module _ {s : Recipe} {t inst el : List ℕ} {insts elems : ℕ} (C : Composed s t inst el insts elems) where
  h₅ : fault₅ s ≡ None
  h₅ = C.targeted.planted.measured.linked.row₅

  h₇ : fault₇ s ≡ None
  h₇ = C.targeted.planted.row₇

  names : Naming s
  names = naming C.targeted.planted

  two : 2 ≤ s.width
  two = omega (arith, names.wide)

  module _ {e : ℕ} (l : e < length (tree_elements s)) where
    pub entry_row : 5 * e + 5 ≤ length el
    entry_row = row_room h₇ C.elements e l

    pub is-number : Numbers s e
    is-number = (element_at s e, element-in s h₇ e l, element-number s h₇ e l)

    pub rated-entry : {k : ℕ} → ClassAt s e k → (eqb k 4 || eqb k 6) ≡ is_rated s (element_at s e)
    unfolding is_rated
    rated-entry K = rw (K (element_at s e) (element-in s h₇ e l) (element-number s h₇ e l))

  -- ---- of the survivors that are left, those with an entry
  entries-are : {left : List ℕ} → left ≡ surviving el 0 elems → entries_left s left ≡ rated s
  unfolding rated
  entries-are e = rw e (ap (keep (is_rated s)) (survivors-are (fated C)))

  pub entries-counted : {left : List ℕ} → left ≡ surviving el 0 elems → length (keep (λ e. is_rated s (element_at s e)) left) ≡ length (rated s)
  entries-counted {left} e =
      sym (length-map (keep (λ e. is_rated s (element_at s e)) left) (element_at s)) ∙ ap length (sym (keep-map (element_at s) (is_rated s) left) ∙ entries-are e)

-- ---- its bytes
module _ (s : Recipe) (two : 2 ≤ s.width) (h₃ : fault₃ s ≡ None) (h₅ : fault₅ s ≡ None) (h₇ : fault₇ s ≡ None) where
  module _ (p : List ℕ) (i : In p (instances s)) where
    fields-length : (field : Recipe → ℕ → List ℕ) → length (factor_fields s field p) ≡ most_depth * flat_width s.width
    unfolding factor_fields most_depth
    fields-length field =
        joined_length (λ k. flat_field s (factor_at s field p k)) (flat_width s.width) (run 1 4) (λ k n. field-bytes s two h₃ h₇ (factor_at s field p k) (λ y m. factor-in s h₅ h₇ p i field k y m))
        ∙ omega arith

  -- "613 × entries"
  pub entry-bytes : (x : Node) → In x (tree_elements s) → length (companion_record s x) ≡ entry_length s.width
  unfolding companion_record entry_length most_depth
  entry-bytes x i =
      let p = (in_tree s x i).0 in
      rw (length-append, length-append, name-field s two h₃ h₇ h₅ x i, fields-length x.path p time_field, fields-length x.path p extent_field) (omega arith)

  pub companion-bytes : length (companion s) ≡ entry_length s.width * length (rated s)
  unfolding companion
  companion-bytes = joined_length (companion_record s) (entry_length s.width) (rated s) (λ x i. entry-bytes x (survivor s x (rated-tree s x i)).0)

-- ---- the eight fields, one behind the other
module _ (s : Recipe) (p : List ℕ) where
  pub eight-fields : fields_to s p 8 ≡ factor_fields s time_field p ++ factor_fields s extent_field p
  unfolding factor_fields factor_field most_depth
  eight-fields =
      joined-append (map (λ k. flat_field s (factor_at s time_field p k)) (run 1 4)) (map (λ k. flat_field s (factor_at s extent_field p k)) (run 1 4))

  one_field : (j : ℕ) → fields_to s p (j + 1) ≡ fields_to s p j ++ flat_field s (factor_field s p j)
  one_field j =
      let f : ℕ → List ℕ = λ k. flat_field s (factor_field s p k) in
      ap (λ (ks : List ℕ). joined (map f ks)) (run-append 0 j 1)
      ∙ ap joined (map-append f (run 0 j) (run (0 + j) 1))
      ∙ joined-append (map f (run 0 j)) (map f (run (0 + j) 1))
      ∙ ap (λ (k : ℕ). joined (map f (run 0 j)) ++ joined (map f (run k 1))) (let e : 0 + j ≡ j = omega arith in e)
      ∙ ap (λ (l : List ℕ). joined (map f (run 0 j)) ++ l) (append-nil (f j))

-- j fields of instance i are written
pub record FieldsLoop (s : Recipe) (i : ℕ) (row₀ row : List ℕ) (j : ℕ) : Type 0 where
  pub low : j ≤ 8
  pub long : length row ≡ length row₀
  pub bytes : length (fields_to s (get_or (instances s) i []) j) ≡ j * flat_width s.width
  pub is : row ≡ sets row₀ 0 (fields_to s (get_or (instances s) i []) j)

module _ {s : Recipe} {t inst el : List ℕ} {insts elems : ℕ} (C : Composed s t inst el insts elems) where
  pub narrow-field : flat_width s.width ≤ 328
  unfolding flat_width
  narrow-field = omega (arith, (names C).narrow)

  module _ {row₀ row : List ℕ} {i j : ℕ} (g : FieldsLoop s i row₀ row j) (room : 2624 ≤ length row₀) where
    module _ (l : j < 8) where
      module _ {f : ℕ} (f-is : f ≡ flat_width s.width) where
        pub fields_fit : j * f + f ≤ 2624
        fields_fit = rw f-is (omega (arith, narrow-field, rows-below j 8 (flat_width s.width) l))

        pub fields-room : j * f + flat_width s.width ≤ length row
        fields-room = omega (arith, fields_fit, f-is, g.long, room)

      module _ {sites : List ℕ} (S : Sited s sites) (low : i < length (instances s)) {x : Option Site} (x-is : x ≡ stored_site sites (16 * i + 2 * j)) where
        here : SiteIs s (factor_field s (get_or (instances s) i []) j) x
        here = rw x-is (S.are i j low l)

        factor-tree : (y : Node) → factor_field s (get_or (instances s) i []) j ≡ Some y → In y (tree_elements s)
        factor-tree = field_in s (h₅ C) (h₇ C) (get_or (instances s) i []) (get_or-in (instances s) i [] low) j

        pub here-tree : SiteInTree s x
        here-tree = site-tree x here factor-tree

        module _ {f : ℕ} (f-is : f ≡ flat_width s.width) {row' : List ℕ} where
          turned : row' ≡ sets row (j * f) (flat_field s (site_of s x)) → FieldsLoop s i row₀ row' (j + 1)
          turned e =
              let past = fields_to s (get_or (instances s) i []) j in
              let F = flat_field s (factor_field s (get_or (instances s) i []) j) in
              let long : length F ≡ flat_width s.width =
              field-bytes s (two C) (names C).formed (h₇ C) (factor_field s (get_or (instances s) i []) j) factor-tree in
              let more : fields_to s (get_or (instances s) i []) (j + 1) ≡ past ++ F = one_field s (get_or (instances s) i []) j in
              let size : length (fields_to s (get_or (instances s) i []) (j + 1)) ≡ j * flat_width s.width + flat_width s.width =
              omega (arith, ap length more, length-append past F, g.bytes, long) in
              let at-is : j * f ≡ 0 + length past = rw f-is (omega (arith, g.bytes)) in
              record {
                low = omega arith;
                long = ap length e ∙ length-sets row (j * f) (flat_field s (site_of s x)) ∙ g.long;
                bytes = size ∙ rw (add-one j) (omega arith);
                is =
                    e
                    ∙ ap (λ (o : Option Node). sets row (j * f) (flat_field s o)) here.is
                    ∙ ap (λ (y : List ℕ). sets y (j * f) F) g.is
                    ∙ ap (λ (k : ℕ). sets (sets row₀ 0 past) k F) at-is
                    ∙ sym (sets-append past row₀ 0 F)
                    ∙ ap (sets row₀ 0) (sym more);
              }

          -- by prefixes of the same recipe
          pub fields-turn : {r : Recipe} → r ≡ s → row' ≡ sets row (j * f) (flat_field r (site_of r x)) → FieldsLoop s i row₀ row' (j + 1)
          fields-turn q e = turned (rw q at e)

    pub fields-end : 8 ≤ j → RowFor s i row
    fields-end h =
        let e : j ≡ 8 = omega (arith, g.low) in
        let past = fields_to s (get_or (instances s) i []) 8 in
        let is : row ≡ sets row₀ 0 past = rw e at g.is in
        let long : length past ≡ 8 * flat_width s.width = rw e at g.bytes in
        ap (take (8 * flat_width s.width)) (is ∙ sets-eq past row₀ 0 (omega (arith, room, narrow-field))) ∙ take_at past (drop (0 + length past) row₀) (8 * flat_width s.width) long

-- ---- the survivors that are left, and what is written
abbrev pub Entering : Recipe → List ℕ → ℕ → List ℕ → List ℕ → List ℕ → ℕ → Type 0
Entering s el elems out₀ out left p = Staying el elems left × WriteLoop (companion_record s) (rated s) out₀ out (entries_left s left) p

-- ---- the entry of the element of number e
module _ {s : Recipe} {t inst el : List ℕ} {insts elems : ℕ} (C : Composed s t inst el insts elems) where
  companion-room : {n : ℕ} → entry_length s.width * length (rated s) ≤ n → length (companion s) ≤ n
  companion-room h = omega (arith, h, companion-bytes s (two C) (names C).formed (h₅ C) (h₇ C))

  pub narrow-entry : {f : ℕ} → f ≡ flat_width s.width → f ≤ 328
  unfolding flat_width
  narrow-entry e = omega (arith, e, (names C).narrow)

  -- a row has room for eight fields
  pub eight-long : {f : ℕ} → f ≡ flat_width s.width → (row : List ℕ) → 2624 ≤ length row → length (take (8 * f) row) ≡ 8 * f
  eight-long {f} e row h = length-take-le (8 * f) row (omega (arith, narrow-entry e, h))

  module _ {e : ℕ} (l : e < elems) where
    pub below : e < length (tree_elements s)
    below = omega (arith, C.count)

    x-tree : In (element_at s e) (tree_elements s)
    x-tree = element-in s (h₇ C) e below

    entry-is : {n : ℕ} → n ≡ entry_length s.width → length (companion_record s (element_at s e)) ≡ n
    entry-is r = entry-bytes s (two C) (names C).formed (h₅ C) (h₇ C) (element_at s e) x-tree ∙ sym r

    entry-long : {f : ℕ} → f ≡ flat_width s.width → length (companion_record s (element_at s e)) ≡ 1 + 9 * f
    unfolding entry_length most_depth
    entry-long r = entry-is refl ∙ rw r

    -- its site
    module _ {y : Site} (r : y ≡ row_site el e) where
      i-is : y.inst ≡ get_or el (5 * e + 1) 0
      i-is = ap (λ (z : Site). z.inst) r

      q-is : y.place ≡ get_or el (5 * e + 0) 0
      q-is = ap (λ (z : Site). z.place) r

      pub instance-is : y.inst < length (instances s)
      instance-is = instance-low (h₇ C) C.elements e below i-is

      entry-tree : In (node (get_or (instances s) y.inst []) y.place) (tree_elements s)
      entry-tree = rw (site-is (h₇ C) C.elements e below i-is q-is) x-tree

      -- and its name, by prefixes of the same recipe
      pub name-requires : {r : Recipe} → r ≡ s → (at n : ℕ) → at + flat_width s.width ≤ n
          → Naming r × ((y.inst < length (instances r)) × (In (node (get_or (instances r) y.inst []) y.place) (tree_elements r) × (at + flat_width r.width ≤ n)))
      name-requires q at n h = rw q (names C, (instance-is, (entry-tree, h)))

      written : (out : List ℕ) (at : ℕ) {f : ℕ} (row : List ℕ) {out₁ out₂ : List ℕ} → f ≡ flat_width s.width → RowFor s y.inst row
          → out₁ ≡ sets (set out at 8) (at + 1) (padded (flat_width s.width) (flat_name s (node (get_or (instances s) y.inst []) y.place)))
          → out₂ ≡ sets out₁ (at + 1 + f) (take (8 * f) row) → out₂ ≡ sets out at (companion_record s (element_at s e))
      unfolding companion_record flat_field
      written out at {f} row {out₁} {out₂} f-is g o₁ o₂ =
          let x = element_at s e in
          let A = flat_field s (Some x) in
          let B = factor_fields s time_field x.path ++ factor_fields s extent_field x.path in
          let long : length A ≡ f = name-field s (two C) (names C).formed (h₇ C) (h₅ C) x x-tree ∙ sym f-is in
          let tail : take (8 * f) row ≡ B =
          ap (λ (k : ℕ). take (8 * k) row) f-is ∙ g ∙ eight-fields s (get_or (instances s) y.inst [])
          ∙ ap (λ (p : List ℕ). factor_fields s time_field p ++ factor_fields s extent_field p) (path-is (h₇ C) C.elements e below i-is) in
          o₂
          ∙ ap (sets out₁ (at + 1 + f)) tail
          ∙ ap (λ (o : List ℕ). sets o (at + 1 + f) B) (o₁ ∙ ap (λ (y : Node). sets (set out at 8) (at + 1) (padded (flat_width s.width) (flat_name s y))) (site-is (h₇ C) C.elements e below i-is q-is))
          ∙ ap (λ (k : ℕ). sets (sets (set out at 8) (at + 1) A) (at + 1 + k) B) (sym long)
          ∙ sym (sets-append A (set out at 8) (at + 1) B)
          ∙ ap (λ (k : ℕ). sets (set out at 8) k (A ++ B)) (add-one at)

      pub entry-written : {r : Recipe} → r ≡ s → (out : List ℕ) (at : ℕ) {f : ℕ} (row : List ℕ) {out₁ out₂ : List ℕ} → f ≡ flat_width s.width → RowFor s y.inst row
          → out₁ ≡ sets (set out at 8) (at + 1) (padded (flat_width r.width) (flat_name r (node (get_or (instances r) y.inst []) y.place)))
          → out₂ ≡ sets out₁ (at + 1 + f) (take (8 * f) row) → out₂ ≡ sets out at (companion_record s (element_at s e))
      entry-written q out at row f-is g o₁ o₂ = written out at row f-is g (rw q at o₁) o₂

  -- ---- the loop: with the entries that are left, what is written is the whole companion
  pub enter-start : (out₀ : List ℕ) → entry_length s.width * length (rated s) ≤ length out₀ → {left : List ℕ} → left ≡ surviving el 0 elems → Entering s el elems out₀ out₀ left 0
  unfolding companion
  enter-start out₀ room e = (rw e (stay-start el elems), rw (entries-are C e) (write-start (companion_record s) (rated s) out₀ (companion-room room)))

  pub enter-end : {out₀ out left : List ℕ} {p : ℕ} → Entering s el elems out₀ out left p → entry_length s.width * length (rated s) ≤ length out₀ → left ≡ [] → out ≡ companion s ++ drop (length (companion s)) out₀
  unfolding companion
  enter-end g room e = write-end (rw e at g.1) (companion-room room)

  module _ {out₀ out left more : List ℕ} {e p : ℕ} (g : Entering s el elems out₀ out left p) (y : left ≡ e ∷ more) where
    pub enter-low : e < elems
    enter-low = (stay-here g.0 y).0

    pub enter-off : is_rated s (element_at s e) ≡ false → Entering s el elems out₀ out more p
    enter-off k = (stay-on g.0 y, rw (entries-off s y k) at g.1)

    module _ (k : is_rated s (element_at s e) ≡ true) where
      enter-here : WriteLoop (companion_record s) (rated s) out₀ out (element_at s e ∷ entries_left s more) p
      enter-here = rw (entries-on s y k) at g.1

      pub enter-room : {n : ℕ} → n ≡ entry_length s.width → p + n ≤ length out
      enter-room r = omega (arith, write-room enter-here, entry-is enter-low r)

      pub enter-fields : {f : ℕ} → f ≡ flat_width s.width → p + 1 + 9 * f ≤ length out
      enter-fields r = omega (arith, write-room enter-here, entry-long enter-low r)

      pub enter-on : {n : ℕ} {out' : List ℕ} → n ≡ entry_length s.width → out' ≡ sets out p (companion_record s (element_at s e)) → Entering s el elems out₀ out' more (p + n)
      enter-on {n} r o = (stay-on g.0 y, write-on enter-here n (entry-is enter-low r) o)
