-- The search among the elements: a flat name's field is the prefixes of the instance, then the element's name with zeros behind it; the first survivor that has it.
-- Assumes nothing.
use Rattle.std.specs.Prelude.{None, Option, Some, option_map, MatchOption}
use mathlib.Core.Path.{◌≡◌, sym, ap, ◌∙◌}
use Prim.Native.Nat.{ℕ, zero, suc, ◌+◌, ◌*◌, ◌-◌, ◌≤◌, ◌<◌}
use native.Mathlib.Omega.{arith}
use mathlib.Core.Bool.{Bool, true, false, not, ◌&&◌}
use mathlib.Core.List.{List, [], ◌∷◌, ◌++◌, append_assoc}
use lib.Dec.{eqb}
use lib.ListN.{length, get_or, take, drop, drop_of_length-le, replicate, length-append, length-drop, replicate-append-replicate}
use lib.Seq.{drop-cons, drop-drop, take_all}
use Rattle.names.specs.Lists.{In, begins, first, padded, same}
use Rattle.names.specs.Names.{field_at, is_blank}
use borrow.Author.Tests.{eqb-true, eqb-false}
use Rattle.names.proofs.Tests.{by_cases}
use Rattle.names.proofs.Lists.{begins-same, first-keep, padded-length, same-split, same-zeros}
use Rattle.flat_table.specs.Table.{flat_width}
use Rattle.recipe.specs.Records.{Recipe, name}
use Rattle.recipe.proofs.Definitions.{name-short}
use Rattle.tree.specs.Faults.{fault₇}
use Rattle.tree.specs.Numbers.{number}
use Rattle.tree.specs.Steps.{next_of}
use Rattle.tree.specs.Tree.{Node, definition_at, instances, node, tree_elements}
use Rattle.tree.proofs.Nodes.{in_tree}
use Rattle.marks.specs.Marks.{is_gone, survivors}
use Rattle.compose.specs.Composed.{Composed}
use Rattle.flat_names.specs.Prefixes.{flat_name}
use Rattle.flat_names.specs.Rows.{Naming, prefixes_of}
use Rattle.flat_names.proofs.Filling.{naming}
use Rattle.flat_names.proofs.Puts.{element-field, element-low, prefixes-short}
use Rattle.composer.specs.Flat.{flat_field}
use Rattle.composer.specs.Writing.{element_at}
use Rattle.composer.proofs.ByNumber.{element-in, element-number, instance-low, path-is, record_is}
use Rattle.composer.proofs.Handed.{fated}
use Rattle.composer.proofs.Surviving.{gone_at, survives-at}
use Rattle.origins.specs.Origins.{is_named, origin_of}
use Rattle.origins.specs.Search.{NameRequires, PrefixFits, ends_with, fit_of, is_origin}
use Rattle.origins.proofs.Fitting.{fit_none, fit-read, fit-some}

-- ---- the zeros behind a name
-- behind what is before it
padded-behind : (k : ℕ) (p n : List ℕ) → padded k (p ++ n) ≡ p ++ padded (k - length p) n
unfolding padded
padded-behind k p n =
    append_assoc p n (replicate (k - length (p ++ n)) 0)
    ∙ ap (λ (j : ℕ). p ++ (n ++ replicate j 0)) (let e : k - length (p ++ n) ≡ k - length p - length n = rw length-append (omega arith) in e)

-- in a field of its own, and more behind
padded-more : (w k : ℕ) (n : List ℕ) → length n ≤ w → w ≤ k → padded k n ≡ padded w n ++ replicate (k - w) 0
unfolding padded
padded-more w k n h l =
    ap (λ (j : ℕ). n ++ replicate j 0) (let e : k - length n ≡ w - length n + (k - w) = omega arith in e)
    ∙ ap (λ (z : List ℕ). n ++ z) (sym (replicate-append-replicate (w - length n) (k - w) 0))
    ∙ sym (append_assoc n (replicate (w - length n) 0) (replicate (k - w) 0))

-- ---- the name of the element q
module _ {s : Recipe} (N : Naming s) {q l : ℕ} (R : NameRequires s q l) where
  pub name-inside : q + 1 + s.width < length s.bytes
  name-inside = element-low s N R.definition q R.element

  -- in f, from l on
  module _ (f : List ℕ) (long : length f ≡ flat_width s.width) where
    pub in-name : l + s.width ≤ length f
    unfolding flat_width
    in-name = omega (arith, R.short, long)

    module _ {b : Bool} (b-is : b ≡ same (field_at s.width s.bytes (q + 1)) (field_at s.width f l)) where
      split : ends_with s f q l ≡ b && is_blank (drop (l + s.width) f)
      unfolding ends_with field_at is_blank flat_width
      split =
          let w = s.width in
          let own : List ℕ = padded w (name s q) in
          let short = name-short s q in
          let size : length own ≡ w = padded-length w (name s q) short in
          let k : ℕ = 5 * w + 8 - l in
          let more : w ≤ k = omega (arith, R.short) in
          ap (λ (z : List ℕ). same z (drop l f)) (padded-more w k (name s q) short more)
          ∙ same-split own (replicate (k - w) 0) (drop l f)
          ∙ rw (size, begins-same own (drop l f) (omega (arith, size, in-name, length-drop l f)), size, drop-drop w l f)
          (rw (same-zeros (k - w) (drop (l + w) f) (omega (arith, in-name, long, length-drop (l + w) f)))
          (ap (λ (z : Bool). z && is_blank (drop (l + w) f)) (sym (b-is ∙ ap (λ (z : List ℕ). same z (take w (drop l f))) (element-field s N R.definition q R.element)))))

      pub other_name : b ≡ false → false ≡ ends_with s f q l
      other_name e = sym (split ∙ rw e)

      pub own_name : b ≡ true → {r : Bool} → r ≡ is_blank (take (length f - (l + s.width)) (drop (l + s.width) f)) → r ≡ ends_with s f q l
      own_name e h =
          h
          ∙ ap is_blank (take_all (length f - (l + s.width)) (drop (l + s.width) f) (omega (arith, length-drop (l + s.width) f)))
          ∙ sym (split ∙ rw e)

-- ---- the element of number e
module _ {s : Recipe} {t inst el : List ℕ} {insts elems : ℕ} (C : Composed s t inst el insts elems) {f fits : List ℕ} (F : PrefixFits s f fits) {e : ℕ} (low : e < length (tree_elements s)) where
  h₇ : fault₇ s ≡ None
  h₇ = C.targeted.planted.row₇

  abbrev x : Node
  x = element_at s e

  x-tree : In x (tree_elements s)
  x-tree = element-in s h₇ e low

  numbered : e < elems
  numbered = omega (arith, low, C.count)

  gone-is : not (eqb (get_or el (5 * e + 2) 0) 0) ≡ is_gone s x
  gone-is =
      by_cases (eqb (get_or el (5 * e + 2) 0) 0)
      (λ b. rw (b, survives-at (fated C) numbered (eqb-true (get_or el (5 * e + 2) 0) 0 b)))
      (λ b. rw (b, gone_at (fated C) numbered (eqb-false (get_or el (5 * e + 2) 0) 0 b)))

  module _ {g : Bool} (g-is : g ≡ not (eqb (get_or el (5 * e + 2) 0) 0)) where
    pub gone-origin : g ≡ true → false ≡ is_origin s f x
    unfolding is_origin
    gone-origin h = rw (sym gone-is ∙ sym g-is ∙ h)

    alive : g ≡ false → is_origin s f x ≡ is_named s f x
    unfolding is_origin
    alive h = rw (sym gone-is ∙ sym g-is ∙ h)

  module _ {i : ℕ} (i-is : i ≡ get_or el (5 * e + 1) 0) where
    inst-low : i < length (instances s)
    inst-low = instance-low h₇ C.elements e low i-is

    pub fit-inside : i + 0 < length fits
    fit-inside = omega (arith, inst-low, F.counted)

    flat-name : flat_name s x ≡ prefixes_of s i ++ name s x.place
    unfolding flat_name prefixes_of
    flat-name = rw (path-is h₇ C.elements e low i-is)

    named : is_named s f x ≡ begins (prefixes_of s i) f && ends_with s f x.place (length (prefixes_of s i))
    unfolding is_named flat_field ends_with
    named =
        ap (λ (n : List ℕ). same n f) (ap (padded (flat_width s.width)) flat-name ∙ padded-behind (flat_width s.width) (prefixes_of s i) (name s x.place))
        ∙ same-split (prefixes_of s i) (padded (flat_width s.width - length (prefixes_of s i)) (name s x.place)) f

    module _ (o : Option ℕ) (o-is : o ≡ next_of (get_or fits (i + 0) 0)) where
      fit_is : o ≡ fit_of s f i
      fit_is = fit-read F i inst-low o-is

      pub unfit-origin : {g : Bool} → g ≡ not (eqb (get_or el (5 * e + 2) 0) 0) → g ≡ false → o ≡ None → false ≡ is_origin s f x
      unfit-origin g-is present h = sym (alive g-is present ∙ named ∙ rw (fit_none s f i (sym h ∙ fit_is)))

      module _ {l : ℕ} (there : o ≡ Some l) {q : ℕ} (q-is : q ≡ get_or el (5 * e + 0) 0) where
        fit-there : (begins (prefixes_of s i) f ≡ true) × (l ≡ length (prefixes_of s i))
        fit-there = fit-some s f i (sym there ∙ fit_is)

        place_is : q ≡ x.place
        place_is = record_is h₇ C.elements e low q-is

        pub name-requires : NameRequires s q l
        name-requires = record {
          definition = definition_at s x.path;
          element = rw place_is (in_tree s x x-tree).1;
          short = rw fit-there.1 (prefixes-short s (naming C.targeted.planted) i inst-low);
        }

        pub fit-origin : {g : Bool} → g ≡ not (eqb (get_or el (5 * e + 2) 0) 0) → g ≡ false → {r : Bool} → r ≡ ends_with s f q l → r ≡ is_origin s f x
        fit-origin g-is present h = h ∙ sym (alive g-is present ∙ named ∙ rw (fit-there.0, ← fit-there.1, ← place_is))

-- ---- the first
module _ (s : Recipe) (f : List ℕ) where
  -- it is among the elements from e on
  abbrev From : ℕ → Type 0
  From e = origin_of s f ≡ first (is_origin s f) (drop e (tree_elements s))

  module _ {e : ℕ} (low : e < length (tree_elements s)) where
    from-here : From e → origin_of s f ≡ first (is_origin s f) (element_at s e ∷ drop (suc e) (tree_elements s))
    unfolding element_at
    from-here g = g ∙ ap (first (is_origin s f)) (let d : drop e (tree_elements s) ≡ element_at s e ∷ drop (suc e) (tree_elements s) = drop-cons (tree_elements s) e (node [] 0) low in d)

  -- none before e has the name
  abbrev Before : ℕ → Type 0
  Before e = (k : ℕ) → 0 ≤ k → k < e → is_origin s f (element_at s k) ≡ false

  from : (e : ℕ) → e ≤ length (tree_elements s) → Before e → From e
  unfolding origin_of survivors is_origin
  from zero h b = first-keep (is_named s f) (λ x. not (is_gone s x)) (tree_elements s)
  from (suc e) h b = from-here (omega arith) (from e (omega arith) (λ k l m. b k l (omega arith))) ∙ rw (b e (omega arith) (omega arith), first)

  pub found : fault₇ s ≡ None → {n : ℕ} → n ≡ length (tree_elements s) → (r : Option ℕ)
      → MatchOption r (Before n) (λ e. (0 ≤ e) × (e < n) × (is_origin s f (element_at s e) ≡ true) × Before e) → r ≡ option_map (number s) (origin_of s f)
  found h₇ {n} count None b =
      let o : origin_of s f ≡ None = from n (omega (arith, count)) b ∙ rw (drop_of_length-le (tree_elements s) (let l : length (tree_elements s) ≤ n = omega (arith, count) in l)) in
      sym (ap (option_map (number s)) o)
  found h₇ count (Some e) h =
      let low : e < length (tree_elements s) = omega (arith, h.1, count) in
      let o : origin_of s f ≡ Some (element_at s e) = from-here low (from e (omega (arith, low)) h.3) ∙ rw (h.2, first) in
      sym (ap (option_map (number s)) o ∙ ap Some (element-number s h₇ e low))
