-- The loop over the survivors that counts them and keeps the length of the longest flat name, and what the answer is then.
-- Assumes nothing.
use Rattle.std.specs.Prelude.{Some}
use Prim.Native.Nat.{ℕ, ◌+◌, ◌*◌, ◌<◌, max}
use lib.ListN.{get_or, length}
use mathlib.Core.List.{List, [], ◌∷◌, map}
use mathlib.Core.Path.{◌≡◌, ◌∙◌, ap, refl}
use native.Mathlib.Omega.{arith}
use native.Mathlib.Nat.{mul_comm}
use Rattle.names.specs.Lists.{In}
use Rattle.names.specs.declared.Refusal.{Refusal}
use Rattle.names.specs.Judging.{row_number}
use Rattle.names.proofs.Judging.{none-judged}
use Rattle.flat_table.specs.Table.{flat_length}
use Rattle.recipe.specs.Records.{Recipe}
use Rattle.tree.specs.Tree.{instances, node, tree_elements}
use Rattle.marks.specs.Marks.{survivors}
use Rattle.flat_names.specs.Prefixes.{flat_name}
use Rattle.flat_names.specs.Rows.{Naming}
use Rattle.flat_names.proofs.Filling.{naming}
use Rattle.compose.specs.Composed.{Composed}
use Rattle.compose.specs.Rows.{Unrefused, refusal_of, refusal_rows}
use Rattle.composer.specs.Surviving.{surviving}
use Rattle.composer.specs.Writing.{element_at, node_at, row_site}
use Rattle.composer.specs.declared.Site.{Site}
use Rattle.composer.proofs.Fields.{own-tree}
use Rattle.composer.proofs.ByNumber.{site-is}
use Rattle.composer.proofs.Handed.{fated}
use Rattle.composer.proofs.Surviving.{Staying, fates-few, stay-here, stay-on, stay-start, survivors-are, survivors-counted, surviving-few}
use Rattle.sizes.specs.Size.{greatest, longest_name, size, size_refused, sized}

-- the greatest length of the flat names of the elements of these numbers
abbrev longest_of : Recipe → List ℕ → ℕ
longest_of s es = greatest (map (λ x. length (flat_name s x)) (map (element_at s) es))

longest-next : (s : Recipe) (e : ℕ) (more : List ℕ) → longest_of s (e ∷ more) ≡ max (length (flat_name s (element_at s e))) (longest_of s more)
unfolding greatest
longest-next s e more = refl

longest-none : (s : Recipe) → longest_of s [] ≡ 0
unfolding greatest
longest-none s = refl

-- those that were counted and those left are all, and so is the longest of these and of those left
pub record Sizing (s : Recipe) (el : List ℕ) (elems : ℕ) (left : List ℕ) (count longest : ℕ) : Type 0 where
  pub staying : Staying el elems left
  pub counts : count + length left ≡ length (survivors s)
  pub raises : max longest (longest_of s left) ≡ longest_name s

module _ {s : Recipe} {t inst el : List ℕ} {insts elems : ℕ} (C : Composed s t inst el insts elems) where
  longest-all : longest_of s (surviving el 0 elems) ≡ longest_name s
  unfolding longest_name
  longest-all = ap (λ xs. greatest (map (λ x. length (flat_name s x)) xs)) (survivors-are (fated C))

  pub size-start : {left : List ℕ} → left ≡ surviving el 0 elems → Sizing s el elems left 0 0
  size-start {left} e =
      record {
        staying = rw e (stay-start el elems);
        counts = omega (arith, ap length e, survivors-counted (fated C));
        raises = omega (arith, ap (longest_of s) e ∙ longest-all);
      }

  module _ {left more : List ℕ} {e count longest : ℕ} (g : Sizing s el elems left count longest) (y : left ≡ e ∷ more) where
    pub turn-low : e < elems
    turn-low = (stay-here g.staying y).0

    turn-below : e < length (tree_elements s)
    turn-below = omega (arith, turn-low, C.count)

    pub turn-count : count < 1024
    turn-count =
        let F = fated C in
        omega (arith, g.counts, ap length y, survivors-counted F, surviving-few el 0 elems, fates-few F)

    -- its flat name, of the recipe whose prefixes are measured
    module _ {r : Recipe} (r-is : r ≡ s) {x : Site} (x-is : x ≡ row_site el e) where
      pub name-requires : Naming r × ((x.inst < length (instances r)) × In (node (get_or (instances r) x.inst []) x.place) (tree_elements r))
      name-requires = rw r-is (naming C.targeted.planted, own-tree C.targeted.planted.row₇ C.elements e turn-below x-is)

      pub turn-on : {k m : ℕ} → k ≡ length (flat_name r (node_at r x)) → m ≡ max longest k → Sizing s el elems more (count + 1) m
      turn-on {k} k-is m-is =
          let at : node_at s x ≡ element_at s e = rw x-is (site-is C.targeted.planted.row₇ C.elements e turn-below refl refl) in
          let is : k ≡ length (flat_name s (element_at s e)) = k-is ∙ ap (λ z. length (flat_name z (node_at z x))) r-is ∙ ap (λ z. length (flat_name s z)) at in
          record {
            staying = stay-on g.staying y;
            counts = omega (arith, g.counts, ap length y);
            raises = omega (arith, ap (longest_of s) y ∙ longest-next s e more, g.raises, is, m-is);
          }

  pub size-counted : {left : List ℕ} {count longest : ℕ} → Sizing s el elems left count longest → left ≡ [] → count ≡ length (survivors s)
  size-counted g e = omega (arith, g.counts, ap length e)

  pub size-end : {left : List ℕ} {count longest row : ℕ} → Sizing s el elems left count longest → left ≡ [] → row ≡ flat_length s.width
      → record { number = 0; place = 0; count = count; bytes = count * row; longest = longest } ≡ sized s
  unfolding sized
  size-end {left} {count} {longest} {row} g e r =
      let n = size-counted g e in
      let l : longest ≡ longest_name s = omega (arith, g.raises, ap (longest_of s) e ∙ longest-none s) in
      rw (n, l, r, mul_comm (length (survivors s)) (flat_length s.width)) refl

module _ (s : Recipe) where
  pub refused-is : (r : Refusal) → Some r ≡ refusal_of s → size_refused (row_number r.reason) r.place ≡ size s
  unfolding size
  refused-is r e = rw (← e, size)

  pub unrefused-is : Unrefused s → sized s ≡ size s
  unfolding size refusal_of
  unrefused-is h = rw (none-judged (refusal_rows s) h, size)
