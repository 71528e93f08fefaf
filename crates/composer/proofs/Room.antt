-- The loop over the survivors that writes their records: the room, as the writer asks, and one turn.
-- Assumes nothing.
use Rattle.std.specs.Prelude.{None}
use Prim.Native.Nat.{◌*◌, ◌+◌, ◌<◌, ◌≤◌, ℕ}
use lib.ListN.{drop, length}
use lib.Seq.{sets}
use mathlib.Core.Bool.{false}
use mathlib.Core.List.{List, [], ◌++◌, ◌∷◌, map}
use mathlib.Core.Path.{◌∙◌, ◌≡◌, sym}
use native.Mathlib.Omega.{arith}
use Rattle.flat_table.specs.Table.{flat_length, flat_width}
use Rattle.recipe.specs.Records.{Recipe}
use Rattle.recipe.specs.Reading.{fault₃, fault₅}
use Rattle.tree.specs.Faults.{fault₇}
use Rattle.tree.specs.Tree.{tree_elements}
use Rattle.marks.specs.Marks.{is_gone, survivors}
use Rattle.composer.specs.Fates.{Fated, Writable}
use Rattle.composer.specs.Flat.{flat, flat_record}
use Rattle.composer.specs.Surviving.{surviving}
use Rattle.composer.specs.Writing.{element_at}
use Rattle.composer.proofs.ByNumber.{element-in}
use Rattle.composer.proofs.Lengths.{flat-bytes, record-bytes}
use Rattle.composer.proofs.Surviving.{Staying, stay-here, stay-on, stay-start, survives-at, survivors-are}
use Rattle.composer.proofs.Writing.{WriteLoop, write-end, write-on, write-room, write-start}

-- those that are left, and what is written
abbrev pub Flattening : Recipe → List ℕ → ℕ → List ℕ → List ℕ → List ℕ → ℕ → Type 0
Flattening s el elems out₀ out left p = Staying el elems left × WriteLoop (flat_record s) (survivors s) out₀ out (map (element_at s) left) p

module _ {s : Recipe} {t el : List ℕ} {elems : ℕ} (F : Fated s el elems) (W : Writable s t el) where
  h₃ : fault₃ s ≡ None
  h₃ = W.naming.formed

  h₅ : fault₅ s ≡ None
  h₅ = W.row₅

  h₇ : fault₇ s ≡ None
  h₇ = F.row₇

  two : 2 ≤ s.width
  two = omega (arith, W.naming.wide)

  flat-room : {n : ℕ} → flat_length s.width * length (survivors s) ≤ n → length (flat s) ≤ n
  flat-room room = omega (arith, room, flat-bytes s two h₃ h₇ h₅)

  pub flat-start : (out₀ : List ℕ) → flat_length s.width * length (survivors s) ≤ length out₀ → {left : List ℕ} → left ≡ surviving el 0 elems → Flattening s el elems out₀ out₀ left 0
  unfolding flat
  flat-start out₀ room e = rw e (stay-start el elems, rw (survivors-are F) (write-start (flat_record s) (survivors s) out₀ (flat-room room)))

  pub flat-end : {out₀ out left : List ℕ} {p : ℕ} → Flattening s el elems out₀ out left p → flat_length s.width * length (survivors s) ≤ length out₀ → left ≡ [] → out ≡ flat s ++ drop (length (flat s)) out₀
  unfolding flat
  flat-end g room e = write-end (rw e at g.1) (flat-room room)

  module _ {out₀ out left more : List ℕ} {e p : ℕ} (g : Flattening s el elems out₀ out left p) (y : left ≡ e ∷ more) where
    pub turn-low : e < elems
    turn-low = (stay-here g.0 y).0

    pub turn-below : e < length (tree_elements s)
    turn-below = omega (arith, turn-low, F.count)

    pub turn-alive : is_gone s (element_at s e) ≡ false
    turn-alive = survives-at F turn-low (stay-here g.0 y).1

    -- its record
    long : length (flat_record s (element_at s e)) ≡ flat_length s.width
    long = record-bytes s two h₃ h₇ h₅ (element_at s e) (element-in s h₇ e turn-below)

    here : WriteLoop (flat_record s) (survivors s) out₀ out (element_at s e ∷ map (element_at s) more) p
    here = rw y at g.1

    pub turn-room : p + flat_length s.width ≤ length out
    turn-room = omega (arith, write-room here, long)

    pub turn-fields : {f : ℕ} → f ≡ flat_width s.width → p + 1 + 3 * f ≤ length out
    unfolding flat_length
    turn-fields h = omega (arith, turn-room, h)

    pub turn-on : {row : ℕ} {out' : List ℕ} → row ≡ flat_length s.width → out' ≡ sets out p (flat_record s (element_at s e)) → Flattening s el elems out₀ out' more (p + row)
    turn-on {row} r o = (stay-on g.0 y, write-on here row (long ∙ sym r) o)
