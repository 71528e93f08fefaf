-- A table is its first record and the rest: so are its lines.
-- Assumes nothing.
use mathlib.Core.Path.{◌≡◌, refl, sym, ap, ◌∙◌}
use Prim.Native.Nat.{ℕ, zero, suc, ◌+◌, ◌/◌, ◌≤◌, ◌<◌}
use native.Mathlib.Omega.{arith}
use mathlib.Core.List.{List, [], ◌∷◌, ◌++◌, map, append_assoc, append-nil}
use lib.ListN.{length, take, drop, get_or, length-append, length-drop}
use lib.Seq.{take-append-le, drop-append-le, drop-append-add}
use Rattle.std.proofs.lemmas.List.{get_or-append-add}
use Rattle.names.specs.Names.{field_at}
use Rattle.flat_table.specs.Table.{flat_width, flat_length, rows_from, row_count, rows, row_kind, row_name, row_parent, row_reference}
use Rattle.composer.specs.Verdicts.{name_width}
use Rattle.composer.specs.Printed.{characters, decimal, shown, row_line}
use Rattle.bandrolt.specs.Text.{HasRoom, row_lines}
use Rattle.bandrolt.proofs.Texts.{room-first, room-then}

-- the line of the record at p
abbrev pub line_at : List ℕ → ℕ → List ℕ
line_at t p = row_line (flat_width name_width) (flat_length name_width) t p

-- a space and the field at p
abbrev pub column_at : List ℕ → ℕ → List ℕ
column_at t p = characters " " ++ shown (field_at 68 t p)

-- a line is a kind, three columns and its end
pub line-is : (t : List ℕ) (p : ℕ) → line_at t p ≡ decimal (get_or t p 0) ++ (column_at t (p + 1) ++ (column_at t (p + 69) ++ (column_at t (p + 137) ++ characters "\n")))
unfolding row_line row_kind row_name row_parent row_reference flat_width name_width
line-is t p =
    let second : p + 1 + 68 ≡ p + 69 = omega arith in
    let third : p + 1 + 68 + 68 ≡ p + 137 = omega arith in
    rw (third, second) (simp append_assoc)

kind-front : (x rest : List ℕ) → 0 < length x → get_or (x ++ rest) 0 0 ≡ get_or x 0 0
kind-front [] rest h = absurd (omega arith)
kind-front (b ∷ x) rest h = refl

module _ (x rest : List ℕ) where
  field-front : (w p : ℕ) → p + w ≤ length x → field_at w (x ++ rest) p ≡ field_at w x p
  unfolding field_at
  field-front w p h = ap (take w) (drop-append-le p x rest (omega arith)) ∙ take-append-le w (drop p x) rest (omega (arith, length-drop p x))

  field-behind : (w p q : ℕ) → q ≡ length x + p → field_at w (x ++ rest) q ≡ field_at w rest p
  unfolding field_at
  field-behind w p q e = rw e (ap (take w) (drop-append-add x rest p))

  module _ (h : length x ≡ 205) where
    -- the first record's line is its own
    line-front : line_at (x ++ rest) 0 ≡ line_at x 0
    line-front =
        let kind = kind-front x rest (omega arith) in
        rw (line-is (x ++ rest) 0, line-is x 0, kind, field-front 68 1 (omega arith), field-front 68 69 (omega arith), field-front 68 137 (omega arith)) refl

    -- and the others' are the rest's
    line-behind : (p : ℕ) → line_at (x ++ rest) (p + 205) ≡ line_at rest p
    line-behind p =
        let place : p + 205 ≡ length x + p = omega arith in
        let kind : get_or (x ++ rest) (p + 205) 0 ≡ get_or rest p 0 = rw place (get_or-append-add x rest p 0) in
        let name = field-behind 68 (p + 1) (p + 205 + 1) (omega arith) in
        let parent = field-behind 68 (p + 69) (p + 205 + 69) (omega arith) in
        let reference = field-behind 68 (p + 137) (p + 205 + 137) (omega arith) in
        rw (line-is (x ++ rest) (p + 205), line-is rest p, kind, name, parent, reference) refl

    lines-behind : (n p : ℕ)
        → map (line_at (x ++ rest)) (rows_from (flat_width name_width) (flat_length name_width) n (p + 205)) ≡ map (line_at rest) (rows_from (flat_width name_width) (flat_length name_width) n p)
    unfolding rows_from flat_length flat_width name_width
    lines-behind zero p = refl
    lines-behind (suc n) p = rw (line-behind p, lines-behind n (p + 205)) refl

    pub row_lines-more : row_lines name_width (x ++ rest) ≡ line_at x 0 ++ row_lines name_width rest
    unfolding row_lines rows row_count rows_from flat_length flat_width name_width
    row_lines-more =
        let one : length (x ++ rest) / 205 ≡ suc (length rest / 205) = omega (arith, length-append x rest) in
        rw (one, line-front, lines-behind (length rest / 205) 0) refl

-- what is no whole record has no line
pub row_lines-none : (t : List ℕ) → length t < 205 → row_lines name_width t ≡ []
unfolding row_lines rows row_count rows_from flat_length flat_width name_width
row_lines-none t h = let none : length t / 205 ≡ 0 = omega arith in rw none refl

-- the loop over a table's records: room for the lines that are left, and what stands when they are printed
pub record LinesLeft (table text₀ text rest : List ℕ) : Type 0 where
  pub room : HasRoom text (row_lines name_width rest)
  pub whole : text ++ row_lines name_width rest ≡ text₀ ++ row_lines name_width table

module _ {table text₀ text rest : List ℕ} (l : LinesLeft table text₀ text rest) where
  module _ (x rest' : List ℕ) (e : rest ≡ x ++ rest') (h : length x ≡ 205) where
    left : row_lines name_width rest ≡ line_at x 0 ++ row_lines name_width rest'
    left = ap (row_lines name_width) e ∙ row_lines-more x rest' h

    pub line-room : HasRoom text (line_at x 0)
    line-room = room-first text (line_at x 0) (row_lines name_width rest') (rw left at l.room)

    pub lines_more : {text' : List ℕ} → text' ≡ text ++ line_at x 0 → LinesLeft table text₀ text' rest'
    lines_more {text'} p = record {
      room = room-then text (line_at x 0) (row_lines name_width rest') p (rw left at l.room);
      whole =
          ap (λ (t : List ℕ). t ++ row_lines name_width rest') p
          ∙ (append_assoc text (line_at x 0) (row_lines name_width rest') ∙ (ap (λ (t : List ℕ). text ++ t) (sym left) ∙ l.whole));
    }

  pub lines_end : length rest < 205 → text ≡ text₀ ++ row_lines name_width table
  lines_end h = sym (append-nil text) ∙ (ap (λ (t : List ℕ). text ++ t) (sym (row_lines-none rest h)) ∙ l.whole)
