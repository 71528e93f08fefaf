-- Names, as 01's "Recipe records" has them, in a field of any width. Assumes nothing.
use Rattle.std.specs.Prelude.{ℕ, Bool, false, cond, not, ◌&&◌, ◌||◌, List, [], ◌∷◌, length, take, drop, leb, eqb}
use Rattle.names.specs.Lists.{every, keep_while}
use Rattle.names.specs.declared.Field.{Field}
use Rattle.names.specs.declared.Field.TheVariants.{Name, Blank, Neither}

-- an ASCII letter
unfoldable pub is_letter : ℕ → Bool
is_letter b = (leb 65 b && leb b 90) || (leb 97 b && leb b 122)

-- an ASCII digit
unfoldable pub is_digit : ℕ → Bool
is_digit b = leb 48 b && leb b 57

-- the underscore, _
unfoldable pub underscore : ℕ
underscore = 95

-- "The first character is a letter or underscore"
unfoldable pub is_first : ℕ → Bool
is_first b = is_letter b || eqb b underscore

-- "the others letters, digits or underscores"
unfoldable pub is_other : ℕ → Bool
is_other b = is_first b || is_digit b

-- no padding
unfoldable pub non_zero : ℕ → Bool
non_zero b = not (eqb b 0)

-- one character at least, the first and the others as a name has them
unfoldable pub are_name_characters : List ℕ → Bool
are_name_characters [] = false
are_name_characters (b ∷ bs) = is_first b && every is_other bs

-- "the part of the caller's field before the padding, which begins at the first zero byte, if any"
unfoldable pub text : List ℕ → List ℕ
text f = keep_while non_zero f

-- "A blank field is 12 zeros"
unfoldable pub is_blank : List ℕ → Bool
is_blank f = every (eqb 0) f

-- "1 to 12 characters, then zero bytes"
unfoldable pub is_name : List ℕ → Bool
is_name f = are_name_characters (text f) && is_blank (drop (length (text f)) f)

-- a name or a blank
unfoldable pub is_name_or_blank : List ℕ → Bool
is_name_or_blank f = is_name f || is_blank f

-- what a field reads as: a name and its length, a blank, or neither
unfoldable pub field_of : List ℕ → Field
field_of f = cond (is_name f) (Name (length (text f))) (cond (is_blank f) Blank Neither)

-- the w bytes from offset p
unfoldable pub field_at : ℕ → List ℕ → ℕ → List ℕ
field_at w s p = take w (drop p s)
