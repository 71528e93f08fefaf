-- How a field reads, by the run of bytes that may stand in a name and the bytes behind it. Assumes nothing.
use mathlib.Core.Path.{◌≡◌, refl, sym, ap, ◌∙◌}
use mathlib.Core.Bool.{Bool, true, false, not, ◌&&◌, false≢true}
use mathlib.Core.List.{List, [], ◌∷◌, ◌++◌}
use mathlib.Core.Logic.{◌⊎◌, inl, inr}
use Prim.Native.Nat.{ℕ, zero, suc, ◌+◌, ◌-◌, ◌≤◌}
use native.Mathlib.Omega.{arith}
use native.Mathlib.Nat.{add-sub_cancel_left}
use lib.ListN.{length, get_or, take, drop, replicate, length-drop, take-append-drop}
use lib.Seq.{take_all, drop-append_seam}
use lib.Dec.{eqb}
use borrow.Author.Tests.{eq-eqb, ne_eqb, eqb-true, eqb-false}
use Rattle.std.specs.List.{prefix_len}
use Rattle.std.proofs.lemmas.List.Folds.{length-prefix_len}
use Rattle.names.specs.Lists.{every, keep_while, padded}
use Rattle.names.specs.Names.{is_letter, is_digit, underscore, is_first, is_other, non_zero, are_name_characters, text, is_blank, is_name, is_name_or_blank, field_of, field_at}
use Rattle.names.specs.declared.Field.{Field}
use Rattle.names.specs.declared.Field.TheVariants.{Name, Blank, Neither}
use Rattle.names.proofs.Runs.{kept-prefix}
use Rattle.names.proofs.Tests.{by_cases, not-both, and_left, and_right, both}
use Rattle.names.proofs.Lists.{every-on, every-off, while-on, while-off, take_while, every_append, every-replicate}

-- ---- the part before the padding
text-zero : (x : ℕ) (xs : List ℕ) → x ≡ 0 → text (x ∷ xs) ≡ []
unfolding text non_zero
text-zero x xs e = while-off (λ b. not (eqb b 0)) x xs (rw (eq-eqb x 0 e))

text-on : (x : ℕ) (xs : List ℕ) → (x ≡ 0 → ⊥) → text (x ∷ xs) ≡ x ∷ text xs
unfolding text non_zero
text-on x xs n = while-on (λ b. not (eqb b 0)) x xs (rw (ne_eqb x 0 n))

pub no-pad : {x : ℕ} → (x ≡ 0 → ⊥) → non_zero x ≡ true
unfolding non_zero
no-pad {x} n = rw (ne_eqb x 0 n)

-- the bytes before the first zero, as `take_while` and `count` give their number
pub text-part : (f : List ℕ) {n : ℕ} → n ≡ length (take (prefix_len (λ b. not (eqb b 0)) f) f) → take n f ≡ text f
unfolding text non_zero
text-part f e = ap (λ (n : ℕ). take n f) (e ∙ (length-prefix_len (λ b. not (eqb b 0)) f ∙ sym (kept-prefix (λ b. not (eqb b 0)) f))) ∙ take_while (λ b. not (eqb b 0)) f

-- ---- a name: by the run of bytes that may stand in one
first-other : (x : ℕ) → is_first x ≡ true → is_other x ≡ true
unfolding is_other
first-other x e = rw e

other-some : (x : ℕ) → is_other x ≡ true → x ≡ 0 → ⊥
unfolding is_other is_first is_letter is_digit underscore
other-some x e z = false≢true (rw z at e)

-- characters throughout, then zeros
rest : List ℕ → Bool
rest g = every is_other (text g) && is_blank (drop (length (text g)) g)

run : List ℕ → ℕ
run f = length (keep_while is_other f)

run_on : (x : ℕ) (xs : List ℕ) → is_other x ≡ true → run (x ∷ xs) ≡ suc (run xs)
unfolding run
run_on x xs e = ap length (while-on is_other x xs e)

run-off : (x : ℕ) (xs : List ℕ) → is_other x ≡ false → run (x ∷ xs) ≡ 0
unfolding run
run-off x xs e = ap length (while-off is_other x xs e)

rest-run : (f : List ℕ) → rest f ≡ is_blank (drop (run f) f)
unfolding rest run text is_blank
rest-run [] = refl
rest-run (x ∷ xs) =
    by_cases (is_other x)
    (λ e. rw (run_on x xs e, text-on x xs (other-some x e), every-on is_other x (text xs) e) (rest-run xs))
    (λ e.
    by_cases (eqb x 0)
    (λ z. rw (run-off x xs e, text-zero x xs (eqb-true x 0 z)))
    (λ z. rw (run-off x xs e, text-on x xs (eqb-false x 0 z), every-off is_other x (text xs) e) (sym (every-off (eqb 0) x xs (ne_eqb 0 x (λ q. eqb-false x 0 z (sym q)))))))

text-run : (f : List ℕ) → is_blank (drop (run f) f) ≡ true → length (text f) ≡ run f
unfolding run text is_blank
text-run [] e = refl
text-run (x ∷ xs) e =
    by_cases (is_other x)
    (λ h. rw (run_on x xs h, text-on x xs (other-some x h)) (ap suc (text-run xs (rw (run_on x xs h) at e))))
    (λ h. by_cases (eqb x 0) (λ z. rw (run-off x xs h, text-zero x xs (eqb-true x 0 z)))
    (λ z. not-both (rw (run-off x xs h) at e) (every-off (eqb 0) x xs (ne_eqb 0 x (λ q. eqb-false x 0 z (sym q))))))

first-zero : is_first 0 ≡ false
unfolding is_first is_letter underscore
first-zero = refl

named : (x : ℕ) (xs : List ℕ) → is_first x ≡ true → is_name (x ∷ xs) ≡ rest (x ∷ xs)
unfolding is_name are_name_characters rest
named x xs e = rw (text-on x xs (other-some x (first-other x e)), e, every-on is_other x (text xs) (first-other x e))

-- a name is a first character and such a run, with zeros behind it
name-run : (f : List ℕ) → is_name f ≡ is_first (get_or f 0 0) && is_blank (drop (run f) f)
unfolding is_name are_name_characters text
name-run [] = rw first-zero
name-run (x ∷ xs) =
    by_cases (is_first x)
    (λ e. named x xs e ∙ (rest-run (x ∷ xs) ∙ rw e))
    (λ e.
    by_cases (eqb x 0)
    (λ z. rw (text-zero x xs (eqb-true x 0 z), e))
    (λ z. rw (text-on x xs (eqb-false x 0 z), e)))

-- a blank has no such run
blank-run : (f : List ℕ) → (run f ≡ 0 → ⊥) → is_blank f ≡ false
unfolding is_blank run
blank-run [] n = absurd (n refl)
blank-run (x ∷ xs) n =
    by_cases (is_other x)
    (λ e. every-off (eqb 0) x xs (ne_eqb 0 x (λ q. other-some x e (sym q))))
    (λ e. absurd (n (run-off x xs e)))

-- and where there is no such run, there is no first character
no-first : (f : List ℕ) → run f ≡ 0 → is_first (get_or f 0 0) ≡ false
no-first [] e = first-zero
no-first (x ∷ xs) e =
    by_cases (is_first x)
    (λ h. absurd (let k : suc (run xs) ≡ 0 = sym (run_on x xs (first-other x h)) ∙ e in omega arith))
    (λ h. h)

no_name : (f : List ℕ) → is_first (get_or f 0 0) ≡ false → is_name f ≡ false
no_name f e = name-run f ∙ rw e

no-padding : (f : List ℕ) → is_blank (drop (run f) f) ≡ false → is_name f ≡ false
no-padding f e = name-run f ∙ by_cases (is_first (get_or f 0 0)) (λ h. rw (h, e)) (λ h. rw h)

-- ---- what a field reads as: a blank,
pub field-blank : (f : List ℕ) {z : Bool} → z ≡ is_blank f → z ≡ true → Blank ≡ field_of f
unfolding field_of
field-blank f k h =
    let e = sym k ∙ h in
    by_cases (eqb (run f) 0)
    (λ q. rw (no_name f (no-first f (eqb-true (run f) 0 q)), e))
    (λ q. not-both e (blank-run f (eqb-false (run f) 0 q)))

-- ---- or else by the length n of that run
pub field-none : (f : List ℕ) {z : Bool} {n : ℕ} → z ≡ is_blank f → z ≡ false → n ≡ length (keep_while is_other f) → n ≡ 0 → Neither ≡ field_of f
unfolding field_of run
field-none f k h e q = rw (no_name f (no-first f (sym e ∙ q)), sym k ∙ h)

module _ (f : List ℕ) {n : ℕ} (e : n ≡ length (keep_while is_other f)) {z : Bool} (k : z ≡ is_blank (take (length f - n) (drop n f))) where
  long : n ≡ run f
  unfolding run
  long = e

  here : z ≡ is_blank (drop n f)
  here = k ∙ ap is_blank (take_all (length f - n) (drop n f) (omega (arith, length-drop n f)))

  behind : is_blank (drop (run f) f) ≡ z
  behind = sym (here ∙ ap (λ (m : ℕ). is_blank (drop m f)) long)

  pub field-unpadded : z ≡ false → Neither ≡ field_of f
  unfolding field_of
  field-unpadded h = rw (no-padding f (behind ∙ h), no-blank)
    where
      no-blank : is_blank f ≡ false
      no-blank = by_cases (eqb (run f) 0)
          (λ q. ap (λ (m : ℕ). is_blank (drop m f)) (sym (eqb-true (run f) 0 q)) ∙ (behind ∙ h))
          (λ q. blank-run f (eqb-false (run f) 0 q))

  pub field-named : {b : Bool} → z ≡ true → b ≡ is_first (get_or f 0 0) → b ≡ true → Name n ≡ field_of f
  unfolding field_of
  field-named h p q = rw (name-run f, sym p ∙ q, behind ∙ h, text-run f (behind ∙ h), long)

  pub field-digit : {b : Bool} → (n ≡ 0 → ⊥) → b ≡ is_first (get_or f 0 0) → b ≡ false → Neither ≡ field_of f
  unfolding field_of
  field-digit m p q = rw (no_name f (sym p ∙ q), blank-run f (λ u. m (long ∙ u)))

-- ---- blanks
pub blank-text : (f : List ℕ) → is_blank f ≡ true → text f ≡ []
unfolding is_blank text
blank-text [] e = refl
blank-text (x ∷ xs) e =
    by_cases (eqb x 0)
    (λ h. text-zero x xs (eqb-true x 0 h))
    (λ h. not-both e (every-off (eqb 0) x xs (ne_eqb 0 x (λ q. eqb-false x 0 h (sym q)))))

-- ---- what a reader's answer says of the field
pub is_name_lem : (f : List ℕ) {n : ℕ} → Name n ≡ field_of f → is_name f ≡ true
unfolding field_of
is_name_lem f {n} e =
    by_cases (is_name f) (λ h. h)
    (λ h. by_cases (is_blank f) (λ b. let k : Name n ≡ Blank = rw (h, b) at e in let z : ◌≡◌ {A = ℕ} 0 1 = cc in absurd (omega arith))
    (λ b. let k : Name n ≡ Neither = rw (h, b) at e in let z : ◌≡◌ {A = ℕ} 0 1 = cc in absurd (omega arith)))

-- the reader's answer is no name
pub is-no-name : (f : List ℕ) {r : Field} → r ≡ field_of f → ((n : ℕ) → r ≡ Name n → ⊥) → is_name f ≡ false
unfolding field_of
is-no-name f {r} e k = by_cases (is_name f) (λ h. absurd (k (length (text f)) (e ∙ rw h))) (λ h. h)

-- a name or a blank is not neither
pub not-neither : {r : Field} → ((n : ℕ) × (r ≡ Name n)) ⊎ (r ≡ Blank) → r ≡ Neither → ⊥
not-neither {r} (inl e) h = let k : r ≡ Name e.0 = e.1 in cc
not-neither {r} (inr e) h = cc

pub is-optional : (f : List ℕ) {r : Field} → r ≡ field_of f → (r ≡ Neither → ⊥) → is_name_or_blank f ≡ true
unfolding field_of is_name_or_blank
is-optional f {r} e k =
    by_cases (is_name f) (λ h. rw h)
    (λ h. by_cases (is_blank f) (λ b. rw (h, b)) (λ b. absurd (k (e ∙ rw (h, b)))))

pub is-not-optional : (f : List ℕ) → Neither ≡ field_of f → is_name_or_blank f ≡ false
unfolding field_of is_name_or_blank
is-not-optional f e =
    by_cases (is_name f)
    (λ h. let k : Neither ≡ Name (length (text f)) = rw h at e in let z : ◌≡◌ {A = ℕ} 0 1 = cc in absurd (omega arith))
    (λ h. by_cases (is_blank f) (λ b. let k : Neither ≡ Blank = rw (h, b) at e in let z : ◌≡◌ {A = ℕ} 0 1 = cc in absurd (omega arith))
    (λ b. rw (h, b)))

-- the part of a slice between two offsets, as the field there
pub field_is : (w : ℕ) (t : List ℕ) (at : ℕ) → take (at + w - at) (drop at t) ≡ field_at w t at
unfolding field_at
field_is w t at = ap (λ (n : ℕ). take n (drop at t)) (add-sub_cancel_left at w)

-- ---- characters: a name has one, and a blank has none
pub name-not-blank : (f : List ℕ) → is_name f ≡ true → is_blank f ≡ false
unfolding is_name are_name_characters
name-not-blank f e =
    by_cases (is_blank f)
    (λ h. absurd (false≢true (rw (blank-text f h) at (and_left (are_name_characters (text f)) _ e))))
    (λ h. h)

pub some-character : (n : List ℕ) → are_name_characters n ≡ true → 1 ≤ length n
unfolding are_name_characters
some-character [] e = absurd (false≢true e)
some-character (x ∷ n) e = omega arith

pub name-characters : (f : List ℕ) → is_name f ≡ true → are_name_characters (text f) ≡ true
unfolding is_name
name-characters f e = and_left (are_name_characters (text f)) _ e

-- ---- names of several parts, and padded names
pub underscore-other : is_other underscore ≡ true
unfolding is_other is_first is_letter is_digit underscore
underscore-other = refl

-- the characters of a name may stand in any place but the first
pub characters-others : (n : List ℕ) → are_name_characters n ≡ true → every is_other n ≡ true
unfolding are_name_characters
characters-others [] e = absurd (false≢true e)
characters-others (x ∷ n) e = rw (first-other x (and_left (is_first x) (every is_other n) e), every) (and_right (is_first x) (every is_other n) e)

pub characters-append : (n ys : List ℕ) → are_name_characters n ≡ true → every is_other ys ≡ true → are_name_characters (n ++ ys) ≡ true
unfolding are_name_characters
characters-append [] ys e h = absurd (false≢true e)
characters-append (x ∷ n) ys e h =
    both (and_left (is_first x) (every is_other n) e) (every_append is_other n ys (and_right (is_first x) (every is_other n) e) h)

-- a padded name without its padding
zeros-text : (k : ℕ) → text (replicate k 0) ≡ []
unfolding text non_zero
zeros-text zero = refl
zeros-text (suc k) = refl

text-append : (n ys : List ℕ) → every is_other n ≡ true → text ys ≡ [] → text (n ++ ys) ≡ n
unfolding text
text-append [] ys e h = h
text-append (x ∷ n) ys e h =
    by_cases (is_other x)
    (λ k.
    while-on non_zero x (n ++ ys) (no-pad (other-some x k))
    ∙ ap (λ (l : List ℕ). x ∷ l) (text-append n ys (rw (k, every) at e) h))
    (λ k. absurd (false≢true (rw (k, every) at e)))

pub text-padded : (w : ℕ) (n : List ℕ) → are_name_characters n ≡ true → text (padded w n) ≡ n
unfolding padded
text-padded w n e = text-append n (replicate (w - length n) 0) (characters-others n e) (zeros-text (w - length n))

-- a blank is zeros
pub blank-zeros : (f : List ℕ) → is_blank f ≡ true → f ≡ replicate (length f) 0
unfolding is_blank
blank-zeros [] e = refl
blank-zeros (x ∷ f) e =
    by_cases (eqb 0 x)
    (λ h. let z : 0 ≡ x = eqb-true 0 x h in let r : f ≡ replicate (length f) 0 = blank-zeros f (rw (h, every) at e) in cc)
    (λ h. not-both e (rw (h, every)))

-- zeros are a blank, and a padded name is a name
pub blank-padded : (w : ℕ) → is_blank (padded w []) ≡ true
unfolding is_blank padded
blank-padded w = every-replicate (eqb 0) (w - 0) 0 refl

padding-of : (w : ℕ) (n : List ℕ) → drop (length n) (padded w n) ≡ replicate (w - length n) 0
unfolding padded
padding-of w n = drop-append_seam n (replicate (w - length n) 0)

pub name-padded : (w : ℕ) (n : List ℕ) → are_name_characters n ≡ true → is_name (padded w n) ≡ true
unfolding is_name is_blank
name-padded w n e =
    rw (text-padded w n e) (both e (ap (every (eqb 0)) (padding-of w n) ∙ every-replicate (eqb 0) (w - length n) 0 refl))

-- ---- a name's field is the name and zeros
pub name-padding : (w : ℕ) (f : List ℕ) → is_name f ≡ true → length f ≡ w → f ≡ padded w (text f)
unfolding is_name text padded
name-padding w f e l =
    let t = text f in
    let b = blank-zeros (drop (length t) f) (and_right (are_name_characters t) (is_blank (drop (length t) f)) e) in
    let n : length (drop (length t) f) ≡ w - length t = rw (length-drop, l) in
    sym (take-append-drop (length t) f)
    ∙ (ap (λ (k : List ℕ). k ++ drop (length t) f) (take_while non_zero f)
    ∙ (ap (λ (k : List ℕ). t ++ k) b ∙ ap (λ (k : ℕ). t ++ replicate k 0) n))
