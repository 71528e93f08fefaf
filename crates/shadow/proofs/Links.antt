-- What a cell names, as `link` answers it: no record where it has 0, and else the one at the place that it has.
-- Assumes nothing.
use Rattle.std.specs.Prelude.{None, Option, Some, is_some}
use Prim.Native.Nat.{ℕ}
use borrow.Author.Tests.{eq-eqb, eqb-false, eqb-true}
use lib.Dec.{eqb}
use mathlib.Core.Bool.{false, true, true≢false}
use mathlib.Core.Path.{◌∙◌, ◌≡◌, ap, sym}
use Rattle.names.proofs.Tests.{by_cases, by-option, not_none, some-none, the-some}
use Rattle.shadow.specs.Shadow.{linked}

pub link-none : {x : ℕ} {r : Option ℕ} → r ≡ linked x → r ≡ None → x ≡ 0
link-none {x} e n =
    by_cases (eqb x 0)
    (λ b. eqb-true x 0 b)
    (λ b. some-none (rw b at (sym e ∙ n)))

pub link-some : {x q : ℕ} {r : Option ℕ} → r ≡ linked x → r ≡ Some q → (q ≡ x) × (eqb x 0 ≡ false) × (q ≡ 0 → ⊥)
link-some {x} {q} e n =
    by_cases (eqb x 0)
    (λ b. not_none (rw b at (sym e ∙ n)))
    (λ b. let h : x ≡ q = the-some (rw b at (sym e ∙ n)) in (sym h, b, λ z. eqb-false x 0 b (h ∙ z)))

-- the same where it is only asked whether it names one
pub link-set : {x : ℕ} {r : Option ℕ} → r ≡ linked x → is_some r ≡ true → x ≡ 0 → ⊥
link-set {x} e h z = let n : is_some (linked x) ≡ false = rw (eq-eqb x 0 z) in true≢false (sym h ∙ (ap is_some e ∙ n))

pub link-clear : {x : ℕ} {r : Option ℕ} → r ≡ linked x → is_some r ≡ false → x ≡ 0
link-clear {x} {r} e h = by-option r (λ n. link-none e n) (λ q n. absurd (true≢false (sym (ap is_some n) ∙ h)))
