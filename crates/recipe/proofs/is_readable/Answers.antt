-- `recipe::is_readable` meets its contract: test by test, each as row 2 has it.
-- Assumes nothing.
use mathlib.Core.Path.{sym, ◌∙◌}
use Rattle.recipe.proofs.Reading.{unknown}
use native.Mathlib.Omega.{arith}
use Rattle.recipe.specs.Records.{kind, next, recipe}
use Rattle.recipe.proofs.Reading.{not-past, not-whole, whole-model, whole-other}
use Rattle.recipe.proofs.is_readable.Goals as goal

pub returns-then-p-s : goal.returns-then-p-s
returns-then-p-s c = not-past (recipe c.args.s.now) _ c.if-p-s.true

pub returns-then-not-is_known : goal.returns-then-not-is_known
unfolding kind
returns-then-not-is_known c =
    unknown (recipe c.args.s.now) c.args.p (sym c.is_known.ensures ∙ c.if-not-is_known.true)

pub returns-then-n-s : goal.returns-then-n-s
unfolding kind next
returns-then-n-s c =
    not-whole (recipe c.args.s.now) c.args.p (omega (arith, c.record_length-n.ensures))

pub returns-then-k : goal.returns-then-k
unfolding kind next
returns-then-k c =
    whole-model (recipe c.args.s.now) c.args.p c.if-k.true (sym c.is_known.ensures ∙ c.if-not-is_known.false) (omega (arith, c.record_length-n.ensures))

pub returns : goal.returns
unfolding kind next
returns c =
    whole-other (recipe c.args.s.now) c.args.p c.if-k.false (sym c.is_known.ensures ∙ c.if-not-is_known.false) (omega (arith, c.record_length-n.ensures))
