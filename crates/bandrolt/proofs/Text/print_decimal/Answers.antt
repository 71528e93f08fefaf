-- `bandrolt::Text::print_decimal` meets its contract: the kit's digits are put there.
-- Assumes nothing.
use mathlib.Core.Path.{sym, subst, ap, ◌∙◌}
use mathlib.Core.List.{◌++◌}
use Rattle.bandrolt.specs.Text.{HasRoom}
use Rattle.bandrolt.proofs.Decimals.{digits_are}
use Rattle.bandrolt.proofs.Text.print_decimal.Goals as goal

pub put-requires : goal.put-requires
put-requires c =
    subst (HasRoom c.args.self.now) (sym (digits_are c.decimal-n.result c.args.k c.decimal-n.new.out c.decimal-n.ensures.len c.decimal-n.ensures.digits)) c.requires

pub returns : goal.returns
returns c =
    c.put.ensures ∙ ap (λ l. c.args.self.now ++ l) (digits_are c.decimal-n.result c.args.k c.decimal-n.new.out c.decimal-n.ensures.len c.decimal-n.ensures.digits)
