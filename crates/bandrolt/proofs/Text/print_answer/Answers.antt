-- `bandrolt::Text::print_answer` meets its contract: a refusal's line, or the table's lines, for which there is room.
-- Assumes nothing.
use mathlib.Core.Path.{◌≡◌, refl}
use Rattle.composer.specs.Printed.{printed_of}
use borrow.Author.Tests.{ne_eqb}
use Rattle.std.proofs.Common.{rules}
use Rattle.bandrolt.proofs.Lengths.{table-fits, refusal-fits}
use Rattle.bandrolt.proofs.Text.print_answer.Goals as goal

pub print_table-requires : goal.print_table-requires
print_table-requires c = table-fits c.args.table.now (λ k. (c.type_inv.table k).fits) _ c.requires.empty (search rules) c.requires.room

pub print_refusal-requires : goal.print_refusal-requires
print_refusal-requires c = refusal-fits _ _ c.requires.empty (search rules) (search rules)

pub returns-in-0 : goal.returns-in-0
unfolding printed_of
returns-in-0 c = rw (c.print_table.ensures, c.requires.empty, c.in-0.is) refl

pub returns-in_default : goal.returns-in_default
unfolding printed_of
returns-in_default c =
    let refused : c.args.a.number ≡ 0 → ⊥ = search rules in
    rw (c.print_refusal.ensures, c.requires.empty, ne_eqb c.args.a.number 0 refused) refl
