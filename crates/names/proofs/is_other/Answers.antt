-- `names::is_other` meets its contract: by computing.
-- Assumes nothing.
use Rattle.names.specs.Names.{is_other, is_digit}
use borrow.Author.Rules.{rules}
use Rattle.names.proofs.is_other.Goals as goal

pub returns : goal.returns
unfolding is_other is_digit
returns c = search rules
