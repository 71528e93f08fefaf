-- `names::is_first` meets its contract: by computing.
-- Assumes nothing.
use Rattle.names.specs.Names.{is_first, is_letter, underscore}
use borrow.Author.Rules.{rules}
use Rattle.names.proofs.is_first.Goals as goal

pub returns : goal.returns
unfolding is_first is_letter underscore
returns c = search rules
