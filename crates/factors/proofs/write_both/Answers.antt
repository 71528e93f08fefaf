-- `factors::write_both` meets its contract: the prefixes, the flat table, the factors, the companion.
-- Assumes nothing.
use Prim.Native.Nat.{ℕ}
use lib.ListN.{length-replicate}
use Rattle.names.proofs.Tables.{get_or-zeros}
use Rattle.factors.proofs.Handed.{sites-blank}
use Rattle.factors.proofs.write_both.Goals as goal

pub fill_sites-requires : goal.fill_sites-requires
fill_sites-requires c = sites-blank c.args.c.now.composed _ (length-replicate {A = ℕ} 1024 0) (get_or-zeros 1024)
