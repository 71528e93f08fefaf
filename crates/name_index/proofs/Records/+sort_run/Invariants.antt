-- `Records::sort_run` meets its contract: the measure is the length.
-- Assumes nothing.
use lib.ListN.{length}
use Rattle.name_index.proofs.Records.+sort_run.Given as goal

abbrev pub decreases-sort_run : goal.decreases-sort_run
decreases-sort_run l = length l.run.now
