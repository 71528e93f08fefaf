-- `tree::thread_instances` meets its contract: the instances from i on are threaded.
-- Assumes nothing.
use Rattle.recipe.specs.Records.{recipe}
use Rattle.tree.proofs.Threads.{ThreadLoop}
use Rattle.tree.proofs.thread_instances.Given as goal

abbrev pub invariant-loop-i : goal.invariant-loop-i
invariant-loop-i l = ThreadLoop (recipe l.s) l.initial.t l.initial.inst l.t l.inst l.n l.i
