-- `targets::resolve_port` and `targets::resolve_reference` call one another: a port leads to its own reference, a reference to a port of a definition that is lower.
-- Assumes nothing.
use Prim.Native.Nat.{◌*◌, ◌+◌}
use Rattle.targets.proofs.Remembering.{height-of}
use Rattle.targets.proofs.+resolve_port_resolve_reference.Given as goal

abbrev pub decreases-resolve_port : goal.decreases-resolve_port
decreases-resolve_port l = 2 * height-of l.t.now l.q + 1

abbrev pub decreases-resolve_reference : goal.decreases-resolve_reference
decreases-resolve_reference l = 2 * height-of l.t.now l.r
