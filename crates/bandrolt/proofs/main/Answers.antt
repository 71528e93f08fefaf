-- `bandrolt::main` meets its contract: what it lends has 01's lengths, and no more was read.
-- Assumes nothing.
use native.Mathlib.Omega.{arith}
use Rattle.composer.specs.Printed.{input_room, output_room}
use Rattle.bandrolt.proofs.main.Goals as goal

pub read_input-requires : goal.read_input-requires
unfolding input_room
read_input-requires c = omega arith

pub print_recipe-requires-clause-room : goal.print_recipe-requires-clause-room
unfolding output_room
print_recipe-requires-clause-room c = omega arith
