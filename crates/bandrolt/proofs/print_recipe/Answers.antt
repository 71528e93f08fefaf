-- `bandrolt::print_recipe` meets its contract: the bytes that flattening tells of are printed.
-- Assumes nothing.
use mathlib.Core.Path.{◌∙◌}
use Rattle.bandrolt.proofs.Output.{told-within, told-bytes, told-room, output-is}
use Rattle.bandrolt.proofs.print_recipe.Goals as goal

pub slice_bounds-print_answer-end : goal.slice_bounds-print_answer-end
slice_bounds-print_answer-end c = told-within _ c.args.table.now c.flatten-a.ensures.0 c.flatten-a.ensures.1

pub slice_bounds-print_answer-end-2 : goal.slice_bounds-print_answer-end-2
slice_bounds-print_answer-end-2 c = told-bytes _ c.args.table.now c.flatten-a.ensures.0 c.flatten-a.ensures.1

pub print_answer-requires-clause-room : goal.print_answer-requires-clause-room
print_answer-requires-clause-room c = told-room _ c.args.table.now c.flatten-a.ensures.0 c.flatten-a.ensures.1 c.requires.room

pub returns : goal.returns
returns c =
    c.print_answer.ensures ∙ output-is c.args.input.now c.args.table.now c.flatten-a.ensures.0 c.flatten-a.ensures.1 c.requires.read c.requires.room
