-- `heights::Worklist::push` meets its contract: it is marked already, or marked and queued now.
-- Assumes nothing.
use mathlib.Core.Path.{refl, sym, ◌∙◌}
use native.Mathlib.Omega.{arith}
use Rattle.heights.proofs.Search.{tail-low, queue-room, marks-one, grown-none, grown-one}
use Rattle.heights.proofs.Worklist.push.Goals as goal

pub returns-then-is_marked : goal.returns-then-is_marked
returns-then-is_marked c = (grown-none _ _, sym c.is_marked.ensures ∙ c.if-is_marked.true)

pub offset_bounds-self-self : goal.offset_bounds-self-self
offset_bounds-self-self c = omega (arith, tail-low c.args.self.now.marks)

pub bounds-self-self : goal.bounds-self-self
bounds-self-self c = queue-room c.args.self.now.marks _ c.requires (sym c.is_marked.ensures ∙ c.if-is_marked.false)

pub overflow_add-self : goal.overflow_add-self
overflow_add-self c = omega (arith, tail-low c.args.self.now.marks)

pub invariant_of-self : goal.invariant_of-self
invariant_of-self c = record { marks = marks-one c.args.self.now.marks _ c.requires (sym c.is_marked.ensures ∙ c.if-is_marked.false) }

pub returns : goal.returns
returns c = grown-one c.args.self.now _ c.requires (sym c.is_marked.ensures ∙ c.if-is_marked.false) refl refl refl refl
