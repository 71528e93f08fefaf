-- `IndexedRows::first_repeated` meets its contract: a position is a place.
-- Assumes nothing.
use Rattle.std.specs.Prelude.{option_map}
use Prim.Native.Nat.{◌*◌}
use mathlib.Core.Path.{sym, ap, ◌∙◌}
use native.Mathlib.Omega.{arith}
use Rattle.flat_table.proofs.Places.{repeated-row, answered-row}
use Rattle.flat_table.proofs.IndexedRows.first_repeated.Goals as goal

pub returns-in_err-p : goal.returns-in_err-p
returns-in_err-p c = c.from_residual.ensures ∙ (sym (ap (option_map (λ q. q * c.args.self.now.rows.layout.stride)) c.in_err-p.was) ∙ repeated-row c.args.self.now c.first_repeat.ensures)

pub overflow_mul-result : goal.overflow_mul-result
overflow_mul-result c =
    let r = answered-row c.args.self.now _ c.first_repeat.ensures c.in_ok-p.was in
    omega (arith, r.room, r.fields.small, c.args.self.now.rows.few)

pub returns : goal.returns
returns c = sym (ap (option_map (λ q. q * c.args.self.now.rows.layout.stride)) c.in_ok-p.was) ∙ repeated-row c.args.self.now c.first_repeat.ensures
