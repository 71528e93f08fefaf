-- What the answers of a read mean: "It reads standard input", and a read that fails is no end of it.
-- Assumes nothing.
use Rattle.std.specs.Prelude.{ℕ, zero, suc, min, Option, Some, None, Result, Ok, Err}
use Rattle.std.specs.declared.io.Error.{Error}

-- one read into `room` bytes: an error says why it failed, 0 that the input ended, any other number how many bytes it put there
abbrev pub got_of : Result ℕ Error → ℕ → Result (Option ℕ) Error
got_of (Ok k) room = Ok (elim (min k room) [ zero ↦ None | suc n ↦ Some (suc n) ])
got_of (Err why) room = Err why
