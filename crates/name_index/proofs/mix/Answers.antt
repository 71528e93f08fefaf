-- `name_index::mix` meets its contract: the two halves of the eight bytes; the factors are below 2^30, so that the sums fit.
-- Assumes nothing.
use Prim.Native.Nat.{ℕ, ◌%◌, ◌/◌}
use mathlib.Core.Path.{◌≡◌, ap, ◌∙◌}
use Rattle.name_index.specs.Hash.{mixed, four_at}
use Rattle.name_index.proofs.Hashing.{low_half, high_half}
use Rattle.name_index.proofs.mix.Goals as goal

pub returns : goal.returns
unfolding mixed
returns c =
    let f = c.args.eight.now in
    let low : c.from_le_bytes-bits.result % 4294967296 ≡ four_at f 0 = ap (λ (n : ℕ). n % 4294967296) c.from_le_bytes-bits.ensures ∙ low_half f c.fits-eight in
    let high : c.from_le_bytes-bits.result / 4294967296 ≡ four_at f 4 = ap (λ (n : ℕ). n / 4294967296) c.from_le_bytes-bits.ensures ∙ high_half f c.fits-eight in
    rw (low, high)
