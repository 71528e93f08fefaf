-- A number for each name, so that most comparisons of two names end at once. No answer depends on which. Assumes nothing.
use Rattle.std.specs.Prelude.{ℕ, zero, suc, ◌+◌, ◌-◌, ◌*◌, ◌/◌, ◌%◌, cond, List, length, get_or, ltb}

-- four bytes from offset i on, as a number
unfoldable pub four_at : List ℕ → ℕ → ℕ
four_at f i = get_or f i 0 + get_or f (i + 1) 0 * 256 + get_or f (i + 2) 0 * 65536 + get_or f (i + 3) 0 * 16777216

-- the state h and eight bytes more, as two numbers below 2^32; the factors are primes below 2^30, so that the sum is below 2^64
unfoldable pub mixed : ℕ → ℕ → ℕ → ℕ
mixed h low high = (h % 4294967296 + low) * 668265263 + (h / 4294967296 + high) * 374761393

-- k times eight bytes from offset i on
unfoldable pub mixed_from : ℕ → List ℕ → ℕ → ℕ → ℕ
mixed_from zero f i h = h
mixed_from (suc k) f i h = mixed_from k f (i + 8) (mixed h (four_at f i) (four_at f (i + 4)))

-- the number of a name: whole eights from its start, then its last eight bytes; 0 of a shorter name
unfoldable pub hash_of : List ℕ → ℕ
hash_of f =
    cond (ltb (length f) 8)
    0
    (mixed (mixed_from (length f / 8) f 0 0) (four_at f (length f - 8)) (four_at f (length f - 4)) % 4294967296)
