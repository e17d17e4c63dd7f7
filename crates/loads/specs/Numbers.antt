-- The numbers that a load draws, and the sum of its answers, all on 64 bits.
use Rattle.std.specs.Prelude.{ℕ, ◌+◌, ◌*◌, ◌/◌, ◌%◌, ◌^◌, bit_xor}

-- a shift to the left loses what passes bit 63
abbrev pub left : ℕ → ℕ → ℕ
left k x = bit_xor x (x * 2 ^ k % 2 ^ 64)

abbrev pub right : ℕ → ℕ → ℕ
right k x = bit_xor x (x / 2 ^ k)

abbrev pub shifted : ℕ → ℕ
shifted x = left 17 (right 7 (left 13 x))

-- a sum takes in a number
abbrev pub mixed : ℕ → ℕ → ℕ
mixed sum n = (sum * 31 + n) % 2 ^ 64
