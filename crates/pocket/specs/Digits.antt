-- A number's digits to base 4, the lowest first. Definitions only.
use Rattle.std.specs.Prelude.{ℕ, zero, suc, ◌+◌, ◌*◌, ◌/◌, ◌%◌, eqb}
use Rattle.board.specs.Sets.{digit}

-- how many of the n lowest digits of w are v
unfoldable pub digits : ℕ → ℕ → ℕ → ℕ
digits v zero w = 0
digits v (suc n) w = digit (eqb (w % 4) v) + digits v n (w / 4)

-- the low bit of each of n digits
unfoldable pub low_bits : ℕ → ℕ
low_bits zero = 0
low_bits (suc n) = low_bits n * 4 + 1
