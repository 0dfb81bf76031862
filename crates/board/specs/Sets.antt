-- Sets of squares. "A square set holds one bit for each square" (01). Definitions only.
use Rattle.std.specs.Prelude.{Bool, true, false, List, ℕ, zero, suc, ◌+◌, ◌*◌, ◌/◌, ◌%◌, ◌^◌, eqb, get_or}
use Rattle.finite.specs.Filter.{filter}
use Rattle.finite.specs.Numbers.{numbers}

-- the set holds the square s: its bit s is 1
abbrev pub has : ℕ → ℕ → Bool
has set s = eqb (set / 2 ^ s % 2) 1

-- the 64 squares, in rising order
unfoldable pub squares : List ℕ
squares = numbers 64 0

-- the squares that the set holds, in rising order
unfoldable pub members : ℕ → List ℕ
members set = filter (has set) squares

-- the lowest of them, or 64 where there is none
abbrev pub lowest_square : ℕ → ℕ
lowest_square set = get_or (members set) 0 64

abbrev pub digit : Bool → ℕ
digit true = 1
digit false = 0

-- the number whose bit i, for i below n, says whether the test passes at k + i
unfoldable pub pack : (ℕ → Bool) → ℕ → ℕ → ℕ
pack p zero k = zero
pack p (suc n) k = digit (p k) + 2 * pack p n (suc k)

-- the set of the squares that pass a test
unfoldable pub set_of : (ℕ → Bool) → ℕ
set_of p = pack p 64 0
