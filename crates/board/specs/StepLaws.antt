-- What the laws of the same name speak of. Definitions only.
use Rattle.std.specs.Prelude.{◌≡◌, Bool, cond, ◌&&◌, ℕ, ◌+◌, ◌-◌, ◌*◌, ◌/◌, ◌%◌, ◌^◌, leb, ltb, get_or}
use Rattle.std.specs.Int.Bits.{bit_and}
use Rattle.board.specs.Square.{shift}
use Rattle.board.specs.Reach.{step_xs, step_ys}

-- a step with the change of file x can end on t: it comes from a file of the board
abbrev pub ends_on : ℕ → ℕ → Bool
ends_on x t = leb x (t % 8 + 2) && leb (t % 8 + 2) (x + 7)

-- what the code makes of b
unfoldable pub step_bits : ℕ → ℕ → ℕ → ℕ
step_bits b step ends = cond (ltb step 18) (bit_and (b / 2 ^ (18 - step)) ends) (bit_and ((b * 2 ^ (step - 18)) % 18446744073709551616) ends)

-- the number is that of the k-th step
abbrev pub IsStep : ℕ → ℕ → Type 0
IsStep step k = (step % 8 ≡ get_or step_xs k 0) × (step / 8 ≡ get_or step_ys k 0)

-- the square next to s
abbrev pub next : ℕ → ℕ → ℕ
next s step = shift s (step % 8) (step / 8)

-- the square of a file and a rank, each plus 2, or 64
unfoldable pub square_at : ℕ → ℕ → ℕ
square_at x y = cond (leb 2 x && leb x 9 && leb 2 y && leb y 9) ((y - 2) * 8 + (x - 2)) 64
