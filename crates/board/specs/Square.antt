-- Squares and steps. Definitions only.
-- Square = 8 x rank + file, a1 = 0, h8 = 63 (01, "Men, squares"); 64 stands for "off the board".
-- A step (dx, dy) is a change of file and of rank from -2 to 2, each written plus 2, so that both are natural numbers.
use Rattle.std.specs.Prelude.{Bool, cond, ◌&&◌, ℕ, ◌+◌, ◌-◌, ◌*◌, ◌/◌, ◌%◌, leb, ltb}

-- the step from s stays on the board; off the board no step leads anywhere
unfoldable pub stays : ℕ → ℕ → ℕ → Bool
stays s dx dy = ltb s 64 && leb 2 (s % 8 + dx) && leb (s % 8 + dx) 9 && leb 2 (s / 8 + dy) && leb (s / 8 + dy) 9

-- the square that it leads to, or 64
unfoldable pub shift : ℕ → ℕ → ℕ → ℕ
shift s dx dy = cond (stays s dx dy) ((s / 8 + dy - 2) * 8 + (s % 8 + dx - 2)) 64
