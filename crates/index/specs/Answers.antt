-- What numbering and numbering back answer (01, "The number of a position", "When the desk says no"). Definitions only.
use Rattle.std.specs.Prelude.{Bool, cond, not, ◌&&◌, ◌||◌, ℕ, ◌/◌, ◌%◌, leb, eqb, Err, Ok, Result}
use Rattle.numbering.specs.Kings.{above, on_diagonal, kings_of}
use Rattle.numbering.specs.declared.Material.{Material}
use Rattle.numbering.specs.Number.{number_of}
use Rattle.numbering.specs.Material.{given, material_in, size_of}
use Rattle.position.specs.declared.Position.{Position}
use Rattle.position.specs.Keyed.{board_of, lone, man_square, keyed}
use Rattle.position.specs.Refusals.{placing_refusal, placing_with}
use Rattle.index.specs.Endings.{number_in, board_for, used_in}

-- "Numbering asks 1 to 5"
unfoldable pub number_answer : Position → Result ℕ ℕ
number_answer p =
    cond (eqb (placing_refusal p) 0) (Ok (number_of (board_of p)))
    (Err (placing_refusal p))

-- what stands at a number, used or not: number = (side x 462 + pair) x 64 + man's square
unfoldable pub position_at : ℕ → ℕ → Position
position_at kind n = let kings = kings_of (n / 64 % 462) in lone kind (n / 64 / 462) (kings / 64) (n % 64) (kings % 64)

-- "A number is unused if the man shares a king's square, or if both kings are on the diagonal and the man above it."
unfoldable pub unused : Position → Bool
unused p =
    eqb p.white_king (man_square p) ||
    (eqb (man_square p) p.black_king || (on_diagonal p.white_king && (on_diagonal p.black_king && above (man_square p))))

-- "numbering back [asks] 1, 8, 9"
unfoldable pub placed_at : ℕ → ℕ → Result Position ℕ
placed_at kind n =
    cond (leb 4 kind) (Err 1)
    (cond (leb 59136 n) (Err 8)
    (cond (unused (position_at kind n)) (Err 9) (Ok (position_at kind n))))

-- ---- for one man and for two (02, P10), and for a pawn (P12)

unfoldable pub number_with : Position → Result ℕ ℕ
number_with p =
    cond (eqb (placing_with p) 0) (Ok (number_in (material_in (board_of p).men) (board_of p)))
    (Err (placing_with p))

-- what stands at a number below the ending's size, where it is used
abbrev pub found_at : Material → ℕ → Result Position ℕ
found_at m n = cond (used_in m n) (Ok (keyed (board_for m n))) (Err 9)

unfoldable pub placed_with : Material → ℕ → Result Position ℕ
placed_with m n = cond (not (given m)) (Err 1) (cond (leb (size_of m) n) (Err 8) (found_at m n))
