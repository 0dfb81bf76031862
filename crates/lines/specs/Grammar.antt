-- The request of one input line, for any list of bytes (01, "The desk program", "When the desk says no"; 02, P2). Definitions only.
use Rattle.std.specs.Prelude.{Bool, true, false, cond, not, ◌&&◌, List, [], ◌∷◌, ℕ, ◌+◌, ◌-◌, ◌*◌, leb, eqb, get_or, Err, Ok, Result}
use Prim.Native.Char.{code}
use Rattle.ascii.specs.Bytes.{bytes}
use Rattle.check_digits.specs.Check.{right_number}
use Rattle.position.specs.declared.Position.{Position}
use Rattle.position.specs.Keyed.{one_man}
use Rattle.lines.specs.declared.Request.{Request}

abbrev pub between : ℕ → ℕ → ℕ → Bool
between low high byte = leb low byte && leb byte high

-- ---- shape

-- A place of a line takes: `.` any byte but a space, `0` any digit, another byte that byte itself. A space where a part's byte belongs is
-- "a space out of place", another byte where a space belongs is "a space missing", and there is "a non-digit in a digit's place".
unfoldable pub fits_place : ℕ → ℕ → Bool
fits_place place byte =
    cond (eqb place (code ".")) (not (eqb byte (code " ")))
    (cond (eqb place (code "0")) (between (code "0") (code "9") byte)
    (eqb byte place))

-- the line is as long as the shape, and each byte fits its place
unfoldable pub has_shape : List ℕ → List ℕ → Bool
has_shape [] [] = true
has_shape [] (b ∷ bs) = false
has_shape (p ∷ ps) [] = false
has_shape (p ∷ ps) (b ∷ bs) = fits_place p b && has_shape ps bs

-- "A position line is 12 bytes: man, side, white king, man's square, black king. .. Single spaces stand between the parts"
abbrev pub position_shape : List ℕ
position_shape = bytes ". . .. .. .."

-- "A number line .. man, `#`, five digits"; "two check digits after the five, .. 11 bytes"
abbrev pub number_shape : List ℕ
number_shape = bytes ". # 0000000"

-- ---- parts

-- "Men are Q R B N", of the material codes 0 to 3; 4 for another byte
unfoldable pub kind_named : ℕ → ℕ
kind_named b = cond (eqb b (code "Q")) 0 (cond (eqb b (code "R")) 1 (cond (eqb b (code "B")) 2 (cond (eqb b (code "N")) 3 4)))

-- "On a position line `q r b n` mean Black's man" (02, P9): the letter as White's, any other byte as it is
unfoldable pub as_white : ℕ → ℕ
as_white b = cond (eqb b (code "q")) (code "Q") (cond (eqb b (code "r")) (code "R") (cond (eqb b (code "b")) (code "B") (cond (eqb b (code "n")) (code "N") b)))

-- the man's colour on a position line
unfoldable pub colour_of : ℕ → ℕ
colour_of b = cond (eqb b (code "q")) 1 (cond (eqb b (code "r")) 1 (cond (eqb b (code "b")) 1 (cond (eqb b (code "n")) 1 0)))

-- "sides w b", White 0 and Black 1; 2 for another byte
unfoldable pub side_of : ℕ → ℕ
side_of b = cond (eqb b (code "w")) 0 (cond (eqb b (code "b")) 1 2)

-- "files a to h, ranks 1 to 8", the square 8 x rank + file; 64 where either is another byte
unfoldable pub square_named : ℕ → ℕ → ℕ
square_named file rank = cond (between (code "a") (code "h") file && between (code "1") (code "8") rank) (8 * (rank - code "1") + (file - code "a")) 64

-- the value of a digit; 0 for another byte
unfoldable pub digit_of : ℕ → ℕ
digit_of b = cond (between (code "0") (code "9") b) (b - code "0") 0

-- ---- requests

-- the parts of a position line, each out of range where its byte is wrong: "any other wrong byte in a man's, side's or square's place is 1, 2 or 3"
unfoldable pub keyed_of : List ℕ → Position
keyed_of line =
    one_man (kind_named (as_white (get_or line 0 0))) (colour_of (get_or line 0 0)) (side_of (get_or line 2 0)) (square_named (get_or line 4 0) (get_or line 5 0)) (square_named (get_or line 7 0) (get_or line 8 0)) (square_named (get_or line 10 0) (get_or line 11 0))

-- the number that five digits name
unfoldable pub five_digits : List ℕ → ℕ
five_digits line =
    digit_of (get_or line 4 0) * 10000 + digit_of (get_or line 5 0) * 1000 + digit_of (get_or line 6 0) * 100 + digit_of (get_or line 7 0) * 10 + digit_of (get_or line 8 0)

-- the check that the two digits after them name
unfoldable pub typed_check : List ℕ → ℕ
typed_check line = digit_of (get_or line 9 0) * 10 + digit_of (get_or line 10 0)

-- "the seven digits as one number"
unfoldable pub seven_digits : List ℕ → ℕ
seven_digits line = five_digits line * 100 + typed_check line

-- a number line's man and number. "A wrong check is refusal 13, tested after the shape and before 1, 8 and 9"; 1 where the man's byte is wrong
unfoldable pub number_request : List ℕ → Result Request ℕ
number_request line =
    cond (not (right_number (seven_digits line))) (Err 13)
    (cond (leb 4 (kind_named (get_or line 0 0))) (Err 1) (Ok (Request.Back (kind_named (get_or line 0 0)) (five_digits line))))

-- "Another length, .. a space out of place or missing, or a non-digit in a digit's place is refusal 12"; "a line's shape comes first". "The old
-- nine-byte line becomes refusal 12", as another length
unfoldable pub request_of : List ℕ → Result Request ℕ
request_of line = cond (has_shape position_shape line) (Ok (Request.LookUp (keyed_of line))) (cond (has_shape number_shape line) (number_request line) (Err 12))
