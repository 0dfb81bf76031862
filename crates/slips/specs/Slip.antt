-- The bytes of an answer's slip (01, "The desk program"). Definitions only.
use Rattle.position.specs.declared.Position.{Position}
use Rattle.rules.specs.declared.Move.{Move}
use Rattle.std.specs.Prelude.{Bool, cond, List, [], ◌∷◌, ◌++◌, ℕ, ◌+◌, ◌-◌, ◌/◌, ◌%◌, ltb, eqb, length, replicate, Err, None, Ok, Option, Result, Some}
use Prim.Native.Char.{code}
use Rattle.ascii.specs.Bytes.{bytes}
use Rattle.position.specs.Keyed.{man_square}
use Rattle.answers.specs.declared.Answer.{Answer}
use Rattle.slips.specs.declared.Slip.{Slip}

-- the byte of a number's last digit
abbrev pub digit_byte : ℕ → ℕ
digit_byte n = code "0" + n % 10

-- a number below 1000, in decimal without leading zeros
unfoldable pub decimal : ℕ → List ℕ
decimal n =
    cond (ltb n 10) (digit_byte n ∷ [])
    (cond (ltb n 100) (digit_byte (n / 10) ∷ digit_byte n ∷ [])
    (digit_byte (n / 100) ∷ digit_byte (n / 10) ∷ digit_byte n ∷ []))

-- "files a to h, ranks 1 to 8": a square's file and rank; of a number above 63, those of its remainder by 64
unfoldable pub square_name : ℕ → List ℕ
square_name s = (code "a" + s % 8) ∷ (code "1" + s / 8 % 8) ∷ []

-- "sides w b": White is 0, and any other side Black
unfoldable pub side_letter : ℕ → ℕ
side_letter side = cond (eqb side 0) (code "w") (code "b")

-- a word and a number; a space and a square
unfoldable pub word_and_number : List ℕ → ℕ → List ℕ
word_and_number word n = word ++ decimal n

unfoldable pub gapped : ℕ → List ℕ
gapped s = bytes " " ++ square_name s

-- "`x` before the target when a man is taken" (02, P6)
unfoldable pub mark_text : Bool → List ℕ
mark_text takes = cond takes (bytes "x") []

-- an answer's move, from-square, mark and to-square, after a space; nothing where there is none
unfoldable pub advice_text : Option Move → List ℕ
advice_text (Some m) = gapped m.from ++ mark_text m.takes ++ square_name m.to
advice_text None = []

-- `win 1 h2a2`, `loss 0`, `draw`, `draw a1xb2`, `refused 6`
unfoldable pub answer_text : Result Answer ℕ → List ℕ
answer_text (Ok (Answer.Win n a)) = word_and_number (bytes "win ") n ++ advice_text a
answer_text (Ok (Answer.Loss n a)) = word_and_number (bytes "loss ") n ++ advice_text a
answer_text (Ok (Answer.Draw a)) = bytes "draw" ++ advice_text a
answer_text (Err n) = word_and_number (bytes "refused ") n

-- `w a1 b1 h8`: side, white king, man's square, black king
unfoldable pub placed_text : Result Position ℕ → List ℕ
placed_text (Ok p) = side_letter p.side ∷ gapped p.white_king ++ gapped (man_square p) ++ gapped p.black_king
placed_text (Err n) = word_and_number (bytes "refused ") n

-- "a newline ends the line"
abbrev pub with_newline : List ℕ → List ℕ
with_newline text = text ++ bytes "\n"

-- the slip of look-up's answer, of numbering back's, and of a refusal
unfoldable pub slip_of : Result Answer ℕ → List ℕ
slip_of a = with_newline (answer_text a)

unfoldable pub placed_slip : Result Position ℕ → List ℕ
placed_slip p = with_newline (placed_text p)

unfoldable pub refused_slip : ℕ → List ℕ
refused_slip n = with_newline (word_and_number (bytes "refused ") n)

-- a list of at most 16 bytes as a slip: zeros fill the unused places
unfoldable pub padded : List ℕ → Slip
padded bs = record { bytes = bs ++ replicate (16 - length bs) 0; len = length bs }
