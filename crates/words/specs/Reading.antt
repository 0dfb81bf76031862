-- What a host reads from the word of each answer, by the bit ranges of include/sledgewren.h, and which answers a word
-- has room for. Definitions only.
use Rattle.rules.specs.declared.Move.{Move}
use Rattle.std.specs.Prelude.{◌≡◌, Bool, cond, List, ℕ, ◌^◌, ◌≤◌, ◌<◌, eqb, get_or, Err, None, Ok, Option, Result, Some}
use Rattle.rules.specs.Rules.{piece_of, promotion_of}
use Rattle.answers.specs.declared.Answer.{Answer}
use Rattle.answers.specs.declared.Checked.{Checked}
use Rattle.fifty.specs.Marks.{Marked}
use Rattle.numbering.specs.declared.Material.{Material}
use Rattle.position.specs.declared.Position.{Position}
use Rattle.position.specs.Keyed.{lone, man_square}
use Rattle.four_men.specs.Lending.{Lent}
use Rattle.words.specs.Words.{second_square}
pub use Rattle.given_words.specs.Bits.{bits, Byte, ReadBack, OneWord}

-- "bits 0-7 refusal": another answer where they are 0
abbrev pub unless_refused : {A : Type 0} → A → (ℕ → A) → ℕ → A
unless_refused answer refused word = cond (eqb (bits 0 8 word) 0) answer (refused (bits 0 8 word))

-- ---- one reader for each word

-- "The number of a position, or SLEDGEWREN_NUMBER_REFUSED + refusal", which is bit 31
abbrev pub number_read : ℕ → Result ℕ ℕ
number_read word = cond (eqb (bits 31 1 word) 1) (Err (bits 0 8 word)) (Ok (bits 0 31 word))

-- the men of an ending on these squares: the side to move, the white king's square, the first man's, the black
-- king's, the second man's
abbrev pub seated : Material → ℕ → ℕ → ℕ → ℕ → ℕ → Position
seated (Material.One kind) side white first black second = lone kind side white first black
seated (Material.Two j k rivals) side white first black second = record {
  side = side;
  white_king = white;
  black_king = black;
  first = Some (piece_of j 0 first);
  second = Some (piece_of k (cond rivals 1 0) second);
}
seated Material.Pawn side white first black second = lone 4 side white first black

-- "bits 0-7 refusal, 8-15 side, 16-23 white king, 24-31 the first man's square, 32-39 black king, 40-47 the second
-- man's"; the ending is the caller's
abbrev pub placed_read : Material → ℕ → Result Position ℕ
placed_read m word =
    unless_refused (Ok (seated m (bits 8 8 word) (bits 16 8 word) (bits 24 8 word) (bits 32 8 word) (bits 40 8 word)))
    Err word

-- "bits 0-7 refusal, 8-15 count"
abbrev pub count_read : ℕ → Result ℕ ℕ
count_read word = unless_refused (Ok (bits 8 8 word)) Err word

-- "bits 0-7 refusal, bit 8 some position is decided, 16-23 greatest depth"
abbrev pub filled_read : ℕ → Result (Option ℕ) ℕ
filled_read word = unless_refused (cond (eqb (bits 8 1 word) 1) (Ok (Some (bits 16 8 word))) (Ok None)) Err word

-- "bits 0-7 refusal, bit 8 wrong, 32-63 the lowest wrong number"
abbrev pub checked_read : ℕ → Result Checked ℕ
checked_read word = unless_refused (cond (eqb (bits 8 1 word) 1) (Ok (Checked.Wrong (bits 32 32 word))) (Ok Checked.Accepted)) Err word

-- "bit 24 a move is given, 32-39 from, 40-47 to, bit 48 it takes, 56-63 what a pawn becomes"
abbrev pub advice_read : ℕ → Option Move
advice_read word =
    cond (eqb (bits 24 1 word) 1)
    (Some (promotion_of (bits 32 8 word) (bits 40 8 word) (eqb (bits 48 1 word) 1) (bits 56 8 word))) None

-- win 1, loss 2, draw 3, with a depth
abbrev pub value_read : ℕ → ℕ → Option Move → Result Answer ℕ
value_read value depth advice = cond (eqb value 1) (Ok (Answer.Win depth advice)) (cond (eqb value 2) (Ok (Answer.Loss depth advice)) (Ok (Answer.Draw advice)))

-- "bits 0-7 refusal, 8-15 value, 16-23 depth", and the move's
abbrev pub answer_read : ℕ → Result Answer ℕ
answer_read word = unless_refused (value_read (bits 8 8 word) (bits 16 8 word) (advice_read word)) Err word

-- "bit 25 within fifty", and the answer's
abbrev pub mark_read : ℕ → Bool
mark_read word = eqb (bits 25 1 word) 1

abbrev pub marked_read : ℕ → Marked
marked_read word = record { answer = answer_read word; within_fifty = mark_read word }

-- ---- the answers that a word has room for: a byte is below 256, and a refusal's number is 1 or more

abbrev pub RefusalFits : ℕ → Type 0
RefusalFits k = (1 ≤ k) × Byte k

abbrev pub NumberFits : Result ℕ ℕ → Type 0
NumberFits (Ok n) = n < 2 ^ 31
NumberFits (Err k) = RefusalFits k

-- every byte of a lent table; of both small ones
abbrev pub TableBytes : List ℕ → Type 0
TableBytes t = (n : ℕ) → Byte (get_or t n 0)

abbrev pub SmallBytes : Lent → Type 0
SmallBytes l = TableBytes l.first × TableBytes l.second

-- a position with the men of the caller's ending
pub record PositionFits (m : Material) (p : Position) : Type 0 where
  pub own : p ≡ seated m p.side p.white_king (man_square p) p.black_king (second_square p)
  pub side : Byte p.side
  pub white : Byte p.white_king
  pub square : Byte (man_square p)
  pub black : Byte p.black_king
  pub second : Byte (second_square p)

abbrev pub PlacedFits : Material → Result Position ℕ → Type 0
PlacedFits m (Ok p) = PositionFits m p
PlacedFits m (Err k) = RefusalFits k

abbrev pub CountFits : Result ℕ ℕ → Type 0
CountFits (Ok n) = Byte n
CountFits (Err k) = RefusalFits k

abbrev pub FilledFits : Result (Option ℕ) ℕ → Type 0
FilledFits (Ok (Some n)) = Byte n
FilledFits (Ok None) = Unit {0}
FilledFits (Err k) = RefusalFits k

abbrev pub CheckedFits : Result Checked ℕ → Type 0
CheckedFits (Ok Checked.Accepted) = Unit {0}
CheckedFits (Ok (Checked.Wrong n)) = n < 2 ^ 32
CheckedFits (Err k) = RefusalFits k

-- a move on two squares; "what a pawn becomes: 0 for nothing, else 1 + the piece's code"
abbrev pub AdviceFits : Option Move → Type 0
AdviceFits (Some m) = Byte m.from × Byte m.to × (m.becomes < 5)
AdviceFits None = Unit {0}

abbrev pub AnswerFits : Result Answer ℕ → Type 0
AnswerFits (Ok (Answer.Win n a)) = Byte n × AdviceFits a
AnswerFits (Ok (Answer.Loss n a)) = Byte n × AdviceFits a
AnswerFits (Ok (Answer.Draw a)) = AdviceFits a
AnswerFits (Err k) = RefusalFits k

abbrev pub MarkedFits : Marked → Type 0
MarkedFits m = AnswerFits m.answer

-- ---- what is promised of a word and its reader
