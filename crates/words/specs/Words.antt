-- The word of each answer (include/sledgewren.h): which bits hold its refusal and its values. Definitions only.
use Rattle.rules.specs.declared.Move.{Move}
use Rattle.std.specs.Prelude.{ℕ, ◌+◌, ◌*◌, ◌^◌, Err, None, Ok, Option, Result, Some}
use Rattle.answers.specs.declared.Answer.{Answer}
use Rattle.answers.specs.declared.Checked.{Checked}
use Rattle.fifty.specs.Marks.{Marked}
use Rattle.position.specs.declared.Position.{Position}
use Rattle.position.specs.Keyed.{man_in, man_square}
pub use Rattle.move_bytes.specs.MoveBytes.{flag_of}

-- the number; or bit 31 and the refusal
abbrev pub number_word : Result ℕ ℕ → ℕ
number_word (Ok n) = n
number_word (Err k) = 2 ^ 31 + k

-- the second man's square, 64 where there is none
abbrev pub second_square : Position → ℕ
second_square p = (man_in p.second).square

-- bits 0-7 refusal, 8-15 side, 16-23 white king, 24-31 the first man's square, 32-39 black king, 40-47 the second
-- man's square
abbrev pub placed_word : Result Position ℕ → ℕ
placed_word (Ok p) = p.side * 2 ^ 8 + p.white_king * 2 ^ 16 + man_square p * 2 ^ 24 + p.black_king * 2 ^ 32 + second_square p * 2 ^ 40
placed_word (Err k) = k

-- bits 0-7 refusal, 8-15 count
abbrev pub count_word : Result ℕ ℕ → ℕ
count_word (Ok n) = n * 2 ^ 8
count_word (Err k) = k

-- bits 0-7 refusal, bit 8 some position is decided, 16-23 greatest depth
abbrev pub filled_word : Result (Option ℕ) ℕ → ℕ
filled_word (Ok (Some n)) = 2 ^ 8 + n * 2 ^ 16
filled_word (Ok None) = 0
filled_word (Err k) = k

-- bits 0-7 refusal, bit 8 wrong, 32-63 the lowest wrong number
abbrev pub checked_word : Result Checked ℕ → ℕ
checked_word (Ok Checked.Accepted) = 0
checked_word (Ok (Checked.Wrong n)) = 2 ^ 8 + n * 2 ^ 32
checked_word (Err k) = k

-- bit 24 a move is given, 32-39 from, 40-47 to, bit 48 it takes, 56-63 what a pawn becomes
abbrev pub advice_word : Option Move → ℕ
advice_word (Some m) = 2 ^ 24 + m.from * 2 ^ 32 + m.to * 2 ^ 40 + flag_of m.takes * 2 ^ 48 + m.becomes * 2 ^ 56
advice_word None = 0

-- bits 0-7 refusal, 8-15 value (win 1, loss 2, draw 3), 16-23 depth, and the move's
abbrev pub answer_word : Result Answer ℕ → ℕ
answer_word (Ok (Answer.Win n a)) = 1 * 2 ^ 8 + n * 2 ^ 16 + advice_word a
answer_word (Ok (Answer.Loss n a)) = 2 * 2 ^ 8 + n * 2 ^ 16 + advice_word a
answer_word (Ok (Answer.Draw a)) = 3 * 2 ^ 8 + advice_word a
answer_word (Err k) = k

-- look-up's at a count: the answer's, and bit 25 where it is marked "within fifty"
abbrev pub marked_word : Marked → ℕ
marked_word m = answer_word m.answer + flag_of m.within_fifty * 2 ^ 25
