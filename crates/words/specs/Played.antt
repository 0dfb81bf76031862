-- The word of a move played, and what a host reads from it (include/sledgewren.h). Definitions only.
use Rattle.std.specs.Prelude.{cond, ℕ, ◌+◌, ◌*◌, ◌^◌, ◌<◌, eqb, Err, None, Ok, Option, Result, Some}
use Rattle.position.specs.declared.Position.{Position}
use Rattle.words.specs.Reading.{bits, unless_refused, Byte, RefusalFits}
use Rattle.given_words.specs.Men.{short_man, short_read, ShortFits}

-- bits 0-7 refusal, bit 8 side, bit 15 the move is not legal, 16-23 white king, 24-31 black king, 32-47 the first man,
-- 48-63 the second; with bare kings both men are absent, and bits 32-63 are 0
abbrev pub played_word : Result (Option Position) ℕ → ℕ
played_word (Ok (Some p)) =
    p.side * 2 ^ 8
    + p.white_king * 2 ^ 16
    + p.black_king * 2 ^ 24
    + short_man p.first * 2 ^ 32
    + short_man p.second * 2 ^ 48
played_word (Ok None) = 2 ^ 15
played_word (Err k) = k

-- the position of such a word
abbrev pub position_after : ℕ → Position
position_after word = record {
  side = bits 8 1 word;
  white_king = bits 16 8 word;
  black_king = bits 24 8 word;
  first = short_read (bits 32 16 word);
  second = short_read (bits 48 16 word);
}

abbrev pub played_read : ℕ → Result (Option Position) ℕ
played_read word =
    cond (eqb (bits 15 1 word) 1) (Ok None)
    (unless_refused (Ok (Some (position_after word))) Err word)

-- the positions that a word has room for
pub record AfterFits (p : Position) : Type 0 where
  pub side : p.side < 2
  pub white : Byte p.white_king
  pub black : Byte p.black_king
  pub first : ShortFits p.first
  pub second : ShortFits p.second

abbrev pub PlayedFits : Result (Option Position) ℕ → Type 0
PlayedFits (Ok (Some p)) = AfterFits p
PlayedFits (Ok None) = Unit {0}
PlayedFits (Err k) = RefusalFits k
