-- A man besides the kings as one word, the position that a host gives with two such words, and a man in 16 bits, as an
-- answer has room for him (include/sledgewren.h). Definitions only.
use Rattle.rules.specs.declared.Piece.{Piece}
use Rattle.std.specs.Prelude.{cond, ℕ, ◌+◌, ◌*◌, ◌%◌, ◌^◌, ◌<◌, eqb, None, Option, Some}
use Rattle.rules.specs.Rules.{piece_of}
use Rattle.position.specs.declared.Position.{Position}
use Rattle.given_words.specs.Bits.{bits, Byte}

-- 0 for an absent man; else bits 0-7 kind, 8-15 colour, 16-23 square, and bit 24
abbrev pub man_word : Option Piece → ℕ
man_word None = 0
man_word (Some m) = m.kind + m.colour * 2 ^ 8 + m.square * 2 ^ 16 + 2 ^ 24

-- "absent where bits 24-31 are 0": every word is a man or none
abbrev pub man_read : ℕ → Option Piece
man_read word = cond (eqb (bits 24 8 word) 0) None (Some (piece_of (bits 0 8 word) (bits 8 8 word) (bits 16 8 word)))

-- the side to move, the kings' squares, and two men
abbrev pub position_read : ℕ → ℕ → ℕ → ℕ → ℕ → Position
position_read side white black first second = record { side = side; white_king = white; black_king = black; first = man_read first; second = man_read second }

-- the men that a word has room for
abbrev pub ManFits : Option Piece → Type 0
ManFits None = Unit {0}
ManFits (Some m) = Byte m.kind × Byte m.colour × Byte m.square

-- ---- in 16 bits

-- 0 for an absent man; else bits 0-3 kind, bit 4 colour, bit 5, and 8-15 square
abbrev pub short_man : Option Piece → ℕ
short_man None = 0
short_man (Some m) = m.kind % 2 ^ 4 + m.colour % 2 * 2 ^ 4 + 2 ^ 5 + m.square * 2 ^ 8

-- "absent where bit 5 is 0"
abbrev pub short_read : ℕ → Option Piece
short_read word = cond (eqb (bits 5 1 word) 0) None (Some (piece_of (bits 0 4 word) (bits 4 1 word) (bits 8 8 word)))

-- the men that 16 bits have room for: a kind below 16, White's or Black's
abbrev pub ShortFits : Option Piece → Type 0
ShortFits None = Unit {0}
ShortFits (Some m) = (m.kind < 2 ^ 4) × (m.colour < 2) × Byte m.square
