-- The key of a board with any list of men, and the board of a key (01, "The number of a position"). Definitions only.
use Rattle.std.specs.Prelude.{List, [], ◌∷◌, map, ℕ, ◌+◌, ◌*◌, ◌/◌, ◌%◌}
use Rattle.rules.specs.declared.Piece.{Piece}
use Rattle.rules.specs.Rules.{Board, piece_of}
use Rattle.numbering.specs.Kings.{pair_of, kings_of}

-- the men's squares as further digits of base 64
unfoldable pub key_from : ℕ → List Piece → ℕ
key_from n [] = n
key_from n (m ∷ ms) = key_from (n * 64 + m.square) ms

-- "Number = (side x 462 + pair) x 64 + man's square": of a board as it stands
unfoldable pub key_of : Board → ℕ
key_of b = key_from (b.side * 462 + pair_of b.white b.black) b.men

-- a man, whatever his square
abbrev pub unplaced : Piece → Piece
unplaced m = piece_of m.kind m.colour 0

-- the ending of a board: its men, whatever their squares
unfoldable pub ending_of : Board → List Piece
ending_of b = map unplaced b.men

-- how many numbers belong to one pair of kings and one side to move: 64 for each man
unfoldable pub spread : List Piece → ℕ
spread [] = 1
spread (m ∷ ms) = 64 * spread ms

-- a number without its last digits, one for each man
unfoldable pub leading : List Piece → ℕ → ℕ
leading [] n = n
leading (m ∷ ms) n = leading ms n / 64

unfoldable pub men_at : List Piece → ℕ → List Piece
men_at [] n = []
men_at (m ∷ ms) n = piece_of m.kind m.colour (leading ms n % 64) ∷ men_at ms n

-- the board with this key
unfoldable pub board_at : List Piece → ℕ → Board
board_at ending n =
    let kings = kings_of (leading ending n % 462) in
    record { side = leading ending n / 462; white = kings / 64; black = kings % 64; men = men_at ending n }
