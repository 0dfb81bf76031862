-- Cases of the numbers of boards with a pawn, computed from the definitions.
use Rattle.std.specs.Prelude.{◌≡◌, refl, true, false, [], ◌∷◌}
use Rattle.finite.specs.Members.{any}
use Rattle.finite.specs.Numbers.{numbers}
use Rattle.board.specs.Square.{stays, shift}
use Rattle.board.specs.Reach.{line, reaches}
use Rattle.symmetry.specs.Symmetry.{mapped}
use Rattle.rules.specs.Rules.{Board, piece_of, apart, touching}
use Rattle.rules.specs.Changed.{other, swapped, changed}
use Rattle.pawn_numbers.specs.PawnNumber.{flipped, pawn_key, pawn_number, pawn_board, separated, used_pawn}

-- Kc2, pawn a7 against Ka1, White to move (02, P12): (0 x 24 + 20) x 4,096 + 10 x 64 + 0
abbrev c2a7 : Board
c2a7 = record { side = 0; white = 10; black = 0; men = piece_of 4 0 48 ∷ [] }

-- reversed left to right: Kf2, pawn h7 against Kh1
abbrev f2h7 : Board
f2h7 = record { side = 0; white = 13; black = 7; men = piece_of 4 0 55 ∷ [] }

-- colours exchanged and ranks turned round: Kc7, pawn a2 against Ka8, Black to move, the pawn Black's
abbrev c7a2 : Board
c7a2 = record { side = 1; white = 56; black = 50; men = piece_of 4 1 8 ∷ [] }

pub one_class : (pawn_number c2a7 ≡ 82560) × (pawn_number f2h7 ≡ 82560) × (pawn_number c7a2 ≡ 82560)
unfolding pawn_number pawn_key flipped changed swapped other mapped
one_class = (refl, refl, refl)

pub back-again : pawn_board 82560 ≡ c2a7
unfolding pawn_board
back-again = refl

-- the last number: Black to move, both kings on h8, pawn d7; it is not used
pub last_one :
    (pawn_board 196607 ≡ record { side = 1; white = 63; black = 63; men = piece_of 4 0 51 ∷ [] })
    × (used_pawn 196607 ≡ false) × (used_pawn 82560 ≡ true)
unfolding pawn_board used_pawn separated apart any touching reaches line shift stays numbers
last_one = (refl, refl, refl)
