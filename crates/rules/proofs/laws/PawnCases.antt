-- Cases of the pawn's rules, computed from the definitions.
use Rattle.std.specs.Prelude.{◌≡◌, refl, true, false, ℕ}
use mathlib.Core.List.{List, [], ◌∷◌, flat_map}
use Rattle.finite.specs.Members.{any, all}
use Rattle.finite.specs.Filter.{filter}
use Rattle.finite.specs.Numbers.{numbers}
use Rattle.board.specs.Square.{stays, shift}
use Rattle.board.specs.Reach.{line, reaches}
use Rattle.board.specs.Sets.{squares}
use Rattle.rules.specs.declared.Piece.{Piece}
use Rattle.rules.specs.Pawn.{pawn_hits, pawn_goes}
use Rattle.rules.specs.Rules.{Board, piece_of, occupied, attacks, attacked, in_check, apart, touching, legal_of, legal, legal_with_pawn, stands, goes, goes_to, moved, can_move, taking, promotion_of, move_of, promotes, moves_onto, moves_from, all_moves, played_as, moves, mated, stalemated}

-- "Kc2, pawn a7 against Ka1, White to move, is a win in 1 by a7a8q, though the rook mates too" (02, P12)
abbrev c2a7 : Board
c2a7 = record { side = 0; white = 10; black = 0; men = piece_of 4 0 48 ∷ [] }

pub four-promotions :
    moves_from c2a7 48
    ≡ promotion_of 48 56 false 1 ∷ promotion_of 48 56 false 2 ∷ promotion_of 48 56 false 3 ∷ promotion_of 48 56 false 4 ∷ []
unfolding promotes can_move moved in_check attacked attacks occupied any stands goes goes_to pawn_hits pawn_goes reaches line shift stays numbers filter moves_onto moves_from flat_map squares taking
four-promotions = refl

pub queen-and-rook-mate :
    (mated (played_as c2a7 48 56 1) ≡ true) × (mated (played_as c2a7 48 56 2) ≡ true)
    × (mated (played_as c2a7 48 56 3) ≡ false) × (mated (played_as c2a7 48 56 4) ≡ false)
unfolding promotes can_move mated moved in_check attacked attacks occupied any stands goes goes_to pawn_hits pawn_goes reaches line shift stays numbers filter moves all_moves moves_onto moves_from flat_map squares taking
queen-and-rook-mate = (refl, refl, refl, refl)

-- legal with a pawn, and not without; no pawn stands on rank 8
pub where-a-pawn-stands :
    (legal_with_pawn c2a7 ≡ true) × (legal c2a7 ≡ false)
    × (legal_with_pawn (record { side = 0; white = 10; black = 0; men = piece_of 4 0 56 ∷ [] }) ≡ false)
unfolding legal_of in_check attacked attacks occupied any all apart touching pawn_hits reaches line shift stays numbers
where-a-pawn-stands = (refl, refl, refl)

-- Kf6, pawn f7 against Kh7: f7f8q is stalemate, f7f8r is neither that nor mate
abbrev f6f7 : Board
f6f7 = record { side = 0; white = 45; black = 55; men = piece_of 4 0 53 ∷ [] }

pub queen-stalemates :
    (stalemated (played_as f6f7 53 61 1) ≡ true) × (stalemated (played_as f6f7 53 61 2) ≡ false)
    × (mated (played_as f6f7 53 61 2) ≡ false)
unfolding promotes can_move mated stalemated moved in_check attacked attacks occupied any stands goes goes_to pawn_hits pawn_goes reaches line shift stays numbers filter moves all_moves moves_onto moves_from flat_map squares taking
queen-stalemates = (refl, refl, refl)

-- ---- steps

-- White's king on a1, Black's and White's pawn on these squares
abbrev pawn_against : ℕ → ℕ → Board
pawn_against square black = record { side = 0; white = 0; black = black; men = piece_of 4 0 square ∷ [] }

-- from e2 it makes one step or two; over a king on e3 none, before one on e4 one; from e3 one
pub one-step-or-two :
    (moves_from (pawn_against 12 63) 12 ≡ move_of 12 20 false ∷ move_of 12 28 false ∷ [])
    × (moves_from (pawn_against 12 20) 12 ≡ []) × (moves_from (pawn_against 12 28) 12 ≡ move_of 12 20 false ∷ [])
    × (moves_from (pawn_against 20 63) 20 ≡ move_of 20 28 false ∷ [])
unfolding promotes can_move moved in_check attacked attacks occupied any stands goes goes_to pawn_hits pawn_goes reaches line shift stays numbers filter moves_onto moves_from flat_map squares taking
one-step-or-two = (refl, refl, refl, refl)

-- a pawn on d4 gives check to a king on e5, and to none on d5 before it
pub aslant-only : (in_check (pawn_against 27 36) 1 ≡ true) × (in_check (pawn_against 27 35) 1 ≡ false)
unfolding in_check attacked attacks occupied any pawn_hits reaches line shift stays numbers
aslant-only = (refl, refl)

-- ---- Black's pawn goes down

-- Kings on h1 and h8, Black to move
abbrev black_with : List Piece → Board
black_with men = record { side = 1; white = 7; black = 63; men = men }

-- e7 to e6 or e5; a pawn on d4 takes a rook on e3, goes to d3, and not to an empty c3
pub down :
    (moves_from (black_with (piece_of 4 1 52 ∷ [])) 52 ≡ move_of 52 36 false ∷ move_of 52 44 false ∷ [])
    × (moves_from (black_with (piece_of 4 1 27 ∷ piece_of 1 0 20 ∷ [])) 27 ≡ move_of 27 19 false ∷ move_of 27 20 true ∷ [])
unfolding promotes can_move moved in_check attacked attacks occupied any stands goes goes_to pawn_hits pawn_goes reaches line shift stays numbers filter moves_onto moves_from flat_map squares taking
down = (refl, refl)

-- a pawn on b2 takes a knight on a1 or goes to b1, and becomes a queen, rook, bishop or knight
pub black-promotes :
    moves_from (black_with (piece_of 4 1 9 ∷ piece_of 3 0 0 ∷ [])) 9
    ≡ promotion_of 9 0 true 1 ∷ promotion_of 9 0 true 2 ∷ promotion_of 9 0 true 3 ∷ promotion_of 9 0 true 4
    ∷ promotion_of 9 1 false 1 ∷ promotion_of 9 1 false 2 ∷ promotion_of 9 1 false 3 ∷ promotion_of 9 1 false 4 ∷ []
unfolding promotes can_move moved in_check attacked attacks occupied any stands goes goes_to pawn_hits pawn_goes reaches line shift stays numbers filter moves_onto moves_from flat_map squares taking
black-promotes = refl

-- and the knight it became on a1 is Black's, the other one taken
pub black-knight : (played_as (black_with (piece_of 4 1 9 ∷ piece_of 3 0 0 ∷ [])) 9 0 4).men ≡ piece_of 3 1 0 ∷ []
unfolding moved filter
black-knight = refl
