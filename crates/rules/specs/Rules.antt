-- The rules of chess (FIDE Laws, articles 1 to 3) over a board with any list of pieces besides the kings; no castling, taking in passing or claims.
-- Sides and colours: White 0, Black 1. Kinds: queen 0, rook 1, bishop 2, knight 3, pawn 4, king 5. Total: any numbers have a meaning.
-- Definitions only.
use Rattle.std.specs.Prelude.{Bool, true, false, cond, not, ◌&&◌, ◌||◌, ℕ, zero, suc, ◌-◌, eqb, ltb}
use mathlib.Core.List.{List, [], ◌∷◌, map, flat_map}
use Rattle.finite.specs.Members.{any, all}
use Rattle.finite.specs.Filter.{filter}
use Rattle.board.specs.Reach.{reaches}
use Rattle.board.specs.Sets.{squares}
use Rattle.rules.specs.declared.Piece.{Piece}
use Rattle.rules.specs.declared.Move.{Move}
use Rattle.rules.specs.Pawn.{pawn, pawn_hits, pawn_goes, inner, outer}

-- the side to move, the kings' squares, and the other pieces (01: the men)
pub record Board : Type 0 where
  pub side : ℕ
  pub white : ℕ
  pub black : ℕ
  pub men : List Piece

abbrev pub piece_of : ℕ → ℕ → ℕ → Piece
piece_of kind colour square = record { kind = kind; colour = colour; square = square }

-- there are none
abbrev pub empty {ℓ} : {A : Type ℓ} → List A → Bool
empty [] = true
empty (x ∷ xs) = false

-- all pieces, the kings first
abbrev pub pieces : Board → List Piece
pieces b = piece_of 5 0 b.white ∷ piece_of 5 1 b.black ∷ b.men

unfoldable pub occupied : Board → ℕ → Bool
occupied b s = any (λ m. eqb s m.square) (pieces b)

-- ---- attack and check

-- the piece attacks t, over the occupied squares
unfoldable pub attacks : (ℕ → Bool) → Piece → ℕ → Bool
attacks occ m t = cond (pawn m) (pawn_hits occ m.colour m.square t) (reaches occ m.kind m.square t)

-- a piece of this colour attacks t
unfoldable pub attacked : Board → ℕ → ℕ → Bool
attacked b colour t = any (λ m. eqb m.colour colour && attacks (occupied b) m t) (pieces b)

-- the square of this side's king
abbrev pub king : Board → ℕ → ℕ
king b side = cond (eqb side 0) b.white b.black

-- this side is in check
unfoldable pub in_check : Board → ℕ → Bool
in_check b side = attacked b (1 - side) (king b side)

-- ---- legal boards (01: "Legal: three different squares, kings not touching, side not to move not in check")

-- a queen, rook, bishop or knight of White's or Black's
abbrev pub known : Piece → Bool
known m = ltb m.kind 4 && ltb m.colour 2

-- or a pawn of theirs, on ranks 2 to 7 (02, P12)
abbrev pub known_or_pawn : Piece → Bool
known_or_pawn m = known m || (pawn m && ltb m.colour 2 && inner m.square)

-- no two on one square
unfoldable pub apart : List Piece → Bool
apart [] = true
apart (m ∷ ms) = not (any (λ x. eqb m.square x.square) ms) && apart ms

-- the kings touch
unfoldable pub touching : Board → Bool
touching b = reaches (λ s. false) 5 b.white b.black

-- legal, where the rules admit these men
unfoldable pub legal_of : (Piece → Bool) → Board → Bool
legal_of admits b =
    ltb b.side 2
    && all admits b.men
    && all (λ m. ltb m.square 64) (pieces b)
    && apart (pieces b)
    && not (touching b)
    && not (in_check b (1 - b.side))

-- without a pawn
abbrev pub legal : Board → Bool
legal = legal_of known

abbrev pub legal_with_pawn : Board → Bool
legal_with_pawn = legal_of known_or_pawn

-- ---- moves

-- a piece of this colour stands on s
unfoldable pub stands : Board → ℕ → ℕ → Bool
stands b colour s = any (λ m. eqb m.colour colour && eqb m.square s) (pieces b)

-- the piece may go to t, unless a piece of its own side stands there; all but the pawn, where it attacks
unfoldable pub goes_to : (ℕ → Bool) → Piece → ℕ → Bool
goes_to occ m t = cond (pawn m) (pawn_goes occ m.colour m.square t) (reaches occ m.kind m.square t)

-- a piece of the side to move stands on `from` and may go to `to`
unfoldable pub goes : Board → ℕ → ℕ → Bool
goes b from to = any (λ m. eqb m.colour b.side && eqb m.square from && goes_to (occupied b) m to) (pieces b)

-- where a piece on s stands after a move
abbrev pub carried : ℕ → ℕ → ℕ → ℕ
carried from to s = cond (eqb s from) to s

abbrev pub carried_piece : ℕ → ℕ → Piece → Piece
carried_piece from to m = piece_of m.kind m.colour (carried from to m.square)

-- the pieces that a move to this square leaves on the board
abbrev pub left : ℕ → List Piece → List Piece
left to = filter (λ m. not (eqb m.square to))

-- the board after a move (01, "Games"): the piece set on its target, one that stood there taken off, the other side to move
unfoldable pub moved : Board → ℕ → ℕ → Board
moved b from to = record {
  side = 1 - b.side;
  white = carried from to b.white;
  black = carried from to b.black;
  men = map (carried_piece from to) (left to b.men);
}

-- a move is legal: the piece may go to its target, none of its own side stands there, and its king is not in check afterwards
unfoldable pub can_move : Board → ℕ → ℕ → Bool
can_move b from to = goes b from to && not (stands b b.side to) && not (in_check (moved b from to) b.side)

-- the maker of moves: the squares, whether a piece is taken, and what a pawn becomes: 0 nothing, or 1 and the kind
abbrev pub promotion_of : ℕ → ℕ → Bool → ℕ → Move
promotion_of from to takes becomes = record { from = from; to = to; takes = takes; becomes = becomes }

-- a move that promotes nothing
abbrev pub move_of : ℕ → ℕ → Bool → Move
move_of from to takes = promotion_of from to takes 0

-- what an unused place of a list holds: a plain move from 0 to 0
abbrev pub zero_move : Move
zero_move = move_of 0 0 false

-- "when a man is taken" (02, P6): a move to this square takes exactly when a piece of the other side stands there
unfoldable pub taking : Board → ℕ → Bool
taking b to = stands b (1 - b.side) to

-- the move of a board from a square to a target, which says whether it takes
abbrev pub move_on : Board → ℕ → ℕ → Move
move_on b from to = move_of from to (taking b to)

-- a pawn stands on `from`, and a rank 1 or 8 is its target
unfoldable pub promotes : Board → ℕ → ℕ → Bool
promotes b from to = any (λ m. pawn m && eqb m.square from) b.men && outer to

-- "each promotion a move of its own that names the piece" (02, P12): Q, R, B, N in this order
abbrev pub promotions : Board → ℕ → ℕ → List Move
promotions b from to = map (promotion_of from to (taking b to)) (1 ∷ 2 ∷ 3 ∷ 4 ∷ [])

-- the moves from a square to a target: one, or a pawn's four promotions
abbrev pub moves_to : Board → ℕ → ℕ → List Move
moves_to b from to = cond (promotes b from to) (promotions b from to) (move_on b from to ∷ [])

-- the moves from a square to each of some targets
unfoldable pub moves_onto : Board → ℕ → List ℕ → List Move
moves_onto b from targets = flat_map (moves_to b from) targets

-- the legal moves from a square, by target
unfoldable pub moves_from : Board → ℕ → List Move
moves_from b from = moves_onto b from (filter (can_move b from) squares)

-- "Moves are listed by from-square, then to-square" (01); a pawn's promotions then by piece
unfoldable pub all_moves : Board → List Move
all_moves b = flat_map (moves_from b) squares

-- the man of this side on this square becomes a piece of this kind
abbrev pub becoming : ℕ → ℕ → ℕ → Piece → Piece
becoming side to kind m = piece_of (cond (eqb m.colour side && eqb m.square to) kind m.kind) m.colour m.square

abbrev pub promoted : ℕ → ℕ → ℕ → Board → Board
promoted side to kind b = record {
  side = b.side;
  white = b.white;
  black = b.black;
  men = map (becoming side to kind) b.men;
}

-- the board after a move that promotes nothing, or names what its pawn becomes
abbrev pub played_as : Board → ℕ → ℕ → ℕ → Board
played_as b from to zero = moved b from to
played_as b from to (suc kind) = promoted b.side to kind (moved b from to)

-- the legal moves; with bare kings the game is over (01, "Games")
unfoldable pub moves : Board → List Move
moves b = cond (empty b.men) [] (all_moves b)

unfoldable pub mated : Board → Bool
mated b = in_check b b.side && empty (moves b)

unfoldable pub stalemated : Board → Bool
stalemated b = not (in_check b b.side) && not (empty b.men) && empty (moves b)
