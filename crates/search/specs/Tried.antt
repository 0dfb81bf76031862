-- What the search goes through: the squares where moves start, the moves left to try, what they are tried for, and aim at a king.
-- Definitions only.
use Rattle.std.specs.Prelude.{Bool, cond, not, ◌&&◌, ℕ, ◌-◌, T, eqb}
use mathlib.Core.List.{List, ◌++◌, flat_map}
use Rattle.finite.specs.Members.{all}
use Rattle.theory.specs.Value.{won, lost}
use Rattle.board.specs.Reach.{reaches}
use Rattle.board.specs.Sets.{has, members, set_of}
use Rattle.rules.specs.declared.Piece.{Piece}
use Rattle.rules.specs.declared.Move.{Move}
use Rattle.rules.specs.Pawn.{pawn}
use Rattle.rules.specs.Rules.{Board, empty, in_check, stands, moved, moves_onto, moves_from, can_move}
use Rattle.rules.specs.Chess.{chess, played}
use Rattle.position.specs.declared.Position.{Position}
use Rattle.position.specs.Keyed.{board_of}

-- no man is a pawn: a move is its two squares, and a piece attacks where it goes (02, P12: "except in the parts of .. P7")
abbrev pub Pawnless : Board → Type 0
Pawnless b = T (all (λ a. not (pawn a)) b.men)

-- the squares of the pieces of the side to move; with bare kings the game is over (01, "Games")
unfoldable pub movers_of : Board → ℕ
movers_of b = cond (empty b.men) 0 (set_of (stands b b.side))

-- the moves that start on the squares of a set
unfoldable pub moves_on : Board → ℕ → List Move
moves_on b rest = flat_map (moves_from b) (members rest)

-- the moves from a square to those targets that are left, and then those of the movers that are left
unfoldable pub moves_left : Board → ℕ → ℕ → ℕ → List Move
moves_left b from targets rest = moves_onto b from (members targets) ++ moves_on b rest

-- a move leaves the other side lost, or won, within k - 1
abbrev pub losing : ℕ → Board → Move → Bool
losing k b m = lost chess (k - 1) (played b m)

abbrev pub winning : ℕ → Board → Move → Bool
winning k b m = won chess (k - 1) (played b m)

-- the piece stands on `from`, and from t it would attack `at`: a line leads back the way it came
abbrev pub aims : (ℕ → Bool) → ℕ → ℕ → ℕ → Piece → Bool
aims occ from at t m = eqb m.square from && reaches occ m.kind at t

-- the set holds each target of a legal move from a square that gives check
abbrev pub HoldsChecks : Position → ℕ → ℕ → Type 0
HoldsChecks s from set = (t : ℕ) → T (can_move (board_of s) from t) → T (in_check (moved (board_of s) from t) (1 - s.side)) → T (has set t)
