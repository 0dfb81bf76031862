-- A move played on a position as keyed: what is answered, and what is promised of it. Definitions only.
use Rattle.rules.specs.declared.Piece.{Piece}
use Rattle.std.specs.Prelude.{◌≡◌, Bool, cond, ◌&&◌, ℕ, zero, suc, T, eqb, ltb, None, Option, Some, Err, Ok, Result}
use Rattle.finite.specs.Members.{◌∈◌}
use Rattle.rules.specs.Rules.{Board, can_move, taking, promotion_of, promotes, becoming, played_as, moves}
use Rattle.numbering.specs.Material.{material_in, legal_in}
use Rattle.position.specs.declared.Position.{Position}
use Rattle.position.specs.Keyed.{board_of}
use Rattle.position.specs.Refusals.{standing_with}
use Rattle.movegen.specs.After.{after}

-- "a man left alone counts as the first" (02, P10): he stands in the first slot, and the second is empty
abbrev pub first_of : Option Piece → Option Piece → Option Piece
first_of None second = second
first_of (Some m) second = Some m

abbrev pub second_of : Option Piece → Option Piece → Option Piece
second_of None second = None
second_of (Some m) second = second

unfoldable pub closed_up : Position → Position
closed_up p = record {
  side = p.side;
  white_king = p.white_king;
  black_king = p.black_king;
  first = first_of p.first p.second;
  second = second_of p.first p.second;
}

-- "each promotion a move of its own that names the piece" (02, P12): 1 and the kind there, 0 for any other move
abbrev pub named : Bool → ℕ → Bool
named promoting becomes = cond promoting (ltb 0 becomes && ltb becomes 5) (eqb becomes 0)

abbrev pub slot_becoming : ℕ → ℕ → ℕ → Option Piece → Option Piece
slot_becoming side to kind None = None
slot_becoming side to kind (Some m) = Some (becoming side to kind m)

-- the man of this side on this square becomes a piece of this kind
unfoldable pub promoted_to : ℕ → ℕ → ℕ → Position → Position
promoted_to side to kind p = record {
  side = p.side;
  white_king = p.white_king;
  black_king = p.black_king;
  first = slot_becoming side to kind p.first;
  second = slot_becoming side to kind p.second;
}

-- the position after a move that promotes nothing, or names what its pawn becomes
abbrev pub after_as : Position → ℕ → ℕ → ℕ → Position
after_as p from to zero = after p from to
after_as p from to (suc kind) = promoted_to p.side to kind (after p from to)

-- the move is in the list
abbrev pub can_play : Board → ℕ → ℕ → ℕ → Bool
can_play b from to becomes = can_move b from to && named (promotes b from to) becomes

-- "A move sets the moving man on its target, takes a man that stood there off the board and gives the other side the
-- move" (01, "Games"), where the position is not refused and the move is legal in it
unfoldable pub play_of : Position → ℕ → ℕ → ℕ → Result (Option Position) ℕ
play_of p from to becomes =
    cond (eqb (standing_with p) 0)
    (cond (can_play (board_of p) from to becomes) (Ok (Some (closed_up (after_as p from to becomes)))) (Ok None))
    (Err (standing_with p))

-- what is promised where the position q is given
pub record Plays (p : Position) (from to becomes : ℕ) (q : Position) : Type 0 where
  pub stood : standing_with p ≡ 0
  -- the move is in the list
  pub listed : promotion_of from to (taking (board_of p) to) becomes ∈ moves (board_of p)
  -- its board is the one that the rules leave, which is legal, bare kings too
  pub board : board_of q ≡ played_as (board_of p) from to becomes
  pub legal-after : T (legal_in (material_in (board_of p).men) (board_of q))
