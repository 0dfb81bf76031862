-- King and pawn on a place, the byte of what a move leaves, and a byte weighed against those of the successors.
-- Definitions only.
use Rattle.std.specs.Prelude.{◌≡◌, Bool, cond, not, ◌&&◌, List, [], ◌∷◌, ℕ, ◌-◌, ◌*◌, ◌<◌, T, get_or, take, drop}
use Rattle.std.proofs.Math.Option.{Option, none, some}
use Rattle.finite.specs.Members.{any, first}
use Rattle.theory.specs.Play.{suits}
use Rattle.theory.specs.Judge.{refutes}
use Rattle.rules.specs.declared.Piece.{Piece}
use Rattle.rules.specs.declared.Move.{Move}
use Rattle.rules.specs.Pawn.{pawn, inner}
use Rattle.rules.specs.Rules.{Board, in_check, all_moves}
use Rattle.rules.specs.Chess.{played}
use Rattle.pawn_numbers.specs.PawnNumber.{pawn_number, pawn_board, separated}
use Rattle.pawn_numbers.specs.Places.{pawn_in}
use Rattle.numbering.specs.Number.{number_of}
use Rattle.numbering.specs.Material.{small_size}
use Rattle.position.specs.declared.Place.{Place}
use Rattle.pawn_moves.specs.declared.Weighed.{Weighed}

-- the board of a place whose first man is a white pawn
abbrev pub pawn_at : Place → Board
pawn_at q = pawn_in 0 q.side q.white q.black q.first

-- kings and pawn are on the board, the pawn on ranks 2 to 7, no two on one square, and the kings do not touch
pub record PawnOn (q : Place) : Type 0 where
  pub side : q.side < 2
  pub white : q.white < 64
  pub black : q.black < 64
  pub inner : T (inner q.first)
  pub separated : T (separated (pawn_at q))

-- ---- numbers

-- the place of a number
pub record SeatAt (n : ℕ) (q : Place) : Type 0 where
  pub board : pawn_at q ≡ pawn_board n
  pub second : q.second ≡ 64

-- no two on one square, the kings do not touch, and the side not to move is not in check
unfoldable pub seat_legal : Place → Bool
seat_legal q = separated (pawn_at q) && not (in_check (pawn_at q) (1 - q.side))

-- ---- bytes

-- the table of a kind, among four that follow one another
unfoldable pub kind_part : ℕ → List ℕ → List ℕ
kind_part kind run = take small_size (drop (kind * small_size) run)

-- the byte of a board with these men: of bare kings 1, of a pawn in its table, of a piece in the part of its kind
abbrev pub bytes_by : List ℕ → List ℕ → Board → List Piece → ℕ
bytes_by run table b [] = 1
bytes_by run table b (a ∷ l) =
    cond (pawn a) (get_or table (pawn_number b) 0) (get_or (kind_part a.kind run) (number_of b) 0)

unfoldable pub pawn_bytes : List ℕ → List ℕ → Board → ℕ
pawn_bytes run table b = bytes_by run table b b.men

-- ---- a byte weighed

-- the first of two that is there
abbrev pub or_else : Option Move → Option Move → Option Move
or_else none o = o
or_else (some v) o = some v

abbrev pub met_by : Option Move → Weighed
met_by none = Weighed.Unmet
met_by (some v) = Weighed.Met v

-- a byte c against the bytes after the moves of a list, one being found before or not
unfoldable pub weighed_on : (Move → ℕ) → ℕ → List Move → Option Move → Weighed
weighed_on after c l found =
    cond (any (λ v. refutes c (after v)) l) Weighed.Refuted (met_by (or_else found (first (λ v. suits c (after v)) l)))

abbrev pub weighed : (Board → ℕ) → ℕ → Board → Weighed
weighed byte c b = weighed_on (λ v. byte (played b v)) c (all_moves b) none
