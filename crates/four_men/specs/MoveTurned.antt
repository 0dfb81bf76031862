-- What a turn makes of a position's answer, with one man or two: one of the eight maps, the men in each other's slots,
-- the colours exchanged where that is allowed, each or not (02, P5, P9 and P10). Definitions only.
use Rattle.rules.specs.declared.Piece.{Piece}
use Rattle.std.specs.Prelude.{◌≡◌, Bool, true, false, ◌&&◌, List, ℕ, T, None, Option, Some}
use Rattle.numbering.specs.Men.{exchangeable}
use Rattle.numbering.specs.Change.{Change}
use Rattle.numbering.specs.Fits.{two_fit, mirror}
use Rattle.position.specs.declared.Position.{Position}
use Rattle.position.specs.Keyed.{board_of}
use Rattle.position.specs.Maps.{changed_position}
use Rattle.endings.specs.Answers.{mapped_answer}
use Rattle.four_men.specs.Lending.{Lent}
use Rattle.four_men.specs.Answers.{look_up_with}

-- two men in each other's slots; where there are not two, as it is
abbrev pub first_slot : Bool → Option Piece → Option Piece → Option Piece
first_slot false f s = f
first_slot true None s = None
first_slot true (Some a) None = Some a
first_slot true (Some a) (Some c) = Some c

abbrev pub second_slot : Bool → Option Piece → Option Piece → Option Piece
second_slot false f s = s
second_slot true None s = s
second_slot true (Some a) None = None
second_slot true (Some a) (Some c) = Some a

unfoldable pub in_slots : Bool → Position → Position
in_slots e p = record {
  side = p.side;
  white_king = p.white_king;
  black_king = p.black_king;
  first = first_slot e p.first p.second;
  second = second_slot e p.first p.second;
}

-- the position turned: "With like kinds one each .. P9's exchange, for numbers and for demand 2's sameness, is left
-- out"
unfoldable pub turned_position : Change → Position → Position
turned_position s p =
    changed_position s.symmetry (s.colours && exchangeable (board_of p).men) (in_slots s.order p)

-- "Turning a position then turns its move, but for that mirror pair."
pub record MoveTurnedWith (l : Lent) (t : List ℕ) (s : Change) (p : Position) : Type 0 where
  -- unless two maps fit and the turn exchanges file and rank: the same answer, its move turned
  pub plain : (T (two_fit (board_of p)) → s.symmetry.swap ≡ false)
      → look_up_with l t (turned_position s p) ≡ mapped_answer s.symmetry (look_up_with l t p)
  -- and there: the same answer, its move's mirror image turned
  pub mirrored : T (two_fit (board_of p)) → s.symmetry.swap ≡ true
      → look_up_with l t (turned_position s p)
      ≡ mapped_answer s.symmetry (mapped_answer (mirror (board_of p)) (look_up_with l t p))
