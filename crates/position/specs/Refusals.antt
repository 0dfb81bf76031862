-- The refusals of a position as keyed (01, "When the desk says no"), each by itself, and their chains. Definitions
-- only.
use Rattle.std.specs.Prelude.{Bool, true, false, cond, not, ◌&&◌, ◌||◌, ℕ, ◌-◌, leb, ltb, eqb, None, Option, Some}
use Rattle.finite.specs.Truth.{implies}
use Rattle.finite.specs.Members.{all}
use Rattle.rules.specs.declared.Piece.{Piece}
use Rattle.rules.specs.Pawn.{pawn, inner, outer}
use Rattle.rules.specs.Rules.{pieces, apart, touching, in_check}
use Rattle.position.specs.declared.Position.{Position}
use Rattle.position.specs.Keyed.{board_of}

-- 1: "material code above 3"; "no man at all, or an absent one before a present one"; "Two men .. until they have a
-- table" (02, P9)
abbrev pub bad_men : Option Piece → Option Piece → Bool
bad_men None second = true
bad_men (Some m) (Some n) = true
bad_men (Some m) None = leb 4 m.kind

abbrev pub bad_man : Position → Bool
bad_man p = bad_men p.first p.second

-- 2: "side not 0 or 1"; "a colour not 0 or 1" (P9)
unfoldable pub bad_side : Position → Bool
bad_side p = leb 2 p.side || not (all (λ m. ltb m.colour 2) (board_of p).men)

-- 3: "a square above 63"
unfoldable pub bad_square : Position → Bool
bad_square p = not (all (λ m. ltb m.square 64) (pieces (board_of p)))

-- 18: "a pawn on rank 1 or 8, after 3 and before 4" (02, P12)
abbrev pub ranked : Piece → Bool
ranked m = implies (pawn m) (inner m.square)

unfoldable pub bad_pawn : Position → Bool
bad_pawn p = not (all ranked (board_of p).men)

-- 4: "two men on one square"
unfoldable pub shared_square : Position → Bool
shared_square p = not (apart (pieces (board_of p)))

-- 5: "kings touch"
abbrev pub kings_touch : Position → Bool
kings_touch p = touching (board_of p)

-- 6: "side not to move is in check"
abbrev pub other_in_check : Position → Bool
other_in_check p = in_check (board_of p) (1 - p.side)

-- 2 to 5 and 18, whatever the men: the first that applies, 0 where none does
abbrev pub later_refusal : Position → ℕ
later_refusal p =
    cond (bad_side p) 2
    (cond (bad_square p) 3 (cond (bad_pawn p) 18 (cond (shared_square p) 4 (cond (kings_touch p) 5 0))))

-- 1 to 5, which numbering asks: the lowest that applies, 0 where none does; a pawn is refused 1
unfoldable pub placing_refusal : Position → ℕ
placing_refusal p = cond (bad_man p) 1 (later_refusal p)

-- such a refusal, or else 6
abbrev pub or_in_check : Position → ℕ → ℕ
or_in_check p refusal = cond (eqb refusal 0) (cond (other_in_check p) 6 0) refusal

-- 1 to 6, which the move list and look-up ask
unfoldable pub standing_refusal : Position → ℕ
standing_refusal p = or_in_check p (placing_refusal p)

-- ---- slot by slot, as code asks them

-- a man of neither side
abbrev pub slot_foreign : Option Piece → Bool
slot_foreign None = false
slot_foreign (Some m) = leb 2 m.colour

-- a man off the board
abbrev pub slot_off : Option Piece → Bool
slot_off None = false
slot_off (Some m) = leb 64 m.square

-- a pawn on rank 1 or 8
abbrev pub slot_astray : Option Piece → Bool
slot_astray None = false
slot_astray (Some m) = pawn m && outer m.square

-- a man on s
abbrev pub slot_on : ℕ → Option Piece → Bool
slot_on s None = false
slot_on s (Some m) = eqb s m.square

-- two men on one square
abbrev pub slots_share : Option Piece → Option Piece → Bool
slots_share None k = false
slots_share (Some m) k = slot_on m.square k

-- a man whom one of 2 to 4 or 18 refuses, were he the only one
abbrev pub slot_misplaced : ℕ → ℕ → Option Piece → Bool
slot_misplaced white black None = false
slot_misplaced white black (Some m) =
    leb 2 m.colour
    || (leb 64 m.square
    || ((pawn m && outer m.square) || (eqb white m.square || eqb black m.square)))

-- ---- of one man or of two (02, P10): as of one man, but that two men have a table, and so has a lone pawn (P12)

-- 1: no man at all, an absent one before a present one, a kind above 4, or a pawn beside another man
abbrev pub bad_men_of : Option Piece → Option Piece → Bool
bad_men_of None second = true
bad_men_of (Some m) None = leb 5 m.kind
bad_men_of (Some m) (Some n) = leb 4 m.kind || leb 4 n.kind

-- 1 to 5 and 18: the first that applies, 0 where none does
unfoldable pub placing_with : Position → ℕ
placing_with p = cond (bad_men_of p.first p.second) 1 (later_refusal p)

-- 1 to 6 and 18
unfoldable pub standing_with : Position → ℕ
standing_with p = or_in_check p (placing_with p)
