-- Moves that take no man. Definitions only.
use Rattle.std.specs.Prelude.{Bool, cond, not, ◌&&◌, ◌||◌, ℕ, ◌+◌, ◌*◌, ◌-◌, leb, eqb}
use Rattle.std.specs.Int.Bits.{bit_xor}
use Rattle.rules.specs.Rules.{carried, can_move}
use Rattle.position.specs.declared.Men.{Men}
use Rattle.position.specs.declared.Place.{Place}
use Rattle.position.specs.Posed.{board_in}
use Rattle.index.specs.Seats.{alike}
use Rattle.successors.specs.declared.Frame.{Frame}

-- a man stands on the square
abbrev pub of_man : Place → ℕ → Bool
of_man q s = eqb q.first s || eqb q.second s

-- the legal targets from a square where a man is taken, and those where none is
abbrev pub taking_to : Men → Place → ℕ → ℕ → Bool
taking_to m q from t = can_move (board_in m q) from t && of_man q t

abbrev pub quiet_to : Men → Place → ℕ → ℕ → Bool
quiet_to m q from t = can_move (board_in m q) from t && not (of_man q t)

-- neither the kings nor the men's likeness exchange anything
abbrev pub plain_for : Men → Frame → Bool
plain_for m f = eqb f.exchange 0 && not (alike m)

-- where the bytes of the man on a square begin, and how far apart they lie
abbrev pub base_for : Men → Place → Frame → ℕ → ℕ
base_for m q f from =
    cond (leb 4 m.second) (f.kings * 64)
    (cond (eqb q.first from) (f.kings * 4096 + bit_xor q.second f.flip)
    (f.kings * 4096 + bit_xor q.first f.flip * 64))

abbrev pub scale_for : Men → Place → ℕ → ℕ
scale_for m q from = cond (leb 4 m.second) 1 (cond (eqb q.first from) 64 1)

-- the place after a king's move that takes no man
abbrev pub king_to : Place → ℕ → ℕ → Place
king_to q from to = record {
  side = 1 - q.side;
  white = carried from to q.white;
  black = carried from to q.black;
  first = q.first;
  second = q.second;
}
