-- Rows of 64 numbers, in which only the last man's square differs. Definitions only.
use Rattle.std.specs.Prelude.{◌≡◌, false, cond, ◌||◌, List, ℕ, ◌+◌, ◌*◌, ◌/◌, ◌<◌, leb, eqb}
use Rattle.board.specs.Sets.{has}
use Rattle.rules.specs.Rules.{in_check}
use Rattle.position.specs.declared.Men.{Men}
use Rattle.position.specs.declared.Place.{Place}
use Rattle.position.specs.Posed.{board_in, material_for, Complete}
use Rattle.index.specs.Least.{exchange_of}
use Rattle.index.specs.Seats.{StandsAt, alike}
use Rattle.four_men.specs.Reading.{legal_number_of}
use Rattle.deciding.specs.Deciding.{required_of}

-- the place at the first of the 64 numbers among which n is
abbrev pub RowOf : Men → ℕ → Place → Type 0
RowOf m n q = StandsAt m (n / 64 * 64) q

-- the row's place with the last man on a square, the first of one man and the second of two; on 64 he is off the board
abbrev pub with_last : Men → Place → ℕ → Place
with_last m q s = record {
  side = q.side;
  white = q.white;
  black = q.black;
  first = cond (leb 4 m.second) s q.first;
  second = cond (leb 4 m.second) q.second s;
}

-- his kind and his side
abbrev pub last_kind : Men → ℕ
last_kind m = cond (leb 4 m.second) m.first m.second

abbrev pub last_owner : Men → ℕ
last_owner m = cond (leb 4 m.second) 0 m.colour

-- the set of the last man's squares at which the number is used and its position legal
abbrev pub LegalRow : Men → ℕ → ℕ → Type 0
LegalRow m n set = (s : ℕ) → s < 64 → has set s ≡ legal_number_of (material_for m) (n / 64 * 64 + s)

-- with the last man on any other square the side to move is not in check
abbrev pub ChecksIn : Men → Place → ℕ → Type 0
ChecksIn m q set = (s : ℕ) → s < 64 → Complete m (with_last m q s) → has set s ≡ false
    → in_check (board_in m (with_last m q s)) q.side ≡ false

-- with the last man on any other square there is no mate, whatever bytes the tables hold
abbrev pub MateRow : Men → ℕ → ℕ → Type 0
MateRow m n set = (s : ℕ) → s < 64 → has set s ≡ false → (first second table : List ℕ)
    → false ≡ required_of m first second table 0 (n / 64 * 64 + s)

-- The pieces that stand still are apart, and nothing gives a lower number: no exchange of file and rank, or of men.
pub record PlainRow (m : Men) (q : Place) : Type 0 where
  pub unlike : alike m ≡ false
  pub clear : (eqb q.white q.first || eqb q.black q.first) ≡ false
  pub exchange : exchange_of q.white q.black ≡ 0
