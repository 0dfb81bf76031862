-- An ending's men on a place, apart from each other. Definitions only.
use Rattle.std.specs.Prelude.{◌≡◌, false, ◌≤◌, ◌<◌}
use Rattle.rules.specs.Rules.{touching}
use Rattle.position.specs.declared.Men.{Men}
use Rattle.position.specs.declared.Place.{Place}
use Rattle.position.specs.Posed.{board_in}

-- no pawn among the men on the board; an absent man has any kind
pub record Pawnless (m : Men) (q : Place) : Type 0 where
  pub first : m.first ≡ 4 → 64 ≤ q.first
  pub second : m.second ≡ 4 → 64 ≤ q.second

-- the pieces stand apart; a second man may be absent, and then is off the board
pub record Spread (m : Men) (q : Place) : Type 0 where
  pub side : q.side < 2
  pub white : q.white < 64
  pub black : q.black < 64
  pub first : q.first < 64
  pub white-black : q.white ≡ q.black → ⊥
  pub white-first : q.white ≡ q.first → ⊥
  pub white-second : q.white ≡ q.second → ⊥
  pub black-first : q.black ≡ q.first → ⊥
  pub black-second : q.black ≡ q.second → ⊥
  pub first-second : q.first ≡ q.second → ⊥
  pub kings : touching (board_in m q) ≡ false
  pub pawnless : Pawnless m q
