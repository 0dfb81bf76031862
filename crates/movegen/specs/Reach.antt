-- What the laws of the targets on a place, and the contracts of the code, speak of. Definitions only.
use Rattle.std.specs.Prelude.{◌≡◌, Bool, true, false, not, ◌&&◌, ℕ, ◌-◌, ◌<◌, eqb}
use Rattle.board.specs.Reach.{reaches}
use Rattle.board.specs.Sets.{has, set_of}
use Rattle.rules.specs.Rules.{piece_of, occupied, king, touching, stands}
use Rattle.position.specs.declared.Men.{Men}
use Rattle.position.specs.declared.Place.{Place}
use Rattle.position.specs.Over.{goes_over, lifted}
use Rattle.position.specs.Posed.{board_in}
use Rattle.position.specs.Spread.{Pawnless, Spread}
use Rattle.movegen.specs.Places.{piece_strikes, men_strike}

-- the one piece on a square, and who it is
pub record Alone (m : Men) (q : Place) (kind owner square : ℕ) : Type 0 where
  pub goes : (occ : ℕ → Bool) (t : ℕ)
      → goes_over occ (board_in m q) square t ≡ (eqb owner q.side && reaches occ kind square t)
  pub own : owner ≡ q.side → square < 64 → stands (board_in m q) q.side square ≡ true
  pub foes : owner ≡ q.side → square < 64 → stands (board_in m q) (1 - q.side) square ≡ false

-- a man of the ending, who stands on no king's square
pub record Man (m : Men) (q : Place) (kind owner square : ℕ) : Type 0 where
  pub alone : Alone m q kind owner square
  pub white : q.white ≡ square → ⊥
  pub black : q.black ≡ square → ⊥

-- a man's square, where the kings do not touch
pub record Stays (m : Men) (q : Place) (from : ℕ) : Type 0 where
  pub square : from < 64
  pub white : q.white ≡ from → ⊥
  pub black : q.black ≡ from → ⊥
  pub kings : touching (board_in m q) ≡ false
  pub pawnless : Pawnless m q

-- what code has in hand when it comes to a piece: the occupied squares, the mover's own, and those his foes' men
-- attack, his king lifted
pub record View (m : Men) (q : Place) (occ own strike : ℕ) : Type 0 where
  pub spread : Spread m q
  pub occ-is : occ ≡ set_of (occupied (board_in m q))
  pub own_is : own ≡ set_of (stands (board_in m q) q.side)
  pub strike-is : (t : ℕ) → t < 64
      → has strike t ≡ men_strike m q (lifted (has occ) (king (board_in m q) q.side)) (1 - q.side) t

-- a man, and the targets that his own side leaves free: none for a man of the other side, or one who is not there
pub record Mover (m : Men) (q : Place) (occ kind owner square free : ℕ) : Type 0 where
  pub own : ℕ
  pub reach : ℕ
  pub spread : Spread m q
  pub man : Man m q kind owner square
  pub occ-is : occ ≡ set_of (occupied (board_in m q))
  pub own_is : own ≡ set_of (stands (board_in m q) q.side)
  pub reach-is : (t : ℕ) → t < 64 → has reach t ≡ piece_strikes (has occ) q.side t (piece_of kind owner square)
  pub free-is : free ≡ set_of (λ (u : ℕ). has reach u && not (has own u))
