-- One piece's squares while all others stand still, and the numbers they make. Definitions only.
use Rattle.std.specs.Prelude.{◌≡◌, Bool, cond, ◌&&◌, ℕ, ◌+◌, ◌*◌, ◌/◌, ◌%◌, ◌^◌, ◌<◌, ◌≤◌, T, ltb}
use Rattle.std.specs.Int.Count.{ones}
use Rattle.board.specs.SetLaws.{bit}
use Rattle.numbering.specs.Kings.{separate}
use Rattle.numbering.specs.Number.{number_of}
use Rattle.pairs.specs.Rows.{partners_of}
use Rattle.position.specs.declared.Men.{Men}
use Rattle.position.specs.declared.Place.{Place}
use Rattle.position.specs.Posed.{board_in}
use Rattle.index.specs.declared.Still.{Still}
use Rattle.index.specs.Seats.{Seated, alike, alone, key_at}

-- in the triangle a1-d1-d4, off its diagonal
abbrev pub at_home : ℕ → Bool
at_home white = ltb (white / 8) (white % 8) && ltb (white % 8) 4

-- Black's squares that form a pair with a white king who stands there
abbrev pub row_beside : ℕ → ℕ
row_beside white = cond (at_home white) (partners_of white) 0

-- a king's squares, White's or Black's: the place with either side to move
abbrev pub king_on : Bool → ℕ → ℕ → ℕ → ℕ → ℕ → ℕ → Place
king_on whites white black x y side s = record {
  side = side;
  white = cond whites s white;
  black = cond whites black s;
  first = x;
  second = y;
}

-- the keys of a piece's squares, from the key of the place where it stands on a1
pub record Keyed (q : Place) (unit : ℕ) (place : ℕ → ℕ → Place) : Type 0 where
  pub alone-is : (side s : ℕ) → s < 64 → alone q ≡ alone (place side s)
  pub side-is : (side s : ℕ) → side ≡ (place side s).side
  pub key-is : (side s : ℕ) → s < 64 → key_at q + s * unit ≡ key_at (place side s)

-- what the others fix of the numbers of a piece's squares
pub record Stands (m : Men) (l : Still) (place : ℕ → ℕ → Place) : Type 0 where
  pub base-fits : l.base < 2 ^ 27
  pub unit-fits : l.unit ≤ 262144
  pub like_is : l.like ≡ alike m
  pub alone-is : (side s : ℕ) → s < 64 → l.single ≡ alone (place side s)
  pub side-is : (side s : ℕ) → side ≡ (place side s).side
  pub key-is : l.row ≡ 0 → (side s : ℕ) → s < 64 → l.base + s * l.unit ≡ key_at (place side s)
  pub row_is : (l.row ≡ 0 → ⊥) → (side s : ℕ) → s < 64 → Seated m (place side s) → T (separate (place side s).white (place side s).black)
      → (side * 462 + ones (l.row % bit s)) * l.unit + l.base ≡ number_of (board_in m (place side s))
