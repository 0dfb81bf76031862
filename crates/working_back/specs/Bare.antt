-- A black king without men, who came to `to` from another square (02, P11): White's pieces stand still. Definitions only.
use Rattle.std.specs.Prelude.{◌≡◌, Bool, true, false, cond, ◌||◌, List, ℕ, ◌+◌, ◌<◌, T, eqb, get_or, set}
use Rattle.theory.specs.Judge.{refutes}
use Rattle.board.specs.Reach.{reaches}
use Rattle.board.specs.Sets.{has}
use Rattle.numbering.specs.Number.{number_of}
use Rattle.position.specs.Posed.{board_in}
use Rattle.position.specs.declared.Men.{Men}
use Rattle.position.specs.declared.Place.{Place}
use Rattle.retracting.specs.Retracting.{LegalLeft}

-- a white king and two men, and the black king on a square
abbrev pub bare_on : ℕ → ℕ → ℕ → ℕ → ℕ → Place
bare_on side white black x y = record { side = side; white = white; black = black; first = x; second = y }

-- White's pieces before the move into q, by their squares
pub record Bare (m : Men) (q : Place) (taken to white x y : ℕ) : Type 0 where
  pub legal : LegalLeft m q taken
  pub side : q.side ≡ 0
  pub colour : m.colour ≡ 0
  pub king : to ≡ q.black
  pub at-white : white ≡ q.white
  pub at_first : x ≡ cond (eqb taken 1) to q.first
  pub at_second : y ≡ cond (eqb taken 2) to q.second

-- White's pieces stand there
abbrev pub stood_on : ℕ → ℕ → ℕ → ℕ → Bool
stood_on white x y u = eqb u white || (eqb u x || eqb u y)

-- they attack t, the black king lifted
abbrev pub struck_by : Men → ℕ → ℕ → ℕ → ℕ → Bool
struck_by m white x y t =
    reaches (has 0) 5 white t || (reaches (stood_on white x y) m.first x t || reaches (stood_on white x y) m.second y t)

-- the byte with the black king on s and White to move
abbrev pub byte_on : Men → List ℕ → ℕ → ℕ → ℕ → ℕ → ℕ
byte_on m t white x y s = get_or t (number_of (board_in m (bare_on 0 white s x y))) 0

-- one of these squares saves him from a loss in k, or none
pub record Saves (m : Men) (k white x y : ℕ) (t : List ℕ) (goals : ℕ) (r : Bool) : Type 0 where
  pub one : r ≡ true → (s : ℕ) × (s < 64) × T (has goals s) × (refutes (2 + k) (byte_on m t white x y s) ≡ true)
  pub none : r ≡ false → (s : ℕ) → s < 64 → T (has goals s) → refutes (2 + k) (byte_on m t white x y s) ≡ false

-- what is known of the squares that he may go to: of those in one set that they save him, of those in the other that they do not
pub record Knows (m : Men) (k white x y : ℕ) (t : List ℕ) (saving harmless : ℕ) : Type 0 where
  pub saves : (s : ℕ) → s < 64 → T (has saving s) → refutes (2 + k) (byte_on m t white x y s) ≡ true
  pub clears : (s : ℕ) → s < 64 → T (has harmless s) → refutes (2 + k) (byte_on m t white x y s) ≡ false

-- one of these squares saves him, or the number is settled
pub data QuietLoss (m : Men) (k white x y goals n : ℕ) (u v : List ℕ) : ℕ → Type 0 where
  saved : Saves m k white x y u goals true → v ≡ u → QuietLoss m k white x y goals n u v 0
  lost : Saves m k white x y u goals false → v ≡ set u n (2 + k) → QuietLoss m k white x y goals n u v 1
