-- Moves taken back (02, P11): "Its retractions from a position are exactly the legal positions of the ending filled that have a legal move into it."
-- Definitions only.
use Rattle.std.specs.Prelude.{◌≡◌, Bool, false, cond, not, ◌&&◌, ◌||◌, ℕ, ◌-◌, ◌<◌, T, leb, eqb}
use Rattle.board.specs.Sets.{has, set_of}
use Rattle.board.specs.Reach.{reaches}
use Rattle.rules.specs.Rules.{occupied, touching, legal, can_move}
use Rattle.position.specs.declared.Men.{Men}
use Rattle.position.specs.declared.Place.{Place}
use Rattle.position.specs.Posed.{board_in, material_for, Complete}
use Rattle.numbering.specs.Material.{known}
use Rattle.movegen.specs.Places.{place_after}

-- o is a legal position of the ending, and has a legal move that leads to q
pub record Leads (m : Men) (o : Place) (from to : ℕ) (q : Place) : Type 0 where
  pub complete : Complete m o
  pub legality : T (legal (board_in m o))
  pub can : T (can_move (board_in m o) from to)
  pub arrives : place_after o from to ≡ q

-- a man taken on a square put there again: 1 is the first, 2 the second, and with 0 none was taken
unfoldable pub put_again : ℕ → ℕ → Place → Place
put_again taken to p = record {
  side = p.side;
  white = p.white;
  black = p.black;
  first = cond (eqb taken 1) to p.first;
  second = cond (eqb taken 2) to p.second;
}

-- the place before a move: the piece that stands on its target put back, what it took put there again, the other side to move
abbrev pub place_before : Place → ℕ → ℕ → ℕ → Place
place_before q taken from to = put_again taken to (place_after q to from)

-- who is missing: nobody, or one of two men
pub data Missing (m : Men) (q : Place) : ℕ → Type 0 where
  nobody : q.first < 64 → leb 64 q.second ≡ leb 4 m.second → Missing m q 0
  first : q.first ≡ 64 → q.second < 64 → m.second < 4 → Missing m q 1
  second : q.first < 64 → q.second ≡ 64 → m.second < 4 → Missing m q 2

-- a legal position of an ending's men, or of what a capture leaves of two
pub record LegalLeft (m : Men) (q : Place) (taken : ℕ) : Type 0 where
  pub ending : T (known (material_for m))
  pub colour : m.colour < 2
  pub side : q.side < 2
  pub white : q.white < 64
  pub black : q.black < 64
  pub white-black : q.white ≡ q.black → ⊥
  pub white-first : q.white ≡ q.first → ⊥
  pub white-second : q.white ≡ q.second → ⊥
  pub black-first : q.black ≡ q.first → ⊥
  pub black-second : q.black ≡ q.second → ⊥
  pub first-second : q.first ≡ q.second → ⊥
  pub missing : Missing m q taken
  pub legality : T (legal (board_in m q))

-- whose the man was who was taken
abbrev pub loser : Men → ℕ → ℕ
loser m taken = cond (eqb taken 1) 0 m.colour

-- the piece of an ending on a square: its kind and its colour
pub data Seat (m : Men) (q : Place) : ℕ → ℕ → ℕ → Type 0 where
  white : Seat m q 5 0 q.white
  black : Seat m q 5 1 q.black
  first : Seat m q m.first 0 q.first
  second : Seat m q m.second m.colour q.second

-- The set holds the squares from which the piece on `to` may have come, and no other.
pub record Retracts (m : Men) (q : Place) (taken to set : ℕ) : Type 0 where
  pub sound : (from : ℕ) → from < 64 → T (has set from) → Leads m (place_before q taken from to) from to q
  pub all : (o : Place) (from : ℕ) → Leads m o from to q → T (has set from) × (o ≡ place_before q taken from to)

-- The piece on `to` goes back to this square, which is free: the men are all there then, and if the position is legal, it has that move.
pub record GoesBack (m : Men) (q : Place) (taken from to : ℕ) : Type 0 where
  pub target : to < 64
  pub square : from < 64
  pub free : occupied (board_in m q) from ≡ false
  pub complete : Complete m (place_before q taken from to)
  pub legally : T (legal (board_in m (place_before q taken from to))) → Leads m (place_before q taken from to) from to q

-- The set holds the squares from which the piece on `to` may have come, and others only to which it goes back, though not from a legal position.
pub record StepsBack (m : Men) (q : Place) (taken to set : ℕ) : Type 0 where
  pub sound : (from : ℕ) → from < 64 → T (has set from) → GoesBack m q taken from to
  pub all : (o : Place) (from : ℕ) → Leads m o from to q → T (has set from) × (o ≡ place_before q taken from to)

-- the men are all there, no two on one square: complete where the kings do not touch
abbrev pub CompleteApart : Men → Place → Type 0
CompleteApart m q = touching (board_in m q) ≡ false → Complete m q

-- a man of the mover's who has not moved attacks t
abbrev pub still_strikes : (ℕ → Bool) → ℕ → ℕ → ℕ → ℕ → ℕ → ℕ → Bool
still_strikes occ owner to t colour kind square = (eqb colour owner && not (eqb square to)) && reaches occ kind square t

abbrev pub others_strike : Men → Place → (ℕ → Bool) → ℕ → ℕ → ℕ → Bool
others_strike m q occ owner to t =
    still_strikes occ owner to t 0 m.first q.first || still_strikes occ owner to t m.colour m.second q.second

-- the free squares that a piece on `to` goes to, over the occupied ones
pub record Steps (m : Men) (q : Place) (kind to occ squares : ℕ) : Type 0 where
  pub occupied-all : occ ≡ set_of (occupied (board_in m q))
  pub squares-all : (s : ℕ) → s < 64 → has squares s ≡ (reaches (occupied (board_in m q)) kind to s && not (occupied (board_in m q) s))

-- ---- what a capture leaves of two men, by the ending of the man left alone

-- the ending of the man left alone: with the first taken it is the second's
abbrev pub lone_of : Men → ℕ → Men
lone_of m taken = record { first = cond (eqb taken 1) m.second m.first; second = 4; colour = 0 }

-- His place there as one of the two men's: the first man is White's; the second may be Black's, and then the colours are exchanged.
unfoldable pub left_place : Men → ℕ → Place → Place
left_place m taken t =
    cond (eqb taken 1)
    (cond (eqb m.colour 1) (record { side = 1 - t.side; white = t.black; black = t.white; first = 64; second = t.first })
    (record { side = t.side; white = t.white; black = t.black; first = 64; second = t.first }))
    (record { side = t.side; white = t.white; black = t.black; first = t.first; second = 64 })
