-- A pawn and two kings as code has them: places, and the normal place of a position as keyed. Definitions only.
use Rattle.std.specs.Prelude.{Bool, cond, [], ◌∷◌, ℕ, ◌+◌, ◌/◌, ◌%◌}
use Rattle.symmetry.specs.Symmetry.{mapped}
use Rattle.rules.specs.Rules.{Board, piece_of}
use Rattle.rules.specs.Changed.{swapped}
use Rattle.rules.specs.Changed.{keeping}
use Rattle.pawn_numbers.specs.declared.PawnPlace.{PawnPlace}
use Rattle.pawn_numbers.specs.declared.PawnNormal.{PawnNormal}
use Rattle.pawn_numbers.specs.PawnNumber.{lone, flipped, pawn_flip, slot_square}

-- the board with a pawn of this colour
abbrev pub pawn_in : ℕ → ℕ → ℕ → ℕ → ℕ → Board
pawn_in colour side white black square =
    record { side = side; white = white; black = black; men = piece_of 4 colour square ∷ [] }

-- the board of a place, whose pawn is White's
abbrev pub seated : PawnPlace → Board
seated q = pawn_in 0 q.side q.white q.black q.pawn

-- where a board's kings and pawn stand
abbrev pub place_in : Board → PawnPlace
place_in b = record { side = b.side; white = b.white; black = b.black; pawn = (lone b.men).square }

-- the place of a number
unfoldable pub place_of : ℕ → PawnPlace
place_of n = record {
  side = n / 4096 / 24 % 2;
  white = n / 64 % 64;
  black = n % 64;
  pawn = slot_square (n / 4096 % 24);
}

-- the bits of a square that a flip turns over: 7 for the files, 56 for the ranks
abbrev pub flip_bits : Bool → Bool → ℕ
flip_bits files colours = cond files 7 0 + cond colours 56 0

-- the place under a flip; the king named first becomes White's
unfoldable pub place_by : Bool → Bool → ℕ → ℕ → ℕ → ℕ → PawnPlace
place_by files colours side white black pawn = record {
  side = swapped colours side;
  white = mapped (keeping files colours) white;
  black = mapped (keeping files colours) black;
  pawn = mapped (keeping files colours) pawn;
}

-- the normal place of a position as keyed, and the flip that leads to it
unfoldable pub normal_of : ℕ → ℕ → ℕ → ℕ → ℕ → PawnNormal
normal_of colour side white black square =
    let b = pawn_in colour side white black square in
    record {
      place = place_in (flipped (pawn_flip b) b);
      files = (pawn_flip b).files;
      colours = (pawn_flip b).colours;
    }
